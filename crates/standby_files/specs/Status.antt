-- The status of a run over record lines, with its cause.
use Rattle.std.specs.Prelude.{◌≡◌, ◌⊎◌, ◌≤◌, ℕ, List, ◌∷◌, [], ◌++◌, Option, Result}
use Rattle.news_types.specs.Names.{Bytes}
use Rattle.news_io.specs.Faults.{Rose}
use Rattle.news_io.specs.Keeper.{KeeperMeaning, Leaves}
use Rattle.news_io.specs.Source.{SourceMeaning}
use Rattle.news_io.specs.Sink.{SinkMeaning}
use Rattle.run_status.specs.Status.{number_of, line_of}
use Rattle.run_status.specs.Output.{AllPassed, Told}
use Rattle.record_lines.specs.Spelling.{Numbered}
use Rattle.room_standby.specs.Holds.{IsOfEntry}
use Rattle.room_standby.specs.declared.standby.Standby.{Standby}
use Rattle.frame_run.specs.Run.{Ends}
use Rattle.frame_run.specs.Status.{status_of}
use Rattle.frame_run.specs.declared.ending.Ending.{Ending}
use Rattle.standby_files.specs.Answers.{Copied, holding, Stands, Between}
use Rattle.standby_files.specs.Run.{Ran}

pub record IsRun {K S O : Type 0} (keeper : KeeperMeaning K) (source : SourceMeaning S) (sink : SinkMeaning O) (most : ℕ) (i i' : S) (old new : Standby K) (o o' : O) (b : Copied) (status : ℕ) : Type 0 where
  pub result : Result (Unit {0}) Ending
  pub status_is : status ≡ number_of (status_of result)
  -- the output before the status line
  pub mid : O
  pub ran : Ran keeper source sink most i i' old new o mid b result
  pub ends : Ends (source.faults i) (source.faults i') (keeper.faults old.keeper) (keeper.faults new.keeper) (sink.faults o) (sink.faults mid) result
  pub line : Told sink mid o' (line_of (status_of result))
  -- all that was written has passed on, unless the output has failed
  pub passed : sink.tells o → AllPassed sink o' ⊎ Rose (sink.faults o) (sink.faults o')
  pub done : status ≡ 0 → sink.tells o → AllPassed sink o'

-- it has payloads that go on from b's; a crash at any moment of the call leaves b's and the first few of those behind them, or b's with what was in
-- doubt before, or all with what is in doubt now; a crash afterwards leaves all, or all and one in doubt
pub record CrashLeaves {K : Type 0} (keeper : KeeperMeaning K) (old new : Standby K) (b : Copied) : Type 0 where
  pub held : List Bytes
  pub list : Stands keeper new (holding held b)
  pub more : (more : List Bytes) × (held ≡ b.held ++ more)
  pub later : keeper.moment old.keeper ≤ keeper.moment new.keeper
  pub each : (found : Option (List Bytes)) → keeper.left_since new.keeper (keeper.moment old.keeper) found → Between b.held held (keeper.doubts old.keeper) (keeper.doubts new.keeper) found
  pub now : (found : Option (List Bytes)) → keeper.left_since new.keeper (keeper.moment new.keeper) found → Leaves held (keeper.doubts new.keeper) found

-- each of them has the payload of an entry
abbrev pub AllEntries : List Numbered → Type 0
AllEntries [] = Unit {0}
AllEntries (r ∷ records) = IsOfEntry r.payload × AllEntries records

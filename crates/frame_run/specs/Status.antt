-- The status of a run, with its cause.
use Rattle.std.specs.Prelude.{◌≡◌, ◌⊎◌, ◌≤◌, ℕ, List, ◌++◌, map, Option, Result, Ok, Err}
use Rattle.news_types.specs.Names.{Bytes}
use Rattle.news_types.specs.Frames.{Frame}
use Rattle.news_io.specs.Faults.{Rose}
use Rattle.news_io.specs.Keeper.{KeeperMeaning, Leaves}
use Rattle.news_io.specs.Source.{SourceMeaning}
use Rattle.news_io.specs.Sink.{SinkMeaning}
use Rattle.run_status.specs.Status.{number_of, line_of}
use Rattle.run_status.specs.declared.status.Status.{Status}
use Rattle.run_status.specs.declared.status.Status.TheVariants as status
use Rattle.run_status.specs.Output.{AllPassed, Told}
use Rattle.feed_receiver.specs.declared.receiver.Receiver.{Receiver}
use Rattle.feed_receiver.specs.Spelling.{frame_bytes}
use Rattle.feed_receiver.specs.Holds.{Received, Holds}
use Rattle.frame_run.specs.Answers.{holding, Between}
use Rattle.frame_run.specs.Run.{Ran, Ends}
use Rattle.frame_run.specs.declared.ending.Ending.{Ending}
use Rattle.frame_run.specs.declared.ending.Ending.TheVariants as end

-- what a run ends with, by what ended it
abbrev pub status_by : Ending → Status
status_by end.Read = status.Input
status_by end.Write = status.Output
status_by end.Store = status.Store
status_by end.Full = status.Full
status_by end.Memory = status.Memory
status_by end.TooLong = status.TooLong
status_by (end.BadFrame at) = status.BadFrame at

abbrev pub status_of : Result (Unit {0}) Ending → Status
status_of (Ok u) = status.Done
status_of (Err why) = status_by why

pub record IsRun {K S O : Type 0} (keeper : KeeperMeaning K) (source : SourceMeaning S) (sink : SinkMeaning O) (most : ℕ) (i i' : S) (old new : Receiver K) (o o' : O) (b : Received) (status : ℕ) : Type 0 where
  pub result : Result (Unit {0}) Ending
  pub status_is : status ≡ number_of (status_of result)
  -- the output before the status line
  pub mid : O
  pub ran : Ran keeper source sink most i i' old new o mid b result
  pub ends : Ends (source.faults i) (source.faults i') (keeper.faults old.keeper) (keeper.faults new.keeper) (sink.faults o) (sink.faults mid) result
  pub line : Told sink mid o' (line_of (status_of result))
  -- all that was written has passed on, unless the output has failed
  pub passed : sink.tells o → AllPassed sink o' ⊎ Rose (sink.faults o) (sink.faults o')
  pub done : status ≡ 0 → sink.tells o → AllPassed sink o'

-- it holds frames that go on from b's; a crash at any moment of the call leaves b's and the first few of the frames behind them, or b's with what was in
-- doubt before, or all with what is in doubt now; a crash afterwards leaves all, or all and one in doubt
pub record CrashLeaves {K : Type 0} (keeper : KeeperMeaning K) (old new : Receiver K) (b : Received) : Type 0 where
  pub frames : List Frame
  pub list : Holds keeper new (holding frames b)
  pub more : (more : List Frame) × (frames ≡ b.frames ++ more)
  pub later : keeper.moment old.keeper ≤ keeper.moment new.keeper
  pub each : (found : Option (List Bytes)) → keeper.left_since new.keeper (keeper.moment old.keeper) found → Between b.frames frames (keeper.doubts old.keeper) (keeper.doubts new.keeper) found
  pub now : (found : Option (List Bytes)) → keeper.left_since new.keeper (keeper.moment new.keeper) found → Leaves (map frame_bytes frames) (keeper.doubts new.keeper) found

-- where nothing failed and the input is frames, not too many, only the limit and want of memory keep the run from its end
abbrev pub IsComplete : ℕ → Type 0
IsComplete status = (status ≡ 0) ⊎ ((status ≡ 8) ⊎ (status ≡ 9))

-- The status of a run, with its cause.
use Rattle.std.specs.Prelude.{◌≡◌, ◌⊎◌, ◌≤◌, ℕ, List, ◌++◌, Result, Ok, Err}
use Rattle.news_io.specs.Faults.{Rose}
use Rattle.news_io.specs.Left.{IsLeft, Between}
use Rattle.line_run.specs.Life.{Meaning, Life}
use Rattle.run_status.specs.Status.{number_of, line_of}
use Rattle.run_status.specs.declared.status.Status.{Status}
use Rattle.run_status.specs.declared.status.Status.TheVariants as status
use Rattle.run_status.specs.Output.{AllPassed, Told}
use Rattle.line_run.specs.Run.{Ran, Ends}
use Rattle.line_run.specs.declared.ending.Ending.{Ending}
use Rattle.line_run.specs.declared.ending.Ending.TheVariants as end
use Rattle.news_io.specs.Source.{SourceMeaning}
use Rattle.news_io.specs.Sink.{SinkMeaning}

-- what a run ends with, by what ended it
abbrev pub status_by : Ending → Status
status_by end.Read = status.Input
status_by end.Write = status.Output
status_by end.Store = status.Store
status_by end.Full = status.Full
status_by end.Memory = status.Memory
status_by end.TooLong = status.TooLong

abbrev pub status_of : Result (Unit {0}) Ending → Status
status_of (Ok u) = status.Done
status_of (Err why) = status_by why

pub record IsRun {T C S A O X : Type 0} (M : Meaning T X) (L : Life T C A) (fails : A → ℕ) (source : SourceMeaning S) (sink : SinkMeaning O) (decided all : List ℕ → List X) (most : ℕ) (i i' : S) (old new : A) (o o' : O) (h : List T) (status : ℕ) : Type 0 where
  pub result : Result (Unit {0}) Ending
  pub status_is : status ≡ number_of (status_of result)
  -- the output before the status line
  pub mid : O
  pub ran : Ran M L source sink decided all most i i' old new o mid h result
  pub ends : Ends (source.faults i) (source.faults i') (fails old) (fails new) (sink.faults o) (sink.faults mid) result
  pub line : Told sink mid o' (line_of (status_of result))
  -- all that was written has passed on, unless the output has failed
  pub passed : sink.tells o → AllPassed sink o' ⊎ Rose (sink.faults o) (sink.faults o')
  pub done : status ≡ 0 → sink.tells o → AllPassed sink o'

-- it stands for a list that goes on from h; a crash at any moment of the call leaves h and the first few of the entries behind it, or h with what was in
-- doubt before, or the whole list with what is in doubt now; a crash afterwards leaves the whole list, or it and one in doubt
pub record CrashLeaves {T C A : Type 0} (L : Life T C A) (old new : A) (h : List T) : Type 0 where
  pub list : List T
  pub stands : L.stands new list
  pub more : (more : List T) × (list ≡ more ++ h)
  pub later : L.moment old ≤ L.moment new
  pub each : (found : C) → L.left_since new (L.moment old) found → Between L.opens h list (L.doubts old) (L.doubts new) found
  pub now : (found : C) → L.left_since new (L.moment new) found → IsLeft L.opens list (L.doubts new) found

-- where nothing failed and the input is not too long, only the limit and want of memory keep the run from its end
abbrev pub IsComplete : ℕ → Type 0
IsComplete status = (status ≡ 0) ⊎ ((status ≡ 8) ⊎ (status ≡ 9))

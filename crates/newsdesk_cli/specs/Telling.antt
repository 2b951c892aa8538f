-- What a command tells, and with which status it ends.
use Rattle.std.specs.Prelude.{◌≡◌, ◌⊎◌, ℕ, List, take}
use Rattle.news_io.specs.Faults.{Rose}
use Rattle.news_io.specs.Sink.{SinkMeaning}
use Rattle.run_status.specs.Output.{Wrote, AllPassed, Told}
use Rattle.run_status.specs.Status.{number_of, line_of}
use Rattle.run_status.specs.declared.status.Status.TheVariants.{Usage}
use Rattle.store_files.specs.Trouble.{status_of}
use Rattle.store_files.specs.declared.trouble.Trouble.{Trouble}
use Rattle.store_files.specs.declared.trouble.Trouble.TheVariants as trouble

module _ {O : Type 0} (sink : SinkMeaning O) where
  -- all of it was written and has passed on, and the output did not fail
  pub record IsWritten (old new : O) (line : List ℕ) : Type 0 where
    pub wrote : Wrote sink old new line
    pub passed : sink.tells old → AllPassed sink new
    pub calm : sink.faults new ≡ sink.faults old

  -- the first of it was written, and the output has failed
  pub record IsCut (old new : O) (line : List ℕ) : Type 0 where
    pub count : ℕ
    pub wrote : Wrote sink old new (take count line)
    pub rose : Rose (sink.faults old) (sink.faults new)

  -- the status, and the line that tells it
  pub record IsStopped (t : Trouble) (old new : O) (status : ℕ) : Type 0 where
    pub status_is : status ≡ number_of (status_of t)
    pub line : Told sink old new (line_of (status_of t))

  -- an answer's line was written; or the first of it, where the output has failed
  abbrev pub IsTold : List ℕ → O → O → ℕ → Type 0
  IsTold line old new status = ((status ≡ 0) × IsWritten old new line) ⊎ ((status ≡ 5) × IsCut old new line)

  -- so; or there was no memory for it
  abbrev pub IsAnswered : List ℕ → O → O → ℕ → Type 0
  IsAnswered line old new status = IsTold line old new status ⊎ IsStopped trouble.Memory old new status

  -- the words are no command
  pub record IsRefusedUse (old new : O) (status : ℕ) : Type 0 where
    pub status_is : status ≡ number_of Usage
    pub line : Told sink old new (line_of Usage)

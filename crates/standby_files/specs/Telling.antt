-- What is told at the end, and with which status.
use Rattle.std.specs.Prelude.{◌≡◌, ◌⊎◌, ℕ, List, take}
use Rattle.news_io.specs.Faults.{Rose}
use Rattle.news_io.specs.Sink.{SinkMeaning}
use Rattle.run_status.specs.Output.{Wrote, AllPassed, Told}
use Rattle.run_status.specs.Status.{number_of, line_of}
use Rattle.run_status.specs.declared.status.Status.{Status}
use Rattle.store_files.specs.Trouble.{status_of}
use Rattle.store_files.specs.declared.trouble.Trouble.{Trouble}

module _ {O : Type 0} (sink : SinkMeaning O) where
  -- all of it was written and has passed on, and the output did not fail
  pub record IsWritten (old new : O) (line : List ℕ) : Type 0 where
    pub wrote : Wrote sink old new line
    pub passed : sink.tells old → AllPassed sink new
    pub calm : sink.faults new ≡ sink.faults old

  -- the first of it was written, and the output has failed
  pub record IsCut (old new : O) (line : List ℕ) : Type 0 where
    pub count : ℕ
    pub wrote : Wrote sink old new (take count line)
    pub rose : Rose (sink.faults old) (sink.faults new)

  -- the status, and the line that tells it
  pub record IsStopped (t : Trouble) (old new : O) (status : ℕ) : Type 0 where
    pub status_is : status ≡ number_of (status_of t)
    pub line : Told sink old new (line_of (status_of t))

  -- a line was written, and then the line that tells this status
  pub record IsToldWhole (line : List ℕ) (s : Status) (old new : O) (status : ℕ) : Type 0 where
    pub between : O
    pub written : IsWritten old between line
    pub status_is : status ≡ number_of s
    pub told : Told sink between new (line_of s)

  -- so; or the first of the line was written, and the output has failed
  abbrev pub IsTold : List ℕ → Status → O → O → ℕ → Type 0
  IsTold line s old new status = IsToldWhole line s old new status ⊎ ((status ≡ 5) × IsCut old new line)

-- files that hold a list are not refused for their bytes, and a failure is told only where the count of the disks rose
pub record IsServed (before now status : ℕ) : Type 0 where
  pub own : status ≡ 3 → ⊥
  pub whole : status ≡ 7 → ⊥
  pub failed : status ≡ 6 → Rose before now

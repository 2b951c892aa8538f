-- What the output took of a report.
use Rattle.std.specs.Prelude.{◌≡◌, ◌⊎◌, ℕ, List, [], ◌∷◌, ◌++◌}
use Rattle.news_types.specs.Names.{Bytes}
use Rattle.news_io.specs.Faults.{Rose}
use Rattle.news_io.specs.Sink.{SinkMeaning, AreFirst}
use Rattle.run_status.specs.Output.{Wrote, AllPassed, Told}
use Rattle.run_status.specs.Status.{number_of, line_of}
use Rattle.run_status.specs.declared.status.Status.{Status}

-- lines that are whole, or none
abbrev pub AreLines : Bytes → Type 0
AreLines bytes = (bytes ≡ []) ⊎ ((before : Bytes) × (bytes ≡ before ++ 10 ∷ []))

module _ {O : Type 0} (sink : SinkMeaning O) where
  -- all of it, which has passed on, and the output did not fail
  pub record IsWhole (report : Bytes) (old new : O) : Type 0 where
    pub wrote : Wrote sink old new report
    pub passed : sink.tells old → AllPassed sink new
    pub calm : sink.faults new ≡ sink.faults old

  -- its first bytes, and the output has failed
  pub record IsCut (report : Bytes) (old new : O) : Type 0 where
    pub front : Bytes
    pub first : AreFirst front report
    pub wrote : Wrote sink old new front
    pub rose : Rose (sink.faults old) (sink.faults new)

  -- its first lines, and the output did not fail
  pub record IsPart (report : Bytes) (old new : O) : Type 0 where
    pub front : Bytes
    pub first : AreFirst front report
    pub lines : AreLines front
    pub wrote : Wrote sink old new front
    pub calm : sink.faults new ≡ sink.faults old

  -- its first lines, and then the line that there was no memory
  pub record IsStarved (report : Bytes) (old new : O) : Type 0 where
    pub mid : O
    pub part : IsPart report old mid
    pub line : Told sink mid new (line_of Status.Memory)

  -- the report was written, as far as the output and the memory allowed it
  abbrev pub IsWrittenOut : Bytes → O → O → ℕ → Type 0
  IsWrittenOut report old new status = ((status ≡ 0) × IsWhole report old new) ⊎ (((status ≡ 5) × IsCut report old new) ⊎ ((status ≡ 9) × IsStarved report old new))

  -- there is no report: a status, and the line that tells it
  pub record IsStopped (why : Status) (old new : O) (status : ℕ) : Type 0 where
    pub status_is : status ≡ number_of why
    pub line : Told sink old new (line_of why)

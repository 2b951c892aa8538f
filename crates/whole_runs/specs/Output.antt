-- What is told at the end of a run.
use Rattle.std.specs.Prelude.{◌≡◌, ◌⊎◌, ℕ}
use Rattle.news_types.specs.Names.{Bytes}
use Rattle.news_io.specs.Sink.{SinkMeaning}
use Rattle.run_status.specs.declared.status.Status.{Status}
use Rattle.room_reports.specs.Written.{IsWhole, IsCut, IsStopped}

module _ {O : Type 0} (sink : SinkMeaning O) where
  -- all of the text was written and has passed on; or its first bytes, where the output failed; or there was no memory for it
  abbrev pub IsTextTold : Bytes → O → O → ℕ → Type 0
  IsTextTold text old new status = ((status ≡ 0) × IsWhole sink text old new) ⊎ (((status ≡ 5) × IsCut sink text old new) ⊎ IsStopped sink Status.Memory old new status)

-- What was written, and how far.
use Rattle.std.proofs.Common.{◌≡◌, ◌≤◌, ℕ, List, ◌++◌, length, take}
use Rattle.std.specs.Prelude.{Result, Ok, Err, OnOk, OnErr}
use Rattle.news_io.specs.Faults.{Counts}
use Rattle.news_io.specs.Sink.{SinkMeaning}
use Rattle.news_io.specs.declared.faults.Failed.{Failed}
use Rattle.run_status.specs.Output.{AllPassed}
use Rattle.standby_files.specs.Telling.{IsWritten, IsCut}

module _ {O : Type 0} (sink : SinkMeaning O) (old new : O) (bytes : List ℕ) where
  pub written_by : (r : Result (Unit {0}) Failed) → (sink.tells old → sink.tells new) → (sink.tells old → OnOk r (sink.taken new ≡ sink.taken old ++ bytes)) → (sink.tells old → OnOk r (AllPassed sink new)) → Counts (sink.faults old) (sink.faults new) r
      → OnOk r (IsWritten sink old new bytes)
  written_by (Ok u) told ok passed count = record { wrote = record { told = told; bytes = ok }; passed = passed; calm = count.calm }
  written_by (Err why) told ok passed count = tt

  pub cut_by : (r : Result (Unit {0}) Failed) → (sink.tells old → sink.tells new) → OnErr r ((n : ℕ) × (n ≤ length bytes) × (sink.tells old → sink.taken new ≡ sink.taken old ++ take n bytes)) → Counts (sink.faults old) (sink.faults new) r
      → OnErr r (IsCut sink old new bytes)
  cut_by (Ok u) told some count = tt
  cut_by (Err why) told some count = record { count = some.0; wrote = record { told = told; bytes = some.2 }; rose = count.failed }

-- What the output takes of lines.
use Rattle.std.specs.Prelude.{◌≡◌, Result, Ok, Err}
use Rattle.news_types.specs.Names.{Bytes}
use Rattle.news_io.specs.Sink.{SinkMeaning}
use Rattle.run_status.specs.Output.{Wrote}
use Rattle.run_status.specs.declared.status.Status.{Status}
use Rattle.room_reports.specs.Written.{IsCut, IsPart}

module _ {O : Type 0} (sink : SinkMeaning O) where
  -- all of it, of which some may be held back, and the output did not fail
  pub record IsTaken (bytes : Bytes) (old new : O) : Type 0 where
    pub wrote : Wrote sink old new bytes
    pub calm : sink.faults new ≡ sink.faults old

  -- all of it was taken; or the first bytes, where the output failed; or the first lines, for want of memory
  abbrev pub Gives : Bytes → O → O → Result (Unit {0}) Status → Type 0
  Gives bytes old new (Ok u) = IsTaken bytes old new
  Gives bytes old new (Err Status.Output) = IsCut sink bytes old new
  Gives bytes old new (Err Status.Memory) = IsPart sink bytes old new
  Gives bytes old new (Err _) = ⊥

  -- bytes that are written at once: all of them were taken; or the first, where the output failed; or nothing, for want of memory
  abbrev pub GivesOnce : Bytes → O → O → Result (Unit {0}) Status → Type 0
  GivesOnce bytes old new (Ok u) = IsTaken bytes old new
  GivesOnce bytes old new (Err Status.Output) = IsCut sink bytes old new
  GivesOnce bytes old new (Err Status.Memory) = new ≡ old
  GivesOnce bytes old new (Err _) = ⊥

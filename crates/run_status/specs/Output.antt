-- What was written to an output.
use Rattle.std.specs.Prelude.{◌≡◌, ◌⊎◌, ◌<◌, ◌≤◌, ℕ, List, [], ◌++◌, length, take}
use Rattle.news_io.specs.Faults.{Rose}
use Rattle.news_io.specs.Sink.{SinkMeaning}

-- what was added, where it is told
pub record Wrote {O : Type 0} (sink : SinkMeaning O) (old new : O) (written : List ℕ) : Type 0 where
  pub told : sink.tells old → sink.tells new
  pub bytes : sink.tells old → sink.taken new ≡ sink.taken old ++ written

-- all that was written has passed on
abbrev pub AllPassed : {O : Type 0} → SinkMeaning O → O → Type 0
AllPassed sink o = sink.passed o ≡ sink.taken o

-- the line was written and has passed on, or the first of it was written and the output has failed
pub record Told {O : Type 0} (sink : SinkMeaning O) (old new : O) (line : List ℕ) : Type 0 where
  pub count : ℕ
  pub wrote : Wrote sink old new (take count line)
  pub whole : ((length line ≤ count) × (sink.tells old → 0 < length line → AllPassed sink new)) ⊎ Rose (sink.faults old) (sink.faults new)
  pub later : sink.faults old ≤ sink.faults new
  -- without a line nothing is done
  pub silent : line ≡ [] → new ≡ old

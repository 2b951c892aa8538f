-- What an output means that nobody reads.
use Rattle.std.specs.Prelude.{[]}
use Rattle.news_io.specs.Sink.{SinkMeaning}
use Rattle.feed_drill.specs.declared.nowhere.Nowhere.{Nowhere}

-- it takes all, never fails, and tells nothing
abbrev pub nowhere : SinkMeaning Nowhere
nowhere = record {
  faults = λ s. 0;
  tells = λ s. ⊥;
  taken = λ s. [];
  passed = λ s. [];
  in_order = λ s tells. absurd tells;
}

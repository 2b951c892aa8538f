use Rattle.std.proofs.Common.{length, ◌-◌, ◌≢◌, ◌<◌, ◌≤◌, ℕ}
use Rattle.std.specs.Prelude.{slice_index}
use Rattle.news_journal.proofs.heading.count_before_zero.Given as goal

abbrev pub invariant-loop-count : goal.invariant-loop-count
invariant-loop-count l = record {
  within : l.count ≤ length l.bytes;
  before : (k : ℕ) → k < l.count → slice_index l.bytes k ≢ 0;
}

abbrev pub decreases-loop-count : goal.decreases-loop-count
decreases-loop-count l = length l.bytes - l.count

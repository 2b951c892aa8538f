use Rattle.std.proofs.Common.{◌≡◌, ◌≤◌, ◌-◌, ◌++◌, ℕ, List, vec_len}
use Rattle.http_wire.specs.Limits.{most_held}
use Rattle.http_wire.proofs.fill.gather.Given as goal

abbrev pub invariant-loop-bytes : goal.invariant-loop-bytes
invariant-loop-bytes g l = record {
  told : g.S.Source.source.tells l.fn.source → g.S.Source.source.tells l.source;
  input : g.S.Source.source.tells l.fn.source → l.bytes.items ++ g.S.Source.source.ahead l.source ≡ l.fn.bytes.items ++ g.S.Source.source.ahead l.fn.source;
  more : (piece : List ℕ) × (l.bytes.items ≡ l.fn.bytes.items ++ piece);
  held : vec_len l.fn.bytes ≤ most_held → vec_len l.bytes ≤ most_held;
  calm : g.S.Source.source.faults l.source ≡ g.S.Source.source.faults l.fn.source;
}

abbrev pub decreases-loop-bytes : goal.decreases-loop-bytes
decreases-loop-bytes g l = l.until - vec_len l.bytes

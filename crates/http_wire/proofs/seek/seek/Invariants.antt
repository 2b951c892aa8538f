use Rattle.std.proofs.Common.{◌≡◌, ◌≤◌, ◌-◌, ◌++◌, take, vec_len}
use Rattle.http_wire.specs.Limits.{most_head, most_held}
use Rattle.http_wire.specs.Unfinished.{BeginsHead}
use Rattle.http_wire.proofs.seek.seek.Given as goal

abbrev pub invariant-loop-head : goal.invariant-loop-head
invariant-loop-head g l = record {
  told : g.S.Source.source.tells l.fn.source → g.S.Source.source.tells l.source;
  input : g.S.Source.source.tells l.fn.source → l.bytes.items ++ g.S.Source.source.ahead l.source ≡ l.fn.bytes.items ++ g.S.Source.source.ahead l.fn.source;
  within : l.seen ≤ vec_len l.bytes;
  begun : BeginsHead (take l.seen l.bytes.items);
  held : vec_len l.fn.bytes ≤ most_held → vec_len l.bytes ≤ most_held;
  calm : g.S.Source.source.faults l.source ≡ g.S.Source.source.faults l.fn.source;
}

abbrev pub decreases-loop-head : goal.decreases-loop-head
decreases-loop-head g l = most_head - vec_len l.bytes

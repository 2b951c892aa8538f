use Rattle.std.proofs.Common.{◌≡◌, ◌<◌, ◌≤◌}
use Rattle.std.specs.VecDeque.{deque_len, deque_capacity}
use Rattle.publish_queue.specs.Rows.{IsMarked}
use Rattle.publish_queue.proofs.marks.mark_between.Given as goal

-- those so far are marked
abbrev pub invariant-loop-at : goal.invariant-loop-at
invariant-loop-at l = record {
  marked : IsMarked l.numbers l.from l.at l.fn.releases.items l.releases.items;
  short : l.fn.to < l.at → l.at ≤ l.fn.from;
  len : deque_len l.releases ≡ deque_len l.fn.releases;
  capacity : deque_capacity l.releases ≡ deque_capacity l.fn.releases;
}

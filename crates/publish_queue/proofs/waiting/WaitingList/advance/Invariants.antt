use Rattle.std.proofs.Common.{◌≡◌, ◌≤◌}
use Rattle.std.specs.VecDeque.{deque_len, deque_capacity}
use Rattle.publish_queue.specs.Rows.{live, left}
use Rattle.publish_queue.proofs.waiting.WaitingList.advance.Given as goal

-- what is left is left of the whole
abbrev pub invariant-loop : goal.invariant-loop
invariant-loop l = record {
  releases : left l.moment (live l.self.releases.items) ≡ left l.moment (live l.fn.self.releases.items);
  len : deque_len l.self.releases ≤ deque_len l.fn.self.releases;
  capacity : deque_capacity l.self.releases ≡ deque_capacity l.fn.self.releases;
}

abbrev pub decreases-loop : goal.decreases-loop
decreases-loop l = deque_len l.self.releases

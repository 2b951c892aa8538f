use Rattle.std.proofs.Common.{◌≡◌, ◌≤◌}
use Rattle.std.specs.VecDeque.{deque_len, deque_capacity}
use Rattle.publish_queue.specs.Rows.{live, Rising}
use Rattle.publish_queue.proofs.marks.pass_over.Given as goal

-- what is left is as live
abbrev pub invariant-loop-releases : goal.invariant-loop-releases
invariant-loop-releases l = record {
  live : live l.releases.items ≡ live l.fn.releases.items;
  rising : Rising l.fn.releases.items → Rising l.releases.items;
  len : deque_len l.releases ≤ deque_len l.fn.releases;
  capacity : deque_capacity l.releases ≡ deque_capacity l.fn.releases;
}

abbrev pub decreases-loop-releases : goal.decreases-loop-releases
decreases-loop-releases l = deque_len l.releases

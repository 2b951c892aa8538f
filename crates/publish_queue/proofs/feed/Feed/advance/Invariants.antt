use Rattle.std.proofs.Common.{◌≡◌}
use Rattle.std.specs.VecDeque.{deque_len}
use Rattle.publish_queue.specs.Rows.{live, moved, left, number_in, moment_in}
use Rattle.publish_queue.specs.Steps.{SameDelivery, FitsOneMore}
use Rattle.publish_queue.proofs.feed.Feed.advance.Given as goal

-- what is moved so far and what is left to move give the whole
abbrev pub invariant-loop-release : goal.invariant-loop-release
invariant-loop-release l = record {
  delivery : SameDelivery l.fn.self l.self;
  numbers : moved number_in l.moment l.self.row.numbers.items (live l.self.waiting.releases.items) ≡ moved number_in l.moment l.fn.self.row.numbers.items (live l.fn.self.waiting.releases.items);
  releases : moved moment_in l.moment l.self.row.releases.items (live l.self.waiting.releases.items) ≡ moved moment_in l.moment l.fn.self.row.releases.items (live l.fn.self.waiting.releases.items);
  waiting : left l.moment (live l.self.waiting.releases.items) ≡ left l.moment (live l.fn.self.waiting.releases.items);
  turn : l.self.turn ≡ l.fn.self.turn;
  fits : FitsOneMore l.fn.self → FitsOneMore l.self;
}

abbrev pub decreases-loop-release : goal.decreases-loop-release
decreases-loop-release l = deque_len l.self.waiting.releases

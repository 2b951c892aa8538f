use Rattle.std.proofs.Common.{◌≡◌}
use Rattle.publish_queue.specs.Many.{IsAdvancedTo}
use Rattle.publish_queue.specs.Keeps.{AreInTurn}
use Rattle.publish_queue.proofs.Many.{Walked}
use Rattle.publish_queue.proofs.queue.Feeds.advance.Given as goal

-- the feeds so far have gone on
abbrev pub invariant-loop-at : goal.invariant-loop-at
invariant-loop-at l = record {
  names : l.self.names.items ≡ l.fn.self.names.items;
  walked : Walked (IsAdvancedTo l.moment) l.at l.fn.self.feeds.items l.self.feeds.items;
  ordered : AreInTurn l.fn.self → AreInTurn l.self;
}

use Rattle.std.proofs.Common.{◌≡◌, take}
use Rattle.publish_queue.specs.Many.{Spread, IsAddedTo}
use Rattle.publish_queue.specs.Keeps.{AreInTurn}
use Rattle.publish_queue.proofs.queue.Feeds.add.Given as goal

-- the feeds of those so far are changed
abbrev pub invariant-loop-it : goal.invariant-loop-it
invariant-loop-it l = record {
  names : l.self.names.items ≡ l.fn.self.names.items;
  spread : Spread (IsAddedTo l.number l.moment) (take l.it-index l.due) l.fn.self.feeds.items l.self.feeds.items;
  ordered : AreInTurn l.fn.self → AreInTurn l.self;
}

use Rattle.std.proofs.Common.{◌≡◌, take}
use Rattle.std.specs.List.{All}
use Rattle.publish_queue.specs.Many.{EachGoes, IsRoomy, IsSame, names_in}
use Rattle.publish_queue.specs.Keeps.{HasPlace}
use Rattle.publish_queue.proofs.queue.Feeds.reserve_for.Given as goal

-- the feeds are as they were, and those of them so far have room
abbrev pub invariant-loop-it : goal.invariant-loop-it
invariant-loop-it l = record {
  names : l.self.names.items ≡ l.fn.self.names.items;
  alike : EachGoes IsSame l.fn.self.feeds.items l.self.feeds.items;
  turns : l.self.turns ≡ l.fn.self.turns;
  place : HasPlace l.fn.self → HasPlace l.self;
  roomy : All (IsRoomy (names_in (take l.it-index l.due))) l.self.feeds.items;
}

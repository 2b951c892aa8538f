use Rattle.std.proofs.Common.{◌≡◌, take}
use Rattle.publish_queue.specs.Many.{EachGoes, IsWithdrawnBy}
use Rattle.publish_queue.proofs.queue.Feeds.withdraw_all.Given as goal

-- the feeds have lost what lies in the spans so far
abbrev pub invariant-loop-span : goal.invariant-loop-span
invariant-loop-span l = record {
  names : l.self.names.items ≡ l.fn.self.names.items;
  each : EachGoes (IsWithdrawnBy l.numbers (take l.span-index l.spans)) l.fn.self.feeds.items l.self.feeds.items;
  turns : l.self.turns ≡ l.fn.self.turns;
}

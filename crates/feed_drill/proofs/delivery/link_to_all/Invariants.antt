use Rattle.std.proofs.Common.{◌≡◌, map, take}
use Rattle.std.specs.List.{AllZip}
use Rattle.news_types.specs.declared.query.QueueRow.{QueueRow}
use Rattle.news_io.specs.Devices.{memory_keeper}
use Rattle.feed_receiver.specs.Holds.{Holds}
use Rattle.feed_drill.specs.Delivery.{empty}
use Rattle.feed_drill.proofs.delivery.link_to_all.Given as goal

abbrev pub invariant-loop-row : goal.invariant-loop-row
invariant-loop-row l = record {
  names : l.names.items ≡ map (λ (row : QueueRow). row.subscriber) (take l.row-index l.rows);
  holds : AllZip (Holds memory_keeper) l.receivers.items (map empty l.names.items);
}

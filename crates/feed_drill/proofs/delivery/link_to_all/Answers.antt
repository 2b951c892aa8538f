use Rattle.std.proofs.Common.{arith}
use Rattle.news_io.specs.Devices.{memory_keeper}
use Rattle.feed_drill.proofs.Empty.{names_more, empty_more}
use Rattle.feed_drill.proofs.delivery.link_to_all.Goals as goal

pub loop-row-preserved : goal.loop-row-preserved
loop-row-preserved c =
    let row = c.row-item.result in
    let so_far = c.loop-row.invariant in
    record {
      names = names_more c.args.rows.now c.loop-row.row-index row c.loop-row.names.items c.push.new.self.items (omega arith) c.row-item.is so_far.names c.in_ok-push.ensures.items;
      holds = empty_more memory_keeper c.loop-row.receivers.items c.push-in-loop-row.new.self.items c.loop-row.names.items c.push.new.self.items c.in_ok-empty_receiver.field-0 row.subscriber
          c.in_ok-push-2.ensures.items c.in_ok-push.ensures.items so_far.holds c.in_ok-empty_receiver.ensures;
    }

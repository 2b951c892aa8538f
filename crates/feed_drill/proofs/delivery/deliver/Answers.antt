use Rattle.std.proofs.Common.{refl}
use Rattle.feed_drill.proofs.Delivered.{delivered}
use Rattle.feed_drill.proofs.delivery.deliver.Goals as goal

pub returns : goal.returns
returns c = λ b held is holds.
    let e = c.drain_feeds-drained.ensures in
    let d = e.drain in
    let passes = d.5 (held, holds) in
    let reads = d.6 tt in
    delivered c.args.now b held c.args.room.now c.drain_feeds-drained.new.room c.args.link.now c.drain_feeds-drained.new.link d.0 d.1 d.4.0 c.drain_feeds-drained.result c.in_ok-delivered.ensures d.2 d.3 (d.4.1 b is)
    passes.goes holds _ _ (λ k. refl) reads.gave e.serves

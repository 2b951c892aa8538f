use Rattle.news_types.specs.Outcome.{request}
use Rattle.news_room.specs.Stands.{numbers}
use Rattle.feed_drill.proofs.Asked.{stands_asked, all_kept}
use Rattle.feed_drill.proofs.asking.ask.Goals as goal

pub returns-in-Done : goal.returns-in-Done
returns-in-Done g c = λ b is.
    let p = c.args.planned in
    let r = c.request.ensures in
    let happens = r.1 b is in
    stands_asked g.K.Keeper.keeper c.request.new.self b p r.0 happens.stands
    (all_kept (numbers g.K.Keeper.keeper c.args.room.now c.request.new.self) r.0 (request b.list p.caller p.number p.command p.moment) c.request.result c.in-Done.is happens.step)

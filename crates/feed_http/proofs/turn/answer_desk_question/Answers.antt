use Rattle.news_types.specs.Books.{onto}
use Rattle.feed_http.proofs.Tellings.{desk_turn, desk_failed, desk_refused}
use Rattle.feed_http.proofs.turn.answer_desk_question.Goals as goal

pub tick-requires : goal.tick-requires
tick-requires g c = record { stands = c.requires }

pub respond_desk-requires : goal.respond_desk-requires
respond_desk-requires g c =
    let b = c.requires.0 in
    (onto c.tick.ensures.0 b, (c.tick.ensures.1 b c.requires.1).stands)

pub returns-in-Kept : goal.returns-in-Kept
returns-in-Kept g c =
    let r = c.tick.ensures in (
      r.0,
      λ b stands.
          desk_turn g.K.Keeper.keeper c.args.desks.now c.tick.new.self b r.0 c.args.question.now c.args.now c.or_no_memory.result c.tick.result c.respond_desk.result c.in-Kept.is (r.1 b stands) c.respond_desk.ensures c.or_no_memory.ensures,
    )

pub returns-in-Fault : goal.returns-in-Fault
returns-in-Fault g c =
    let r = c.in-Fault.ensures in
    (r.0, λ b stands. desk_failed g.K.Keeper.keeper c.args.desks.now c.tick.new.self b r.0 c.args.question.now c.args.now c.notify.result (r.1 b stands) c.notify.ensures)

pub returns-in-Full : goal.returns-in-Full
returns-in-Full g c =
    let r = c.in-Full.ensures in
    (r.0, λ b stands. desk_refused g.K.Keeper.keeper c.args.desks.now c.tick.new.self b r.0 c.args.question.now c.args.now c.notify-in-Full.result c.in-Full.size c.in-Full.length (r.1 b stands) c.notify-in-Full.ensures)

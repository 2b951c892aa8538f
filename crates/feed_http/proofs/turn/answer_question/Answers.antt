use Rattle.news_types.specs.Books.{onto}
use Rattle.feed_http.proofs.Questions.{question_turn, question_failed, question_refused}
use Rattle.feed_http.proofs.turn.answer_question.Goals as goal

pub tick-requires : goal.tick-requires
tick-requires g c = record { stands = c.requires }

pub ask-requires : goal.ask-requires
ask-requires g c =
    let b = c.requires.0 in
    record { stands = (onto c.tick.ensures.0 b, (c.tick.ensures.1 b c.requires.1).stands) }

pub returns-in-Kept : goal.returns-in-Kept
returns-in-Kept g c =
    let r = c.tick.ensures in (
      r.0,
      λ b stands.
          question_turn g.K.Keeper.keeper c.args.room.now c.tick.new.self b r.0 c.args.question c.args.now c.tell_answer.result c.tick.result c.ask.result c.in-Kept.is (r.1 b stands) c.ask.ensures.answer c.ask.ensures.event c.tell_answer.ensures,
    )

pub returns-in-Fault : goal.returns-in-Fault
returns-in-Fault g c =
    let r = c.in-Fault.ensures in
    (r.0, λ b stands. question_failed g.K.Keeper.keeper c.args.room.now c.tick.new.self b r.0 c.args.question c.args.now c.notify.result (r.1 b stands) c.notify.ensures)

pub returns-in-Full : goal.returns-in-Full
returns-in-Full g c =
    let r = c.in-Full.ensures in
    (r.0, λ b stands. question_refused g.K.Keeper.keeper c.args.room.now c.tick.new.self b r.0 c.args.question c.args.now c.notify-in-Full.result c.in-Full.size c.in-Full.length (r.1 b stands) c.notify-in-Full.ensures)

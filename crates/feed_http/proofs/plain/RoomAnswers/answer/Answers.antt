use Rattle.news_types.specs.Books.{onto}
use Rattle.feed_http.proofs.plain.RoomAnswers.answer.Goals as goal

pub returns-clause-ready : goal.returns-clause-ready
returns-clause-ready g c =
    let did = c.answer_one.ensures.1 c.requires.ready.0 c.requires.ready.1 in
    (onto c.answer_one.ensures.0 c.requires.ready.0, did.turn.stands)

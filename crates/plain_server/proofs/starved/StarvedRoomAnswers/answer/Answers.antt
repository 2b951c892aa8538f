use Rattle.news_types.specs.Books.{onto}
use Rattle.news_io.specs.Devices.{memory_keeper}
use Rattle.news_room.specs.Stands.{Stands}
use Rattle.plain_server.proofs.starved.StarvedRoomAnswers.answer.Goals as goal
use Rattle.plain_server.proofs.starved.StarvedRoomAnswers.answer.Goals.{then-self, else-self}

pub returns-clause-ready : goal.returns-clause-ready
returns-clause-ready c =
    let asked : Stands memory_keeper c.if-self.self.room c.requires.ready.0 =
    elim c.if-self.branch [
      | then-self w ↦ rw w.self-is c.requires.ready.1
      | else-self w ↦ rw w.self-is c.requires.ready.1
    ] in
    let did = c.answer_one-answer.ensures.1 c.requires.ready.0 asked in
    (onto c.answer_one-answer.ensures.0 c.requires.ready.0, did.turn.stands)

pub returns-clause-turn : goal.returns-clause-turn
returns-clause-turn c =
    let answered = rw c.new-counts.ensures at c.answer_one-answer.ensures in
    elim c.if-self.branch [
      | then-self w ↦ rw w.self-is at answered
      | else-self w ↦ rw w.self-is at answered
    ]

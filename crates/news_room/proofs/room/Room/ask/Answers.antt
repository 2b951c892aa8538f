use Rattle.std.proofs.Common.{◌≡◌, subst}
use Rattle.news_types.specs.Names.{Bytes}
use Rattle.news_types.specs.Answers.{query_answer}
use Rattle.news_types.specs.Frames.{frame_bytes_at}
use Rattle.feed_frames.specs.Writer.{the_writer}
use Rattle.news_room.proofs.Rooms.{place_left, ok_weaker}
use Rattle.news_room.proofs.Events.{asked}
use Rattle.news_room.proofs.room.Room.ask.Goals as goal

pub ask-requires : goal.ask-requires
ask-requires g c =
    let b = c.requires.stands.0 in
    let is = c.requires.stands.1 in
    record { stands = (b.list, (is.machine_for, place_left _ _ is.few)) }

pub returns-clause-answer : goal.returns-clause-answer
returns-clause-answer g c =
    ok_weaker c.ask.result _ _
    (λ told is b stands. subst (λ (u : Bytes). told ≡ query_answer (frame_bytes_at (the_writer u) b.list) b.list c.args.query.now) stands.store_is (is b.list stands.machine_for))
    c.ask.ensures.answer

pub returns-clause-plain : goal.returns-clause-plain
returns-clause-plain g c plain = ok_weaker c.ask.result _ _ (λ told each b frame stands. each b.list frame stands.machine_for) (c.ask.ensures.plain plain)

pub returns-clause-event : goal.returns-clause-event
returns-clause-event g c b now stands =
    asked g.K.Keeper.keeper c.args.self.now b now c.args.query.now c.ask.result
    (ok_weaker c.ask.result _ _
    (λ told is. subst (λ (u : Bytes). told ≡ query_answer (frame_bytes_at (the_writer u) b.list) b.list c.args.query.now) stands.store_is (is b.list stands.machine_for))
    c.ask.ensures.answer)

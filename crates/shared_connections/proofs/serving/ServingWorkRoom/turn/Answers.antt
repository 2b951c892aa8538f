use Rattle.std.proofs.Common.{subst}
use Rattle.std.specs.Prelude.{Result}
use Rattle.desk_routes.specs.declared.ask.RoomAsk.{RoomAsk}
use Rattle.desk_routes.specs.declared.ask.Refusal.{Refusal}
use Rattle.feed_http.specs.Turn.{IsAnswered}
use Rattle.shared_connections.specs.Turns.{at_hand}
use Rattle.shared_connections.proofs.Listed.{turn_listed, starved_listed}
use Rattle.shared_connections.proofs.serving.ServingWorkRoom.turn.Goals as goal

pub returns-in-Some : goal.returns-in-Some
returns-in-Some g c =
    let keeper = g.K.Keeper.keeper in
    let answered : IsAnswered keeper c.args.room.now c.args.self.now.now c.in-Some.counts c.args.self.now.read c.answer_one.result c.answer_one.new.room =
    subst (λ (read : Result RoomAsk Refusal). IsAnswered keeper c.args.room.now c.args.self.now.now c.in-Some.counts read c.answer_one.result c.answer_one.new.room) c.replace-read.ensures.value c.answer_one.ensures in
    rw c.in-Some.is (turn_listed keeper c.args.room.now c.answer_one.new.room c.args.self.now.read c.args.self.now.now c.in-Some.counts c.answer_one.result answered)

-- nothing is asked where there is no memory for the counts
pub returns-in-None : goal.returns-in-None
returns-in-None g c = rw c.no_memory.ensures (starved_listed g.K.Keeper.keeper c.args.room.now c.args.self.now.read c.args.self.now.now (at_hand c.args.self.now.counts))

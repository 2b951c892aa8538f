use Rattle.std.proofs.Common.{Ok, Err}
use Rattle.desk_routes.specs.Asking.{FitsAsked}
use Rattle.feed_http.proofs.ReadAs.{read_room, read_wire, read_not}
use Rattle.feed_http.proofs.Answering.{in_one_turn, of_a_wire}
use Rattle.feed_http.proofs.exchange.answer_request.Goals as goal

pub returns-in-Ok-Room-clause-answered : goal.returns-in-Ok-Room-clause-answered
returns-in-Ok-Room-clause-answered g c =
    in_one_turn g.A.Answers.turn g.C.Clock.clock c.args.room.now c.answer_in_turn.new.room c.args.clock.now c.answer_in_turn.new.clock c.args.request.now c.answer_in_turn.result
    (Ok c.in-Ok-Room.ask) (read_room c.args.request.now c.in-Ok-Room.field-0 c.in-Ok-Room.ask c.in-Ok-Room.ensures.value c.in-Ok-Room.field-0-is) c.answer_in_turn.ensures.taken

pub returns-in-Ok-Wire-clause-answered : goal.returns-in-Ok-Wire-clause-answered
returns-in-Ok-Wire-clause-answered g c =
    of_a_wire g.A.Answers.turn g.C.Clock.clock c.args.room.now c.answer_wire.new.room c.args.clock.now c.answer_wire.new.clock c.args.request.now c.answer_wire.result
    c.in-Ok-Wire.wire (read_wire c.args.request.now c.in-Ok-Wire.field-0 c.in-Ok-Wire.wire c.in-Ok-Wire.ensures.value c.in-Ok-Wire.field-0-is) c.answer_wire.ensures.answered

pub returns-in-Err-clause-answered : goal.returns-in-Err-clause-answered
returns-in-Err-clause-answered g c =
    in_one_turn g.A.Answers.turn g.C.Clock.clock c.args.room.now c.answer_in_turn-in-Err.new.room c.args.clock.now c.answer_in_turn-in-Err.new.clock c.args.request.now c.answer_in_turn-in-Err.result
    (Err c.in-Err.refusal) (read_not c.args.request.now c.in-Err.refusal c.in-Err.ensures.value) c.answer_in_turn-in-Err.ensures.taken

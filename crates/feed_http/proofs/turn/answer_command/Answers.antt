use Rattle.feed_http.proofs.Calling.{request_turn}
use Rattle.feed_http.proofs.turn.answer_command.Goals as goal

pub request-requires-clause-stands : goal.request-requires-clause-stands
request-requires-clause-stands g c = c.requires.stands

pub request-requires-clause-fits : goal.request-requires-clause-fits
request-requires-clause-fits g c = c.requires.fits

pub returns : goal.returns
returns g c =
    let r = c.request.ensures in
    (r.0, λ b stands. request_turn g.K.Keeper.keeper c.args.room.now c.request.new.self b r.0 c.args.caller c.args.number c.args.command c.args.now c.request.result c.tell_answered.result (r.1 b stands) c.tell_answered.ensures)

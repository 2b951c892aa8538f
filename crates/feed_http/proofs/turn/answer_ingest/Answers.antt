use Rattle.feed_http.proofs.Calling.{ingest_turn}
use Rattle.feed_http.proofs.turn.answer_ingest.Goals as goal

pub ingest-requires-clause-stands : goal.ingest-requires-clause-stands
ingest-requires-clause-stands g c = c.requires.stands

pub ingest-requires-clause-fits : goal.ingest-requires-clause-fits
ingest-requires-clause-fits g c = c.requires.fits

pub returns : goal.returns
returns g c =
    let r = c.ingest.ensures in
    (r.0, λ b stands. ingest_turn g.K.Keeper.keeper c.args.room.now c.ingest.new.self b r.0 c.args.provider c.args.incoming c.args.now c.ingest.result c.tell_answered.result (r.1 b stands) c.tell_answered.ensures)

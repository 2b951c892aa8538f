use Rattle.std.proofs.Common.{refl, sym, ap}
use Rattle.news_types.specs.Names.{Bytes}
use Rattle.news_types.specs.Outcome.{ingest}
use Rattle.room_runs.specs.Desk.{book}
use Rattle.room_runs.specs.Life.{life}
use Rattle.room_runs.specs.Wires.{of_incoming, wire_hand}
use Rattle.room_runs.proofs.Calls.{handled_step, request_counts}
use Rattle.room_runs.proofs.Desks.{by_meaning}
use Rattle.room_runs.proofs.wire.WireDeskIngesting.ingest.Goals as goal

pub ingest-answered-requires-clause-stands : goal.ingest-answered-requires-clause-stands
ingest-answered-requires-clause-stands g c =
    let s = c.requires.stands.0 in
    (book s c.requires.stands.1.0, c.requires.stands.1.1.room_stands)

pub ingest-answered-requires-clause-fits : goal.ingest-answered-requires-clause-fits
ingest-answered-requires-clause-fits g c = c.requires.fits

pub returns-clause-step : goal.returns-clause-step
returns-clause-step g c s h stands =
    let r = c.ingest-answered.ensures in
    let did = r.1 (book s h) stands.room_stands in
    by_meaning (life g.K.Keeper.keeper g.C.Clock.clock wire_hand s) (of_incoming s.before s.provider) (of_incoming s.before c.args.self.now.provider) c.args.self.now _ h c.args.incoming c.args.incoming
    (λ at. ap (λ (p : Bytes). of_incoming s.before p h c.args.incoming at) (sym stands.same_provider)) c.request_answered.result
    (handled_step wire_hand g.K.Keeper.keeper g.C.Clock.clock s (of_incoming s.before c.args.self.now.provider) c.args.self.now _ h c.now-now.result c.args.incoming
    (ingest h c.args.self.now.provider c.args.incoming c.now-now.result) refl r.0 c.ingest-answered.result c.request_answered.result did.step
    (record { stands = stands; room = did.stands; told = did.told; ticked = record { same_provider = refl; same_room = refl; same = refl; told = c.now-now.ensures.told; gave = c.now-now.ensures.given } }) c.request_answered.ensures)

pub returns-clause-count : goal.returns-clause-count
returns-clause-count g c =
    let r = c.ingest-answered.ensures in
    let s = c.requires.stands.0 in
    let h = c.requires.stands.1.0 in
    let did = r.1 (book s h) c.requires.stands.1.1.room_stands in
    request_counts _ r.0 c.ingest-answered.result (ingest h c.args.self.now.provider c.args.incoming c.now-now.result) c.request_answered.result did.step c.request_answered.ensures

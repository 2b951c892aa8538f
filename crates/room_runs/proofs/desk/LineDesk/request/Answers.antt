use Rattle.std.proofs.Common.{refl}
use Rattle.news_types.specs.Outcome.{request}
use Rattle.desk_lines.specs.declared.asked.Asked.TheVariants as asked
use Rattle.room_runs.specs.Desk.{book, line_hand}
use Rattle.room_runs.specs.Lines.{of_asked}
use Rattle.room_runs.proofs.Calls.{handled_step, request_counts}
use Rattle.room_runs.proofs.desk.LineDesk.request.Goals as goal

pub request-answered-requires-clause-stands : goal.request-answered-requires-clause-stands
request-answered-requires-clause-stands g c =
    let s = c.requires.stands.0 in
    (book s c.requires.stands.1.0, c.requires.stands.1.1.room_stands)

pub request-answered-requires-clause-fits : goal.request-answered-requires-clause-fits
request-answered-requires-clause-fits g c = c.requires.fits

pub returns-clause-step : goal.returns-clause-step
returns-clause-step g c s h stands =
    let r = c.request-answered.ensures in
    let did = r.1 (book s h) stands.room_stands in
    handled_step line_hand g.K.Keeper.keeper g.C.Clock.clock s (of_asked s.before) c.args.self.now _ h c.now-now.result (asked.Request c.args.caller c.args.number c.args.command)
    (request h c.args.caller c.args.number c.args.command c.now-now.result) refl r.0 c.request-answered.result c.request_answered.result did.step
    (record { stands = stands; room = did.stands; told = did.told; ticked = record { same_provider = refl; same_room = refl; same = refl; told = c.now-now.ensures.told; gave = c.now-now.ensures.given } }) c.request_answered.ensures

pub returns-clause-count : goal.returns-clause-count
returns-clause-count g c =
    let r = c.request-answered.ensures in
    let s = c.requires.stands.0 in
    let h = c.requires.stands.1.0 in
    let did = r.1 (book s h) c.requires.stands.1.1.room_stands in
    request_counts _ r.0 c.request-answered.result (request h c.args.caller c.args.number c.args.command c.now-now.result) c.request_answered.result did.step c.request_answered.ensures

use Rattle.std.proofs.Common.{◌≡◌, ◌∙◌, refl, sym, ap}
use Rattle.std.specs.Prelude.{Result, Ok, Err}
use Rattle.news_types.specs.Names.{Bytes}
use Rattle.news_types.specs.Outcome.{ingest}
use Rattle.news_types.specs.declared.story.Incoming.{Incoming}
use Rattle.agency_wires.specs.declared.fault.WireFault.{WireFault}
use Rattle.agency_wires.specs.declared.fault.WireFault.TheVariants as wire_fault
use Rattle.agency_wires.specs.declared.found.Found.TheVariants as found
use Rattle.agency_wires.specs.Reading.{told}
use Rattle.agency_runs.specs.Members.{of_message, of_told, message_fault_bytes}
use Rattle.agency_runs.specs.Told.{IsTold}
use Rattle.agency_runs.specs.declared.messages.Told.TheVariants as read
use Rattle.room_runs.specs.Desk.{book}
use Rattle.room_runs.specs.Wires.{of_incoming, wire_hand}
use Rattle.room_runs.proofs.Calls.{handled_step, request_counts, told_step, starved_behind}
use Rattle.room_runs.proofs.Messages.{reading_taken}
use Rattle.room_runs.proofs.wire.WireDeskReceiving.receive.Goals as goal

pub returns-in-Ok-Story-clause-step : goal.returns-in-Ok-Story-clause-step
returns-in-Ok-Story-clause-step g c s h stands =
    let r = c.ingest-answered.ensures in
    let did = r.1 (book s h) stands.room_stands in
    let now = c.now-now.result in
    let come = c.in-Ok-Story.incoming in
    let got : IsTold c.in-Message.at (told now c.as_slice.result.now) (Ok (read.Story come)) = rw c.in-Ok-Story.field-0-is at c.in-Ok-Story.ensures in
    let is : told now c.in-Message.bytes ≡ Ok come = ap (told now) (sym c.as_slice.ensures) ∙ got.0 in
    rw c.in-Message.is
    (handled_step wire_hand g.K.Keeper.keeper g.C.Clock.clock s (of_message (of_incoming s.before s.provider)) c.args.self.now _ h now (found.Message c.in-Message.at c.in-Message.bytes) (ingest h c.args.self.now.provider come now)
    (ap (λ (t : Result Incoming WireFault). of_told (of_incoming s.before s.provider) h c.in-Message.at now t) is ∙ ap (λ (p : Bytes). of_incoming s.before p h come now) (sym stands.same_provider))
    r.0 c.ingest-answered.result c.request_answered.result did.step
    (record { stands = stands; room = did.stands; told = did.told; ticked = record { same_provider = refl; same_room = refl; same = refl; told = c.now-now.ensures.told; gave = c.now-now.ensures.given } })
    c.request_answered.ensures)

pub returns-in-Ok-Story-clause-count : goal.returns-in-Ok-Story-clause-count
returns-in-Ok-Story-clause-count g c =
    let r = c.ingest-answered.ensures in
    let s = c.requires.stands.0 in
    let h = c.requires.stands.1.0 in
    let did = r.1 (book s h) c.requires.stands.1.1.room_stands in
    request_counts _ r.0 c.ingest-answered.result (ingest h c.args.self.now.provider c.in-Ok-Story.incoming c.now-now.result) c.request_answered.result did.step c.request_answered.ensures

pub returns-in-Ok-Line-clause-step : goal.returns-in-Ok-Line-clause-step
returns-in-Ok-Line-clause-step g c s h stands =
    let now = c.now-now.result in
    let fault : IsTold c.in-Message.at (told now c.as_slice.result.now) (Ok (read.Line c.in-Ok-Line.line)) = rw c.in-Ok-Line.field-0-is at c.in-Ok-Line.ensures in
    let is : told now c.in-Message.bytes ≡ Err (wire_fault.Fault fault.0 fault.1.0) = ap (told now) (sym c.as_slice.ensures) ∙ fault.1.1 in
    rw c.in-Message.is
    (told_step wire_hand g.K.Keeper.keeper g.C.Clock.clock s (of_message (of_incoming s.before s.provider)) c.args.self.now _ h (found.Message c.in-Message.at c.in-Message.bytes) now refl (message_fault_bytes c.in-Message.at fault.0 fault.1.0) (Ok c.in-Ok-Line.line)
    (ap (λ (t : Result Incoming WireFault). of_told (of_incoming s.before s.provider) h c.in-Message.at now t) is) stands
    (record { same_provider = refl; same_room = refl; same = refl; told = c.now-now.ensures.told; gave = c.now-now.ensures.given }) fault.1.2)

pub returns-clause-step : goal.returns-clause-step
returns-clause-step g c s h stands =
    let now = c.now-now.result in
    rw c.in-Message.is
    (starved_behind wire_hand g.K.Keeper.keeper g.C.Clock.clock s (of_message (of_incoming s.before s.provider)) c.args.self.now _ h (found.Message c.in-Message.at c.in-Message.bytes) now refl c.in-Err.why c.in-Err.ensures
    (reading_taken s.before s.provider h c.in-Message.at now (told now c.in-Message.bytes)) stands
    (record { same_provider = refl; same_room = refl; same = refl; told = c.now-now.ensures.told; gave = c.now-now.ensures.given }))

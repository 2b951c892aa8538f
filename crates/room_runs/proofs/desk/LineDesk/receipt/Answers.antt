use Rattle.std.proofs.Common.{refl}
use Rattle.news_types.specs.History.{moment_at}
use Rattle.news_types.specs.Outcome.{receipt}
use Rattle.news_room.proofs.Limits.{receipt_limit}
use Rattle.desk_lines.specs.declared.asked.Asked.TheVariants as asked
use Rattle.room_runs.specs.Desk.{book, line_hand}
use Rattle.room_runs.specs.Lines.{of_asked}
use Rattle.room_runs.proofs.Calls.{received_step, receipt_counts}
use Rattle.room_runs.proofs.desk.LineDesk.receipt.Goals as goal

pub receipt-kept-requires : goal.receipt-kept-requires
receipt-kept-requires g c =
    let s = c.requires.stands.0 in
    record { stands = (book s c.requires.stands.1.0, c.requires.stands.1.1.room_stands) }

pub returns-clause-step : goal.returns-clause-step
returns-clause-step g c s h stands =
    let r = c.receipt-kept.ensures in
    let did = r.1 (book s h) stands.room_stands in
    received_step line_hand g.K.Keeper.keeper g.C.Clock.clock s (of_asked s.before) c.args.self.now _ h c.now-now.result (asked.Receipt c.args.subscriber c.args.n)
    (receipt h c.args.subscriber c.args.n c.now-now.result) refl r.0 c.receipt-kept.result c.receipt_answered.result (receipt_limit h c.args.subscriber c.args.n (moment_at h c.now-now.result)) did.step
    (record { stands = stands; room = did.stands; told = did.told; ticked = record { same_provider = refl; same_room = refl; same = refl; told = c.now-now.ensures.told; gave = c.now-now.ensures.given } }) c.receipt_answered.ensures

pub returns-clause-count : goal.returns-clause-count
returns-clause-count g c =
    let r = c.receipt-kept.ensures in
    let s = c.requires.stands.0 in
    let h = c.requires.stands.1.0 in
    let did = r.1 (book s h) c.requires.stands.1.1.room_stands in
    receipt_counts _ r.0 c.receipt-kept.result (receipt h c.args.subscriber c.args.n c.now-now.result) c.receipt_answered.result did.step c.receipt_answered.ensures

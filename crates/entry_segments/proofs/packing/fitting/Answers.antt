use Rattle.std.proofs.Common.{◌≡◌, ◌<◌, ◌∙◌, ap, sym, subst, arith, length, false, true}
use Rattle.std.proofs.lemmas.List.{length-map}
use Rattle.std.proofs.lemmas.List.Elements.{All-get_or}
use Rattle.entry_segments.specs.Spelled.{entry_in, entries_in, IsPayload}
use Rattle.entry_segments.specs.Told.{Tells, GoesIn}
use Rattle.entry_segments.proofs.Fitting.{in_time_at}
use Rattle.entry_segments.proofs.Fronts.{took_more, took_most, took_some}
use Rattle.entry_segments.proofs.Spelled.{entry_at}
use Rattle.entry_segments.proofs.packing.fitting.Goals as goal

pub takes-requires-clause-in_time : goal.takes-requires-clause-in_time
takes-requires-clause-in_time c =
    let ps = c.args.payloads.now in
    let i = c.loop-payload.payload-index in
    let p = c.payload-item.result in
    let lt : i < length (entries_in ps) = omega (arith, c.loop-payload-test.true, length-map ps entry_in) in
    let at = entry_at ps i p c.loop-payload-test.true c.payload-item.is in
    let later = (in_time_at (entries_in ps) i (entry_in p) c.loop-payload.front.moment lt at c.loop-payload.invariant.took.in_time).0 in
    omega (arith, later, c.in_ok-entry.ensures.moment ∙ ap (λ b. (entry_in b).moment) c.as_slice.ensures)

pub returns-then-not-branch-clause-taken : goal.returns-then-not-branch-clause-taken
returns-then-not-branch-clause-taken c =
    let ps = c.args.payloads.now in
    let i = c.loop-payload.payload-index in
    let p = c.payload-item.result in
    let lt : i < length (entries_in ps) = omega (arith, c.loop-payload-test.true, length-map ps entry_in) in
    let at = entry_at ps i p c.loop-payload-test.true c.payload-item.is in
    let same = c.in_ok-entry.ensures.moment ∙ ap (λ b. (entry_in b).moment) c.as_slice.ensures in
    let tells = subst (λ b. Tells c.in_ok-entry.entry.told (entry_in b).act) c.as_slice.ensures c.in_ok-entry.ensures.tells in
    let goes = c.in_ok-takes.ensures.goes_in (entry_in p) (sym same) tells in
    let answer : c.in_ok-takes.field-0 ≡ false = cc in
    let full = subst (GoesIn c.loop-payload.front c.takes.new.self (entry_in p)) answer goes in
    full.1 ∙ took_most c.loop-payload.front i (entries_in ps) (entry_in p) c.loop-payload.invariant.took lt at full.0

pub returns-then-not-branch-clause-some : goal.returns-then-not-branch-clause-some
returns-then-not-branch-clause-some c = λ some.
    let ps = c.args.payloads.now in
    let i = c.loop-payload.payload-index in
    let p = c.payload-item.result in
    let is : IsPayload p = subst IsPayload (sym c.payload-item.is) (All-get_or IsPayload ps i p c.loop-payload-test.true c.requires.each) in
    let same = c.in_ok-entry.ensures.moment ∙ ap (λ b. (entry_in b).moment) c.as_slice.ensures in
    let tells = subst (λ b. Tells c.in_ok-entry.entry.told (entry_in b).act) c.as_slice.ensures c.in_ok-entry.ensures.tells in
    let goes = c.in_ok-takes.ensures.goes_in (entry_in p) (sym same) tells in
    let answer : c.in_ok-takes.field-0 ≡ false = cc in
    let full = subst (GoesIn c.loop-payload.front c.takes.new.self (entry_in p)) answer goes in
    let first = took_some c.loop-payload.front i (entries_in ps) (entry_in p) c.loop-payload.invariant.took is.is_entry full.0 in
    omega (arith, first, full.1)

pub loop-payload-preserved : goal.loop-payload-preserved
loop-payload-preserved c =
    let ps = c.args.payloads.now in
    let i = c.loop-payload.payload-index in
    let p = c.payload-item.result in
    let lt : i < length (entries_in ps) = omega (arith, c.loop-payload-test.true, length-map ps entry_in) in
    let at = entry_at ps i p c.loop-payload-test.true c.payload-item.is in
    let same = c.in_ok-entry.ensures.moment ∙ ap (λ b. (entry_in b).moment) c.as_slice.ensures in
    let tells = subst (λ b. Tells c.in_ok-entry.entry.told (entry_in b).act) c.as_slice.ensures c.in_ok-entry.ensures.tells in
    let goes = c.in_ok-takes.ensures.goes_in (entry_in p) (sym same) tells in
    let answer : c.in_ok-takes.field-0 ≡ true = cc in
    let more = subst (GoesIn c.loop-payload.front c.takes.new.self (entry_in p)) answer goes in
    record { took = took_more c.loop-payload.front c.takes.new.self i (entries_in ps) (entry_in p) c.loop-payload.invariant.took lt at more c.in_ok-takes.ensures.front }

use Rattle.std.proofs.Common.{◌≡◌, ◌+◌, ◌<◌, ◌≤◌, ◌∙◌, ap, sym, subst, arith, Some, Ok, Err, ℕ, List}
use Rattle.std.specs.Prelude.{slice_get}
use Rattle.byte_formats.specs.Gives.{all_of}
use Rattle.entry_codec.specs.Commands.{entry}
use Rattle.entry_segments.specs.Spelled.{entry_in, IsPayload}
use Rattle.news_pair.specs.Packing.{no_later}
use Rattle.news_pair.proofs.Rows.{copied_is}
use Rattle.news_pair.proofs.Ordering.{row_in_order, row_falls, row_stops}
use Rattle.news_pair.proofs.entries.read_moment.Goals as goal

abbrev Reads : ℕ → List ℕ → Type 0
Reads m bytes = (all_of entry bytes ≡ Ok (entry_in bytes)) × (m ≡ (entry_in bytes).moment)

pub overflow_add-result-in-Err-At : goal.overflow_add-result-in-Err-At
overflow_add-result-in-Err-At c = let f = c.in-Err-At.ensures.fault c.in-Err-At.at (ap (λ x. Err x) c.in-Err-At.field-0-is) in omega (arith, f.0, c.requires)

pub returns-in-Err-At-clause-judged : goal.returns-in-Err-At-clause-judged
returns-in-Err-At-clause-judged c =
    let f = c.in-Err-At.ensures.fault c.in-Err-At.at (ap (λ x. Err x) c.in-Err-At.field-0-is) in
    let found : slice_get c.as_slice-payload.result.now c.in-Err-At.at ≡ c.copied.result =
    copied_is c.as_slice-payload.result.now c.in-Err-At.at c.get.result c.get.ensures.lookup.0 (c.get.ensures.lookup.4 (omega arith)) ∙ sym c.copied.ensures in
    ap (λ (l : List ℕ). no_later c.args.before (c.args.kept.now.at, l)) (sym c.as_slice-payload.ensures)
    ∙ row_stops c.args.before (c.args.kept.now.at, c.as_slice-payload.result.now) c.in-Err-At.at f.0 f.1
    ∙ ap (λ o. Some (c.args.kept.now.at + 5 + c.in-Err-At.at, o)) found

pub returns-then-moment-before-clause-judged : goal.returns-then-moment-before-clause-judged
returns-then-moment-before-clause-judged c =
    let read = subst (Reads c.in-Ok.moment) c.as_slice-payload.ensures c.in-Ok.ensures.read in
    row_falls c.args.before (c.args.kept.now.at, c.args.kept.now.bytes) (entry_in c.args.kept.now.bytes) read.0 (omega (arith, read.1, c.if-moment-before.true))

pub returns-else-moment-before-clause-judged : goal.returns-else-moment-before-clause-judged
returns-else-moment-before-clause-judged c =
    let read = subst (Reads c.in-Ok.moment) c.as_slice-payload.ensures c.in-Ok.ensures.read in
    row_in_order c.args.before (c.args.kept.now.at, c.args.kept.now.bytes) (entry_in c.args.kept.now.bytes) read.0 (omega (arith, read.1, c.if-moment-before.false))

pub returns-else-moment-before-clause-found : goal.returns-else-moment-before-clause-found
returns-else-moment-before-clause-found c = subst IsPayload c.as_slice-payload.ensures c.in-Ok.ensures.found

pub returns-else-moment-before-clause-read : goal.returns-else-moment-before-clause-read
returns-else-moment-before-clause-read c = subst (Reads c.in-Ok.moment) c.as_slice-payload.ensures c.in-Ok.ensures.read

pub returns-else-moment-before-clause-later : goal.returns-else-moment-before-clause-later
returns-else-moment-before-clause-later c = let read = subst (Reads c.in-Ok.moment) c.as_slice-payload.ensures c.in-Ok.ensures.read in omega (arith, read.1, c.if-moment-before.false)

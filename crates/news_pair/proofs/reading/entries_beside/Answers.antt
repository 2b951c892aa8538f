use Rattle.std.proofs.Common.{◌≡◌, ◌∙◌, sym, [], ap, subst, arith, Some, None, List, Option}
use Rattle.std.proofs.lemmas.Result.{err_from_is_err_and}
use Rattle.std.specs.Prelude.{slice_get, unwrap_or}
use Rattle.std.specs.Option.{option_or}
use Rattle.news_io.specs.declared.record.Record.{Record}
use Rattle.news_journal.specs.Opened.{places}
use Rattle.news_pair.specs.Opened.{places_of}
use Rattle.news_pair.specs.declared.side_reading.SideLog.{SideLog}
use Rattle.news_pair.specs.declared.fault.PairFault.TheVariants.{Damaged}
use Rattle.news_pair.specs.Damage.{first_of, no_segment, misplaced, on_side, segments_damage, IsPairDamage}
use Rattle.news_pair.specs.Placed.{side_records}
use Rattle.news_pair.proofs.Rows.{get_there}
use Rattle.news_pair.proofs.Judging.{bare_other, bare_zero, of_segments, judged_by}
use Rattle.news_pair.proofs.reading.entries_beside.Goals as goal

pub returns-then-head-ne0-clause-judged : goal.returns-then-head-ne0-clause-judged
returns-then-head-ne0-clause-judged c =
    let base = c.args.head.now.base in
    let byte = slice_get c.args.head.now.bytes 10 in
    ap (λ (f : Option SideLog). segments_damage base byte (places_of f)) c.in_default.is
    ∙ bare_other base byte c.if-head-ne0.true
    ∙ ap (λ o. Some (Damaged 10 o)) (get_there c.args.head.now.bytes 10 (omega arith))

pub returns-in_default-clause-judged : goal.returns-in_default-clause-judged
returns-in_default-clause-judged c =
    let base = c.args.head.now.base in
    let byte = slice_get c.args.head.now.bytes 10 in
    ap (λ (f : Option SideLog). segments_damage base byte (places_of f)) c.in_default.is ∙ bare_zero base byte c.if-head-ne0.false

pub returns-in_err-entries-clause-judged : goal.returns-in_err-entries-clause-judged
returns-in_err-entries-clause-judged c =
    let base = c.args.head.now.base in
    let byte = slice_get c.args.head.now.bytes 10 in
    let rs = places c.in-Some.side.records.items in
    let e = err_from_is_err_and c.from_residual.result c.from_residual.ensures.1 in
    rw (e.1, e.2)
    (judged_by _ _ _ (ap (λ (f : Option SideLog). segments_damage base byte (places_of f)) c.in-Some.is ∙ of_segments base byte rs)
    (subst (λ (l : List Record). IsPairDamage (option_or (on_side (first_of no_segment (places l))) (on_side (misplaced 0 (places l)))) c.in_err-entries.field-0.0) c.deref.ensures.value c.in_err-entries.ensures.judged))

pub returns-clause-judged : goal.returns-clause-judged
returns-clause-judged c =
    let base = c.args.head.now.base in
    let byte = slice_get c.args.head.now.bytes 10 in
    let rs = places c.in-Some.side.records.items in
    ap (λ (f : Option SideLog). segments_damage base byte (places_of f)) c.in-Some.is
    ∙ of_segments base byte rs
    ∙ subst (λ (l : List Record). option_or (on_side (first_of no_segment (places l))) (on_side (misplaced 0 (places l))) ≡ None) c.deref.ensures.value c.in_ok-entries.ensures.judged

pub returns-clause-placed : goal.returns-clause-placed
returns-clause-placed c =
    c.in_ok-entries.ensures.placed
    ∙ ap (λ (l : List Record). side_records (places l)) c.deref.ensures.value
    ∙ ap (λ (f : Option SideLog). side_records (unwrap_or (places_of f) [])) (sym c.in-Some.is)

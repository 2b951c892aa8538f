use Rattle.std.proofs.Common.{◌≡◌, ◌+◌, ◌-◌, ◌≤◌, ◌∙◌, ap, sym, subst, arith, length, Some, Err, ℕ, List}
use Rattle.std.specs.Prelude.{slice_get}
use Rattle.byte_formats.specs.Gives.{all_of}
use Rattle.entry_segments.specs.Reading.{segment}
use Rattle.news_pair.specs.Segments.{segment_in}
use Rattle.news_pair.specs.Damage.{no_segment, on_side}
use Rattle.news_pair.specs.declared.fault.PairFault.TheVariants.{DamagedSide}
use Rattle.news_pair.proofs.Judging.{read_segment_whole, read_stops}
use Rattle.news_pair.proofs.Rows.{copied_is}
use Rattle.news_pair.proofs.unpacking.segment_of.Goals as goal

pub overflow_add-result-in-Err-At : goal.overflow_add-result-in-Err-At
overflow_add-result-in-Err-At c = let f = c.in-Err-At.ensures.fault c.in-Err-At.at (ap (λ x. Err x) c.in-Err-At.field-0-is) in omega (arith, f.1, c.requires)

pub returns-in-Ok-clause-judged : goal.returns-in-Ok-clause-judged
unfolding no_segment
returns-in-Ok-clause-judged c =
    ap on_side (read_segment_whole (c.args.kept.now.at, c.args.kept.now.bytes) _ _ (ap segment_in (sym c.as_slice-payload.ensures) ∙ c.in-Ok.ensures.found))

pub returns-in-Err-At-clause-judged : goal.returns-in-Err-At-clause-judged
unfolding no_segment
returns-in-Err-At-clause-judged c =
    let at = c.in-Err-At.at in
    let f = c.in-Err-At.ensures.fault c.in-Err-At.at (ap (λ x. Err x) c.in-Err-At.field-0-is) in
    let same = c.as_slice-payload.ensures in
    let within : c.in-Err-At.at ≤ length c.args.kept.now.bytes = omega (arith, f.1, ap length same) in
    let read' : all_of segment c.args.kept.now.bytes ≡ Err (length c.args.kept.now.bytes - c.in-Err-At.at) = subst (λ (l : List ℕ). all_of segment l ≡ Err (length l - c.in-Err-At.at)) same f.0 in
    let found : slice_get c.as_slice-payload.result.now c.in-Err-At.at ≡ c.copied.result =
    copied_is c.as_slice-payload.result.now c.in-Err-At.at c.get.result c.get.ensures.lookup.0 (c.get.ensures.lookup.4 (omega arith)) ∙ sym c.copied.ensures in
    ap on_side (read_stops (c.args.kept.now.at, c.args.kept.now.bytes) (all_of segment c.args.kept.now.bytes) at within read')
    ∙ ap (λ o. Some (DamagedSide (c.args.kept.now.at + 5 + c.in-Err-At.at) o)) (ap (λ (l : List ℕ). slice_get l c.in-Err-At.at) (sym same) ∙ found)

pub returns-in-Ok-clause-few : goal.returns-in-Ok-clause-few
returns-in-Ok-clause-few c = omega (arith, c.in-Ok.ensures.few, ap length c.as_slice-payload.ensures)

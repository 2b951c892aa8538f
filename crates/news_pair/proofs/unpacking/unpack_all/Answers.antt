use Rattle.std.proofs.Common.{rules, ◌<◌, ◌^◌, ◌≡◌, ◌+◌, ◌∙◌, ap, sym, subst, arith, length, take, drop, ℕ, List, Option, length-append}
use Rattle.std.proofs.lemmas.Result.{err_from_is_err_and}
use Rattle.news_types.specs.Names.{Bytes}
use Rattle.news_journal.specs.Opened.{payloads, places}
use Rattle.news_pair.specs.Pair.{AreSegments, packed_by}
use Rattle.news_pair.specs.Damage.{Framed, no_segment, misplaced}
use Rattle.news_pair.proofs.Rows.{payloads_one_more, segment_more, placed_more, length-payloads}
use Rattle.news_pair.specs.Unpacking.{earlier_or}
use Rattle.news_pair.proofs.Judging.{FromHere, none_earlier, first_passed, first_on_side, places_step, place_step, side_none, or_first}
use Rattle.news_journal.specs.Log.{records}
use Rattle.news_pair.proofs.Journals.{records_longer}
use Rattle.news_pair.proofs.Placed.{side_more}
use Rattle.news_pair.proofs.unpacking.unpack_all.Goals as goal

pub loop-kept-preserved : goal.loop-kept-preserved
loop-kept-preserved c =
    let segments = c.args.segments.now in
    let i = c.loop-kept.kept-index in
    let kept = c.kept-item.result in
    let below : c.kept-item.result.at < 2 ^ 30 = search rules in
    let before = payloads (take c.loop-kept.kept-index c.args.segments.now) in
    let entries = payloads c.loop-kept.entries.items in
    let segment = c.in_ok-segment.segment in
    let more = payloads_one_more segments i kept c.loop-kept-test.true c.kept-item.is in
    let found = c.in_ok-segment.ensures.found in
    let whole = side_none _ c.in_ok-segment.ensures.judged in
    let here = subst (λ (rs : List Framed). FromHere c.loop-kept.misplaced (length c.loop-kept.entries.items) rs (misplaced 0 (places c.args.segments.now))) (places_step segments i kept c.loop-kept-test.true c.kept-item.is) c.loop-kept.invariant.found in
    let size : length c.add_entries.new.entries.items ≡ length c.loop-kept.entries.items + length segment.payloads.items =
    omega (arith, ap length c.in_ok-add_entries.ensures.items, length-payloads c.add_entries.new.entries.items, length-payloads c.loop-kept.entries.items, length-append (payloads c.loop-kept.entries.items) segment.payloads.items) in
    let count : length c.loop-kept.entries.items ≡ c.len.result = omega (arith, c.len.ensures) in
    record {
      entries = c.in_ok-add_entries.ensures.items ∙ segment_more before kept.bytes segment.base segment.payloads.items entries found c.loop-kept.invariant.entries ∙ ap packed_by (sym more);
      stand = side_more segments i kept segment.base segment.payloads.items c.loop-kept.entries.items c.add_entries.new.entries.items c.loop-kept-test.true c.kept-item.is found c.loop-kept.invariant.stand c.in_ok-add_entries.ensures.placed;
      placed = λ none.
          let m = none_earlier _ _ _ _ (sym c.first_misplaced-misplaced.ensures ∙ none) in
          let place : segment.base ≡ length entries = omega (arith, m.1, c.len.ensures, length-payloads c.loop-kept.entries.items) in
          subst (AreSegments 0) (sym more) (placed_more before kept.bytes segment.base segment.payloads.items entries found c.loop-kept.invariant.entries place (c.loop-kept.invariant.placed m.0));
      few = omega (arith, size, c.loop-kept.invariant.few, c.in_ok-segment.ensures.few, ap (λ (l : List Bytes). length (records l)) more, records_longer before kept.bytes);
      at = c.in_ok-add_entries.ensures.at below c.loop-kept.invariant.at;
      whole = first_passed no_segment segments i kept c.loop-kept-test.true c.kept-item.is c.loop-kept.invariant.whole whole;
      found =
          subst (λ (m : Option ℕ). FromHere m (length c.add_entries.new.entries.items) (drop (c.loop-kept.kept-index + 1) (places c.args.segments.now)) (misplaced 0 (places c.args.segments.now)))
          (ap (earlier_or c.loop-kept.misplaced kept.at segment.base) count ∙ sym c.first_misplaced-misplaced.ensures)
          (place_step c.loop-kept.misplaced (length c.loop-kept.entries.items) (length c.add_entries.new.entries.items) (kept.at, kept.bytes) (drop (i + 1) (places segments)) segment.base segment.payloads.items (misplaced 0 (places segments)) found size here);
    }

pub returns-in_err-segment-clause-judged : goal.returns-in_err-segment-clause-judged
returns-in_err-segment-clause-judged c =
    let segments = c.args.segments.now in
    let e = err_from_is_err_and c.from_residual.result c.from_residual.ensures.1 in
    rw (e.1, e.2)
    (or_first _ _ _ (first_on_side no_segment segments c.loop-kept.kept-index c.kept-item.result _ c.loop-kept-test.true c.kept-item.is c.loop-kept.invariant.whole c.in_err-segment.ensures.judged))

use Rattle.std.proofs.Common.{arith, sym, ap, ◌∙◌, ◌≡◌, ◌-◌, subst, length, Err, ℕ}
use Rattle.byte_formats.specs.Places.{IsDeadAt}
use Rattle.byte_formats.specs.Gives.{all_of}
use Rattle.byte_formats.proofs.Laws.{ok_is, not_both, bytes_from}
use Rattle.byte_formats.proofs.Alls.{all_takes, all_again, all_fault, all_within}
use Rattle.entry_segments.specs.Reading.{segment, segment_bytes}
use Rattle.entry_segments.specs.Answers.{IsWhole}
use Rattle.entry_segments.proofs.SegmentLaws.{segment_sound}
use Rattle.entry_segments.proofs.reading.unpack.Goals as goal

pub overflow_sub-result : goal.overflow_sub-result
overflow_sub-result c = all_within segment IsWhole segment_sound _ _ (bytes_from c.args.payload.now (λ i. omega (arith, c.type_inv.payload i))) (rw c.in-Err-Left.field-0-is at c.in-Err-Left.ensures)

pub returns-in-Ok-clause-found : goal.returns-in-Ok-clause-found
returns-in-Ok-clause-found c = all_takes segment IsWhole segment_sound _ _ (bytes_from c.args.payload.now (λ i. omega (arith, c.type_inv.payload i))) c.in-Ok.ensures

pub returns-in-Ok-clause-only : goal.returns-in-Ok-clause-only
returns-in-Ok-clause-only c = λ s fits is. ok_is _ s (sym c.in-Ok.ensures ∙ (ap (all_of segment) is ∙ all_again segment IsWhole segment_sound s fits))

pub returns-in-Err-Left-clause-only : goal.returns-in-Err-Left-clause-only
returns-in-Err-Left-clause-only c = λ s fits is. not_both (all_of segment c.args.payload.now) s _ (ap (all_of segment) is ∙ all_again segment IsWhole segment_sound s fits) (rw c.in-Err-Left.field-0-is at c.in-Err-Left.ensures)

pub returns-in-Err-Left-clause-fault : goal.returns-in-Err-Left-clause-fault
returns-in-Err-Left-clause-fault c = λ at e.
    let same : length c.args.payload.now - c.in-Err-Left.left ≡ at = cc in
    subst (IsDeadAt segment_bytes IsWhole c.args.payload.now) same
    (all_fault segment IsWhole segment_sound _ _ (bytes_from c.args.payload.now (λ i. omega (arith, c.type_inv.payload i))) (rw c.in-Err-Left.field-0-is at c.in-Err-Left.ensures))

pub returns-in-Err-Left-clause-place : goal.returns-in-Err-Left-clause-place
returns-in-Err-Left-clause-place c = λ at e.
    let same : length c.args.payload.now - c.in-Err-Left.left ≡ at = cc in
    let bad : all_of segment c.args.payload.now ≡ Err c.in-Err-Left.left = rw c.in-Err-Left.field-0-is at c.in-Err-Left.ensures in
    let within = all_within segment IsWhole segment_sound c.args.payload.now c.in-Err-Left.left (bytes_from c.args.payload.now (λ i. omega (arith, c.type_inv.payload i))) bad in
    let left : c.in-Err-Left.left ≡ length c.args.payload.now - at = omega (arith, same, within) in
    bad ∙ ap (λ (n : ℕ). Err n) left

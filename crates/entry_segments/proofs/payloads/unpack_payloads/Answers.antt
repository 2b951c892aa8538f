use Rattle.std.proofs.Common.{arith, sym, ap, ◌∙◌, ◌≡◌, ◌-◌, subst, length, Err, ℕ}
use Rattle.byte_formats.specs.Places.{IsDeadAt}
use Rattle.byte_formats.specs.Gives.{all_of}
use Rattle.byte_formats.proofs.Laws.{ok_is, not_both, bytes_from}
use Rattle.byte_formats.proofs.Alls.{all_takes, all_again, all_fault, all_within}
use Rattle.entry_segments.specs.declared.segment.Segment.{Segment}
use Rattle.entry_segments.specs.Reading.{segment, segment_bytes}
use Rattle.entry_segments.specs.Answers.{IsWhole}
use Rattle.entry_segments.specs.Payloads.{HasPayloads}
use Rattle.entry_segments.proofs.SegmentLaws.{segment_sound}
use Rattle.entry_segments.proofs.ReadSegments.{was_read, was_fault}
use Rattle.entry_segments.proofs.payloads.unpack_payloads.Goals as goal

pub overflow_sub-result : goal.overflow_sub-result
overflow_sub-result c =
    let bad = was_fault (all_of segment c.args.payload.now) c.in-Err-Left.left (rw c.in-Err-Left.field-0-is at c.in-Err-Left.ensures) in
    all_within segment IsWhole segment_sound c.args.payload.now c.in-Err-Left.left (bytes_from c.args.payload.now (λ i. omega (arith, c.type_inv.payload i))) bad

pub returns-in-Ok-clause-found : goal.returns-in-Ok-clause-found
returns-in-Ok-clause-found c =
    let g = was_read c.in-Ok.read (all_of segment c.args.payload.now) c.in-Ok.ensures in
    let t = all_takes segment IsWhole segment_sound c.args.payload.now g.0 (bytes_from c.args.payload.now (λ i. omega (arith, c.type_inv.payload i))) g.1 in
    record { of = g.0; whole = t.0; is = t.1; has = g.2 }

pub returns-in-Ok-clause-only : goal.returns-in-Ok-clause-only
returns-in-Ok-clause-only c = λ s fits is.
    let g = was_read c.in-Ok.read (all_of segment c.args.payload.now) c.in-Ok.ensures in
    let same : g.0 ≡ s = ok_is g.0 s (sym g.1 ∙ (ap (all_of segment) is ∙ all_again segment IsWhole segment_sound s fits)) in
    subst (λ (z : Segment). HasPayloads z c.in-Ok.read) same g.2

pub returns-in-Err-Left-clause-only : goal.returns-in-Err-Left-clause-only
returns-in-Err-Left-clause-only c = λ s fits is.
    let bad = was_fault (all_of segment c.args.payload.now) c.in-Err-Left.left (rw c.in-Err-Left.field-0-is at c.in-Err-Left.ensures) in
    not_both (all_of segment c.args.payload.now) s c.in-Err-Left.left (ap (all_of segment) is ∙ all_again segment IsWhole segment_sound s fits) bad

pub returns-in-Err-Left-clause-fault : goal.returns-in-Err-Left-clause-fault
returns-in-Err-Left-clause-fault c = λ at e.
    let bad = was_fault (all_of segment c.args.payload.now) c.in-Err-Left.left (rw c.in-Err-Left.field-0-is at c.in-Err-Left.ensures) in
    let same : length c.args.payload.now - c.in-Err-Left.left ≡ at = cc in
    subst (IsDeadAt segment_bytes IsWhole c.args.payload.now) same
    (all_fault segment IsWhole segment_sound c.args.payload.now c.in-Err-Left.left (bytes_from c.args.payload.now (λ i. omega (arith, c.type_inv.payload i))) bad)

pub returns-in-Err-Left-clause-place : goal.returns-in-Err-Left-clause-place
returns-in-Err-Left-clause-place c = λ at e.
    let bad = was_fault (all_of segment c.args.payload.now) c.in-Err-Left.left (rw c.in-Err-Left.field-0-is at c.in-Err-Left.ensures) in
    let same : length c.args.payload.now - c.in-Err-Left.left ≡ at = cc in
    let within = all_within segment IsWhole segment_sound c.args.payload.now c.in-Err-Left.left (bytes_from c.args.payload.now (λ i. omega (arith, c.type_inv.payload i))) bad in
    let left : c.in-Err-Left.left ≡ length c.args.payload.now - at = omega (arith, same, within) in
    bad ∙ ap (λ (n : ℕ). Err n) left

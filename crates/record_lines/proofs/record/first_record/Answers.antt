use Rattle.std.proofs.Common.{arith, length, ◌-◌, ◌≡◌, Err, ap, subst, sym, ◌∙◌}
use Rattle.byte_formats.proofs.Laws.{bytes_from}
use Rattle.record_lines.specs.declared.record.FirstRecord.TheVariants.{Whole}
use Rattle.record_lines.specs.Reads.{IsFirst}
use Rattle.record_lines.specs.Formats.{read_record_at}
use Rattle.record_lines.proofs.FirstRecords.{left_within, fault_within, first_whole, first_bad, first_cut}
use Rattle.record_lines.proofs.record.first_record.Goals as goal

pub overflow_sub-result : goal.overflow_sub-result
overflow_sub-result c = let bytes = c.args.bytes.now in omega (arith, c.left.ensures, left_within bytes (bytes_from bytes (λ i. omega (arith, c.type_inv.bytes i))) _ _ (ap read_record_at (sym c.new-input.ensures) ∙ c.in-Ok.ensures.record))

pub overflow_sub-result-in-Err : goal.overflow_sub-result-in-Err
overflow_sub-result-in-Err c = let bytes = c.args.bytes.now in fault_within bytes (bytes_from bytes (λ i. omega (arith, c.type_inv.bytes i))) c.in-Err.left (ap read_record_at (sym c.new-input.ensures) ∙ c.in-Err.ensures.fault)

pub returns-in-Ok : goal.returns-in-Ok
returns-in-Ok c =
    let bytes = c.args.bytes.now in
    subst (λ n. IsFirst bytes (Whole (length bytes - n))) (sym c.left.ensures)
    (first_whole bytes (bytes_from bytes (λ i. omega (arith, c.type_inv.bytes i))) _ _ (ap read_record_at (sym c.new-input.ensures) ∙ c.in-Ok.ensures.record))

pub returns-in-Err-eq0 : goal.returns-in-Err-eq0
returns-in-Err-eq0 c =
    let bytes = c.args.bytes.now in
    let none : c.in-Err-eq0.field-0 ≡ 0 = omega arith in
    let read : read_record_at bytes ≡ Err 0 = ap read_record_at (sym c.new-input.ensures) ∙ c.in-Err-eq0.ensures.fault ∙ ap (λ n. Err n) none in
    first_cut bytes (bytes_from bytes (λ i. omega (arith, c.type_inv.bytes i))) read

pub returns-in-Err : goal.returns-in-Err
returns-in-Err c =
    let bytes = c.args.bytes.now in
    first_bad bytes (bytes_from bytes (λ i. omega (arith, c.type_inv.bytes i))) c.in-Err.left (omega arith) (ap read_record_at (sym c.new-input.ensures) ∙ c.in-Err.ensures.fault)

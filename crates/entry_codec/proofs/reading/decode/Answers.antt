use Rattle.std.proofs.Common.{arith, sym, ap, ◌∙◌, ◌≡◌, ◌-◌, subst, length}
use Rattle.byte_formats.specs.Faults.{IsFaultAt}
use Rattle.byte_formats.specs.Gives.{all_of}
use Rattle.byte_formats.proofs.Laws.{ok_is, not_both, bytes_from}
use Rattle.byte_formats.proofs.Whole.{all_takes, all_again, all_fault, all_within}
use Rattle.entry_codec.specs.Spelling.{entry_bytes}
use Rattle.entry_codec.specs.Formed.{IsEntry}
use Rattle.entry_codec.specs.Commands.{entry}
use Rattle.entry_codec.proofs.EntryLaws.{entry_lawful}
use Rattle.entry_codec.proofs.reading.decode.Goals as goal

pub overflow_sub-result : goal.overflow_sub-result
overflow_sub-result c = all_within entry IsEntry entry_lawful _ _ (bytes_from c.args.payload.now (λ i. omega (arith, c.type_inv.payload i))) (rw c.in-Err-Left.field-0-is at c.in-Err-Left.ensures)

pub returns-in-Ok-clause-found : goal.returns-in-Ok-clause-found
returns-in-Ok-clause-found c = all_takes entry IsEntry entry_lawful _ _ (bytes_from c.args.payload.now (λ i. omega (arith, c.type_inv.payload i))) c.in-Ok.ensures

pub returns-in-Ok-clause-only : goal.returns-in-Ok-clause-only
returns-in-Ok-clause-only c = λ e fits is. ok_is _ e (sym c.in-Ok.ensures ∙ (ap (all_of entry) is ∙ all_again entry IsEntry entry_lawful e fits))

pub returns-in-Err-Left-clause-only : goal.returns-in-Err-Left-clause-only
returns-in-Err-Left-clause-only c = λ e fits is. not_both (all_of entry c.args.payload.now) e _ (ap (all_of entry) is ∙ all_again entry IsEntry entry_lawful e fits) (rw c.in-Err-Left.field-0-is at c.in-Err-Left.ensures)

pub returns-in-Err-Left-clause-fault : goal.returns-in-Err-Left-clause-fault
returns-in-Err-Left-clause-fault c = λ at e.
    let same : length c.args.payload.now - c.in-Err-Left.left ≡ at = cc in
    subst (IsFaultAt entry_bytes IsEntry c.args.payload.now) same
    (all_fault entry IsEntry entry_lawful _ _ (bytes_from c.args.payload.now (λ i. omega (arith, c.type_inv.payload i))) (rw c.in-Err-Left.field-0-is at c.in-Err-Left.ensures))

use Rattle.std.proofs.Common.{arith, refl, sym, ap, ◌∙◌, ◌≡◌, ◌-◌, ℕ, Result, Ok, Err, subst, length}
use Rattle.news_types.specs.declared.entry.Entry.{Entry}
use Rattle.byte_formats.specs.Faults.{IsFaultAt}
use Rattle.byte_formats.specs.Gives.{all_of}
use Rattle.byte_formats.proofs.Laws.{ok_is, not_both, bytes_from}
use Rattle.byte_formats.proofs.Whole.{all_takes, all_again, all_fault, all_within}
use Rattle.entry_codec.specs.Spelling.{entry_bytes}
use Rattle.entry_codec.specs.Formed.{IsEntry}
use Rattle.entry_codec.specs.Commands.{entry}
use Rattle.entry_codec.specs.Passing.{moment_alone}
use Rattle.entry_codec.proofs.EntryLaws.{entry_lawful}
use Rattle.entry_codec.proofs.passing.moment_of.Goals as goal

-- an entry was read, and this is its moment
read_so : (read : Result Entry ℕ) (moment : ℕ) → moment_alone read ≡ Ok moment → (e : Entry) × (read ≡ Ok e) × (moment ≡ e.moment)
read_so (Ok e) moment is = (e, refl, ok_is moment e.moment (sym is))
read_so (Err left) moment is = absurd (cc is)

pub overflow_sub-result : goal.overflow_sub-result
overflow_sub-result c = all_within entry IsEntry entry_lawful _ _ (bytes_from c.args.payload.now (λ i. omega (arith, c.type_inv.payload i))) (rw c.in-Err-Left.field-0-is at c.in-Err-Left.ensures)

pub returns-in-Ok-clause-found : goal.returns-in-Ok-clause-found
returns-in-Ok-clause-found c =
    let so = read_so (all_of entry c.args.payload.now) c.in-Ok.moment c.in-Ok.ensures in
    let takes = all_takes entry IsEntry entry_lawful _ _ (bytes_from c.args.payload.now (λ i. omega (arith, c.type_inv.payload i))) so.1 in
    (so.0, takes.0, takes.1, so.2)

pub returns-in-Ok-clause-only : goal.returns-in-Ok-clause-only
returns-in-Ok-clause-only c = λ e fits is.
    let so = read_so (all_of entry c.args.payload.now) c.in-Ok.moment c.in-Ok.ensures in
    so.2 ∙ ap (λ (x : Entry). x.moment) (ok_is so.0 e (sym so.1 ∙ (ap (all_of entry) is ∙ all_again entry IsEntry entry_lawful e fits)))

pub returns-in-Err-Left-clause-only : goal.returns-in-Err-Left-clause-only
returns-in-Err-Left-clause-only c = λ e fits is. not_both (all_of entry c.args.payload.now) e _ (ap (all_of entry) is ∙ all_again entry IsEntry entry_lawful e fits) (rw c.in-Err-Left.field-0-is at c.in-Err-Left.ensures)

pub returns-in-Err-Left-clause-fault : goal.returns-in-Err-Left-clause-fault
returns-in-Err-Left-clause-fault c = λ at e.
    let same : length c.args.payload.now - c.in-Err-Left.left ≡ at = cc in
    subst (IsFaultAt entry_bytes IsEntry c.args.payload.now) same
    (all_fault entry IsEntry entry_lawful _ _ (bytes_from c.args.payload.now (λ i. omega (arith, c.type_inv.payload i))) (rw c.in-Err-Left.field-0-is at c.in-Err-Left.ensures))

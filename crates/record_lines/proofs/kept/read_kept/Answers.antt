use Rattle.std.proofs.Common.{arith, sym, ◌∙◌}
use Rattle.byte_formats.proofs.Laws.{ok_is, not_both, bytes_from}
use Rattle.record_lines.proofs.Replies.{line_found, line_again, fails_at}
use Rattle.record_lines.proofs.kept.read_kept.Goals as goal

pub returns-in-Ok-clause-found : goal.returns-in-Ok-clause-found
returns-in-Ok-clause-found c = (line_found c.args.line.now _ (bytes_from c.args.line.now (λ i. omega (arith, c.type_inv.line i))) c.in-Ok.ensures.gives).1

pub returns-in-Ok-clause-only : goal.returns-in-Ok-clause-only
returns-in-Ok-clause-only c = λ n form is. let same = ok_is _ n (sym c.in-Ok.ensures.gives ∙ line_again c.args.line.now n form is) in cc (same)

pub returns-in-Err-clause-only : goal.returns-in-Err-clause-only
returns-in-Err-clause-only c = λ n form is.
    let fault = fails_at c.in-Err.field-0 _ c.in-Err.ensures.calm c.in-Err.ensures.gives in
    not_both _ n fault.0 (line_again c.args.line.now n form is) fault.1

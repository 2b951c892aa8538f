use Rattle.std.proofs.Common.{ap, ◌∙◌}
use Rattle.publications.specs.Keeps.{row_at}
use Rattle.publications.proofs.Rows.{row_found}
use Rattle.publications.proofs.table.Publications.published.Goals as goal

pub returns : goal.returns
returns c ps st keeps =
    c.row_of.ensures ∙ ap (λ rows. row_at rows c.args.number) (c.deref.ensures.value ∙ keeps.rows) ∙ row_found ps c.args.number

use Rattle.std.proofs.Common.{sym, ap, ◌∙◌}
use Rattle.std.specs.Prelude.{option_map}
use Rattle.products.specs.Keeps.{product_of}
use Rattle.desk_questions.specs.Rows.{product_row}
use Rattle.desk_questions.proofs.rows.product_row.Goals as goal

pub returns : goal.returns
returns c = λ h keeps. c.in_ok-row.ensures ∙ ap (product_row c.args.name.now) (sym (ap (option_map product_of) c.in-Some.is) ∙ c.product.ensures h keeps)

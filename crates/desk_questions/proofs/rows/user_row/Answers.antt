use Rattle.std.proofs.Common.{sym, ap, ◌∙◌}
use Rattle.desk_questions.specs.Rows.{user_row}
use Rattle.desk_questions.proofs.rows.user_row.Goals as goal

pub returns : goal.returns
returns c = λ h keeps. c.in_ok-row.ensures ∙ ap (user_row c.args.name.now) (sym c.in-Some.is ∙ c.privileges.ensures h keeps)

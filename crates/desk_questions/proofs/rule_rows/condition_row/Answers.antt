use Rattle.std.proofs.Common.{sym, ap, ◌∙◌}
use Rattle.std.specs.Prelude.{option_map}
use Rattle.std.specs.Option.{option_copied}
use Rattle.content_filters.specs.Kept.{condition_of}
use Rattle.desk_questions.specs.Rows.{condition_row}
use Rattle.desk_questions.proofs.rule_rows.condition_row.Goals as goal

pub returns : goal.returns
returns c = λ h keeps.
    c.in_ok-row.ensures
    ∙ ap (condition_row c.args.name.now) (sym (ap (option_map condition_of) (ap option_copied c.in-Some.is)) ∙ c.condition.ensures h keeps)

use Rattle.std.proofs.Common.{sym, ap, ◌∙◌}
use Rattle.std.specs.Option.{option_copied}
use Rattle.told_objects.specs.Seen.{seen}
use Rattle.desk_questions.specs.Rows.{rule_row, scheme_members, scheme_row}
use Rattle.desk_questions.proofs.Listed.{same_objects}
use Rattle.desk_questions.proofs.rule_rows.scheme_row.Goals as goal

pub returns : goal.returns
returns c = λ h keeps.
    let name = c.args.name.now in
    let rules = same_objects seen rule_row c.in_ok-rows.rows.items c.in-Some.list.now c.in_ok-rows.ensures in
    c.in_ok-row.ensures
    ∙ ap (scheme_members name) rules
    ∙ ap (scheme_row name) (sym (ap option_copied c.in-Some.is) ∙ c.scheme.ensures h keeps)

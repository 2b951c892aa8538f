use Rattle.std.proofs.Common.{sym, ap, ◌∙◌}
use Rattle.std.specs.Prelude.{option_map}
use Rattle.rule_tables.specs.Listed.{provider_of}
use Rattle.desk_questions.specs.Rows.{provider_row}
use Rattle.desk_questions.proofs.rows.provider_row.Goals as goal

pub returns : goal.returns
returns c = λ h keeps. c.in_ok-row.ensures ∙ ap (provider_row c.args.name.now) (sym (ap (option_map provider_of) c.in-Some.is) ∙ c.provider.ensures h keeps)

use Rattle.std.proofs.Common.{sym, ap, ◌∙◌}
use Rattle.std.specs.Prelude.{option_map}
use Rattle.std.specs.Option.{option_copied}
use Rattle.products.specs.Keeps.{subscriber_of}
use Rattle.desk_questions.specs.Rows.{subscriber_row}
use Rattle.desk_questions.proofs.rows.subscriber_row.Goals as goal

pub returns : goal.returns
returns c = λ h keeps.
    c.in_ok-row.ensures
    ∙ ap (subscriber_row c.args.name.now) (sym (ap (option_map subscriber_of) (ap option_copied c.in-Some.is)) ∙ c.terms.ensures h keeps)

use Rattle.news_types.specs.Publications.{made}
use Rattle.list_runs.proofs.Issued.{makes_none, then_ok}
use Rattle.list_runs.proofs.terms.terms_of_command.Goals as goal

pub returns-in_default : goal.returns-in_default
returns-in_default c =
    then_ok _ _ c.terms_of_issue.result c.terms_of_issue.ensures
    (λ terms told g caller number p stands is.
    told g caller number p stands (makes_none (made g) c.args.moment caller c.args.command.now is.issue c.in_default.not-Flash is.issued) is)

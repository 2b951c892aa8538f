use Rattle.std.proofs.Common.{sym, ap, subst, ◌∙◌}
use Rattle.news_types.specs.declared.entry.Act.{Act}
use Rattle.list_runs.specs.Making.{IsMade}
use Rattle.list_runs.proofs.Issued.{plain_terms, then_ok, with_targets}
use Rattle.list_runs.proofs.terms.terms_of.Goals as goal

pub returns-in-Request : goal.returns-in-Request
returns-in-Request c =
    then_ok _ _ c.terms_of_command.result c.terms_of_command.ensures
    (λ terms told g p stands is. told g c.in-Request.caller c.in-Request.number p stands (subst (λ (a : Act). IsMade g c.args.entry.now.moment a p) c.in-Request.is is))

pub returns-in_default : goal.returns-in_default
returns-in_default c =
    λ g p stands is.
    ap with_targets (c.of.ensures ∙ c.new.ensures.items) ∙ sym (plain_terms g c.args.subscriber.now c.args.entry.now.moment c.args.entry.now.act p c.in_default.not-Request is)

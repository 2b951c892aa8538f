use Rattle.std.proofs.Common.{◌∙◌, inl, ap, subst}
use Rattle.news_types.specs.Names.{Bytes}
use Rattle.package_rules.specs.Report.{contents_report}
use Rattle.newsdesk_cli.specs.Telling.{IsTold}
use Rattle.newsdesk_cli.proofs.contents.tell_contents.Goals as goal

pub returns-in-Ok : goal.returns-in-Ok
returns-in-Ok g c b stands =
    inl
    (subst (λ (l : Bytes). IsTold g.O.Sink.sink l c.args.output.now c.tell_answer.new.output c.tell_answer.result)
    (c.as_slice.ensures ∙ c.in-Ok.ensures b stands ∙ ap (λ (s : Bytes). contents_report b.list s c.args.publication) (c.store.ensures b stands)) c.tell_answer.ensures)

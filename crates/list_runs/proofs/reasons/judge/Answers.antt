use Rattle.std.proofs.Common.{List, sym, subst, ap, ◌∙◌}
use Rattle.news_types.specs.declared.query.Publication.{Publication}
use Rattle.news_types.specs.declared.story.Story.{Story}
use Rattle.news_types.specs.Names.{Bytes}
use Rattle.feed_reasons.specs.Verdicts.{verdict}
use Rattle.newsroom.specs.Stands.{Stands, StandsFor}
use Rattle.newsroom.specs.declared.newsroom.Newsroom.{Newsroom}
use Rattle.list_runs.proofs.Makings.{makes_it}
use Rattle.list_runs.proofs.Whys.{judged_is}
use Rattle.list_runs.proofs.reasons.judge.Goals as goal

pub terms_of-requires : goal.terms_of-requires
terms_of-requires c = subst Stands (sym c.newsroom-then.ensures) c.requires

pub returns : goal.returns
returns c = λ n h p making found same.
    let g = making.list in
    let s = c.args.subscriber.now in
    let stands = subst (λ (m : Newsroom). StandsFor m making.list) (sym c.newsroom-then.ensures) making.stands in
    let terms = c.in_ok-terms.ensures g p stands (makes_it n h g c.args.making.now.entry p making.makes found) in
    let keeps = c.rules-rules.ensures g stands in
    let said = c.in_ok-verdict.ensures g c.as_story.result.now keeps (c.in_ok-verdicts.ensures g keeps) in
    judged_is g s p c.in_ok-terms.terms c.in_ok-verdict.verdict terms
    (said ∙ ap (λ (t : List Bytes). verdict g c.as_story.result.now t s) c.as_slice.ensures
    ∙ ap (λ (st : Story). verdict g st c.in_ok-terms.terms.targets s) (c.as_story.ensures ∙ ap (λ (x : Publication). x.story) same))

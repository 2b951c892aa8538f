use Rattle.std.proofs.Common.{◌∙◌, ap}
use Rattle.news_types.specs.Names.{is_in}
use Rattle.list_runs.proofs.Issued.{reached_had}
use Rattle.list_runs.proofs.terms.had_before.Goals as goal

pub returns-in_ok-names-in_default : goal.returns-in_ok-names-in_default
returns-in_ok-names-in_default c g stands =
    c.is_among.ensures ∙ ap (is_in c.args.subscriber.now) c.as_slice.ensures
    ∙ c.in_ok-names-in_default.ensures g (c.stories.ensures.keeps g stands) c.args.subscriber.now
    ∙ reached_had g c.args.issue.now.kind c.args.issue.now.item c.args.issue.now.release c.args.subscriber.now c.in_default.not-First

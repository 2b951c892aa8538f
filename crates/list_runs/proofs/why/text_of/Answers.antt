use Rattle.std.proofs.Common.{sym, ◌∙◌, arith}
use Rattle.story_tables.specs.Pages.{publication_of}
use Rattle.list_runs.specs.Why.{reasons_in}
use Rattle.list_runs.proofs.Issued.{then_ok}
use Rattle.list_runs.proofs.Whys.{no_publication, no_subscriber, some_number, object_is}
use Rattle.list_runs.proofs.why.text_of.Goals as goal

pub returns-in_default : goal.returns-in_default
returns-in_default c =
    then_ok _ _ c.unknown.result c.unknown.ensures
    (λ text is h stands are. is ∙ no_publication h c.args.publication c.args.subscriber.now (c.in_default.ensures h stands))

pub returns-then-not-has_feeds : goal.returns-then-not-has_feeds
returns-then-not-has_feeds c =
    then_ok _ _ c.unknown-then-not-has_feeds.result c.unknown-then-not-has_feeds.ensures
    (λ text is h stands are.
    is ∙ no_subscriber h c.args.publication c.args.subscriber.now (publication_of c.args.publication c.in-Some.published.now) (c.in-Some.ensures h stands)
    (sym (c.if-not-has_feeds.ensures h (c.stories.ensures.keeps h stands))))

pub find_reasons-requires-clause-some : goal.find_reasons-requires-clause-some
find_reasons-requires-clause-some c =
    let h = c.requires.stands.0 in
    let some = some_number h c.args.publication (publication_of c.args.publication c.in-Some.published.now) (c.in-Some.ensures h c.requires.stands.1.0) in
    omega (arith, some)

pub returns : goal.returns
returns c =
    then_ok _ _ c.object_of.result c.object_of.ensures
    (λ text is h stands are.
    is ∙ object_is h c.args.publication c.args.subscriber.now c.in-Some.published.now (reasons_in c.in_ok-found.found) (c.in-Some.ensures h stands)
    (sym (c.if-not-has_feeds.ensures h (c.stories.ensures.keeps h stands)))
    (λ p there same. c.in_ok-found.ensures h p stands are there same))

use Rattle.std.proofs.Common.{◌≡◌, true, false, None, Some, sym, ap, ◌∙◌, cond}
use Rattle.std.specs.List.{list_all}
use Rattle.news_types.specs.Products.{is_subscriber}
use Rattle.news_types.specs.declared.words.Thing.TheVariants as thing
use Rattle.news_types.specs.declared.denial.Denial.TheVariants.{UnknownThing}
use Rattle.news_types.specs.Denial.{or_else, items_full, pubs_full}
use Rattle.newsroom.proofs.Reasons.{stop_here, go_on, flash_rest, no_flash}
use Rattle.newsroom.proofs.newsroom.Newsroom.flash_denied.Goals as goal

pub returns-in_default : goal.returns-in_default
returns-in_default c h caller m stands is = no_flash h caller c.args.command.now m is c.in_default.not-Flash

pub returns-then-not-has_feeds : goal.returns-then-not-has_feeds
returns-then-not-has_feeds c h caller m stands is =
    let all : list_all (is_subscriber h) c.in-Flash.targets ≡ false = rw (← c.as_slice.ensures) (sym (c.has_feeds.ensures h stands.stories) ∙ c.if-not-has_feeds.true) in
    rw c.in-Flash.is (ap (λ b. or_else (cond b None (Some (UnknownThing thing.Subscriber))) (or_else (items_full h) (pubs_full h))) (sym all) ∙ flash_rest h caller c.in-Flash.story c.in-Flash.targets m)

pub returns-in-Some : goal.returns-in-Some
returns-in-Some c h caller m stands is =
    let all : list_all (is_subscriber h) c.in-Flash.targets ≡ true = rw (← c.as_slice.ensures) (sym (c.has_feeds.ensures h stands.stories) ∙ c.if-not-has_feeds.false) in
    rw c.in-Flash.is (stop_here (items_full h) (pubs_full h) c.in-Some.denial (sym (c.items_full.ensures h stands.stories) ∙ c.in-Some.is)
    ∙ ap (λ b. or_else (cond b None (Some (UnknownThing thing.Subscriber))) (or_else (items_full h) (pubs_full h))) (sym all) ∙ flash_rest h caller c.in-Flash.story c.in-Flash.targets m)

pub returns : goal.returns
returns c h caller m stands is =
    let all : list_all (is_subscriber h) c.in-Flash.targets ≡ true = rw (← c.as_slice.ensures) (sym (c.has_feeds.ensures h stands.stories) ∙ c.if-not-has_feeds.false) in
    rw c.in-Flash.is (c.publications_full.ensures h stands.stories ∙ go_on (items_full h) (pubs_full h) (sym (c.items_full.ensures h stands.stories) ∙ c.in_default-items_full.is)
    ∙ ap (λ b. or_else (cond b None (Some (UnknownThing thing.Subscriber))) (or_else (items_full h) (pubs_full h))) (sym all) ∙ flash_rest h caller c.in-Flash.story c.in-Flash.targets m)

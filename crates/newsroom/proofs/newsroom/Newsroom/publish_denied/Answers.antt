use Rattle.std.proofs.Common.{◌≡◌, true, false, None, Some, cond, sym, ap, ◌∙◌}
use Rattle.std.specs.List.{list_all}
use Rattle.news_types.specs.declared.command.Command.TheVariants.{Publish}
use Rattle.news_types.specs.Products.{is_subscriber}
use Rattle.news_types.specs.declared.words.Thing.TheVariants as thing
use Rattle.news_types.specs.declared.denial.Denial.TheVariants.{UnknownThing}
use Rattle.news_types.specs.Denial.{or_else, times_denial, pubs_full}
use Rattle.desk_rules.specs.Asked.{may_denial}
use Rattle.newsroom.proofs.Reasons.{stop_here, go_on, publish_rest, no_publish}
use Rattle.newsroom.proofs.newsroom.Newsroom.publish_denied.Goals as goal

pub returns-in_default : goal.returns-in_default
returns-in_default c h stands none is = no_publish h c.args.caller.now c.args.command.now c.args.moment is c.in_default.not-Publish

pub returns-then-not-has_feeds : goal.returns-then-not-has_feeds
returns-then-not-has_feeds c h stands none is =
    let i = c.in-Publish.item in
    let targets = c.in-Publish.targets in
    let schedule = c.in-Publish.schedule in
    let embargo = c.in-Publish.embargo in
    let from = c.in-Some.state in
    let there = sym (c.state.ensures h stands.stories) ∙ c.in-Some.is in
    let why = rw c.in-Publish.is at none in
    let rest = publish_rest h c.args.caller.now c.args.moment i c.in-Publish.session schedule embargo targets from why there in
    let all : list_all (is_subscriber h) targets ≡ false = rw (← c.as_slice.ensures) (sym (c.has_feeds.ensures h stands.stories) ∙ c.if-not-has_feeds.true) in
    rw c.in-Publish.is (ap (λ b. or_else (cond b None (Some (UnknownThing thing.Subscriber))) (or_else (may_denial h c.args.caller.now (Publish i c.in-Publish.session schedule embargo targets) (Some from)) (or_else (times_denial c.args.moment schedule embargo) (pubs_full h)))) (sym all) ∙ rest)

pub returns-in-Some-may : goal.returns-in-Some-may
returns-in-Some-may c h stands none is =
    let i = c.in-Publish.item in
    let targets = c.in-Publish.targets in
    let schedule = c.in-Publish.schedule in
    let embargo = c.in-Publish.embargo in
    let from = c.in-Some.state in
    let there = sym (c.state.ensures h stands.stories) ∙ c.in-Some.is in
    let why = rw c.in-Publish.is at none in
    let rest = publish_rest h c.args.caller.now c.args.moment i c.in-Publish.session schedule embargo targets from why there in
    let all : list_all (is_subscriber h) targets ≡ true = rw (← c.as_slice.ensures) (sym (c.has_feeds.ensures h stands.stories) ∙ c.if-not-has_feeds.false) in
    let may = rw c.in-Publish.is at (c.may.ensures h stands.rules) in
    rw c.in-Publish.is (stop_here (may_denial h c.args.caller.now (Publish i c.in-Publish.session schedule embargo targets) (Some from)) (or_else (times_denial c.args.moment schedule embargo) (pubs_full h)) c.in-Some-may.denial (sym may ∙ c.in-Some-may.is) ∙ ap (λ b. or_else (cond b None (Some (UnknownThing thing.Subscriber))) (or_else (may_denial h c.args.caller.now (Publish i c.in-Publish.session schedule embargo targets) (Some from)) (or_else (times_denial c.args.moment schedule embargo) (pubs_full h)))) (sym all) ∙ rest)

pub returns-in-Some-times_denied : goal.returns-in-Some-times_denied
returns-in-Some-times_denied c h stands none is =
    let i = c.in-Publish.item in
    let targets = c.in-Publish.targets in
    let schedule = c.in-Publish.schedule in
    let embargo = c.in-Publish.embargo in
    let from = c.in-Some.state in
    let there = sym (c.state.ensures h stands.stories) ∙ c.in-Some.is in
    let why = rw c.in-Publish.is at none in
    let rest = publish_rest h c.args.caller.now c.args.moment i c.in-Publish.session schedule embargo targets from why there in
    let all : list_all (is_subscriber h) targets ≡ true = rw (← c.as_slice.ensures) (sym (c.has_feeds.ensures h stands.stories) ∙ c.if-not-has_feeds.false) in
    let may = rw c.in-Publish.is at (c.may.ensures h stands.rules) in
    rw c.in-Publish.is (stop_here (times_denial c.args.moment schedule embargo) (pubs_full h) c.in-Some-times_denied.denial (sym c.times_denied.ensures ∙ c.in-Some-times_denied.is) ∙ go_on (may_denial h c.args.caller.now (Publish i c.in-Publish.session schedule embargo targets) (Some from)) _ (sym may ∙ c.in_default-may.is) ∙ ap (λ b. or_else (cond b None (Some (UnknownThing thing.Subscriber))) (or_else (may_denial h c.args.caller.now (Publish i c.in-Publish.session schedule embargo targets) (Some from)) (or_else (times_denial c.args.moment schedule embargo) (pubs_full h)))) (sym all) ∙ rest)

pub returns : goal.returns
returns c h stands none is =
    let i = c.in-Publish.item in
    let targets = c.in-Publish.targets in
    let schedule = c.in-Publish.schedule in
    let embargo = c.in-Publish.embargo in
    let from = c.in-Some.state in
    let there = sym (c.state.ensures h stands.stories) ∙ c.in-Some.is in
    let why = rw c.in-Publish.is at none in
    let rest = publish_rest h c.args.caller.now c.args.moment i c.in-Publish.session schedule embargo targets from why there in
    let all : list_all (is_subscriber h) targets ≡ true = rw (← c.as_slice.ensures) (sym (c.has_feeds.ensures h stands.stories) ∙ c.if-not-has_feeds.false) in
    let may = rw c.in-Publish.is at (c.may.ensures h stands.rules) in
    rw c.in-Publish.is (c.publications_full.ensures h stands.stories ∙ go_on (times_denial c.args.moment schedule embargo) (pubs_full h) (sym c.times_denied.ensures ∙ c.in_default-times_denied.is) ∙ go_on (may_denial h c.args.caller.now (Publish i c.in-Publish.session schedule embargo targets) (Some from)) _ (sym may ∙ c.in_default-may.is) ∙ ap (λ b. or_else (cond b None (Some (UnknownThing thing.Subscriber))) (or_else (may_denial h c.args.caller.now (Publish i c.in-Publish.session schedule embargo targets) (Some from)) (or_else (times_denial c.args.moment schedule embargo) (pubs_full h)))) (sym all) ∙ rest)

use Rattle.std.proofs.Common.{[], ◌∷◌, ◌++◌, Some, None, sym, ap, ◌∙◌, subst}
use Rattle.news_types.specs.declared.words.State.TheVariants.{Ingested}
use Rattle.news_types.specs.Items.{fresh, origin_of, items_by_effect}
use Rattle.news_types.specs.Publications.{made}
use Rattle.story_tables.specs.Ingests.{effect_of}
use Rattle.story_tables.proofs.Ingested.{MakesOne, item_made}
use Rattle.story_tables.proofs.stories.Stories.ingest_items.Goals as goal

pub returns-in_ok-change-in-New-clause-change : goal.returns-in_ok-change-in-New-clause-change
returns-in_ok-change-in-New-clause-change c h m keeps does =
    let name = c.args.provider in
    let come = c.args.come.now in
    let is = does ∙ ap effect_of c.in-New.is in
    item_made h m name come c.in_ok-change-in-New.change Ingested None c.in_ok-change-in-New.ensures.change (subst MakesOne (sym is) tt) (ap (items_by_effect (made h) name come) is)

pub returns-in_ok-change-in-NewAt-clause-change : goal.returns-in_ok-change-in-NewAt-clause-change
returns-in_ok-change-in-NewAt-clause-change c h m keeps does =
    let name = c.args.provider in
    let come = c.args.come.now in
    let is = does ∙ ap effect_of c.in-NewAt.is in
    item_made h m name come c.in_ok-change-in-NewAt.change c.routed_state.result (Some c.in-NewAt.place) c.in_ok-change-in-NewAt.ensures.change (subst MakesOne (sym is) tt)
    (ap (items_by_effect (made h) name come) is ∙ ap (λ s. (made h).items ++ fresh s come.story (Some c.in-NewAt.place) (Some (origin_of name come)) ∷ []) (sym c.routed_state.ensures))

pub returns-in_ok-change-in-Replaces-clause-change : goal.returns-in_ok-change-in-Replaces-clause-change
returns-in_ok-change-in-Replaces-clause-change c h m keeps does = c.in_ok-change-in-Replaces.ensures.change h m c.args.provider keeps (does ∙ ap effect_of c.in-Replaces.is)

pub returns-in-Cancels-clause-change : goal.returns-in-Cancels-clause-change
returns-in-Cancels-clause-change c h m keeps does = c.prepare_canceled.ensures.change h m c.args.provider c.args.come.now keeps (does ∙ ap effect_of c.in-Cancels.is)

-- The tables of rules behind an ingest, and what its effect tells.
use Rattle.std.proofs.Common.{◌≡◌, ℕ, Bool, true, false, Option, Some, None, ◌∷◌, refl, sym, ap}
use Rattle.news_types.specs.declared.entry.Act.TheVariants.{Ingest}
use Rattle.news_types.specs.declared.story.Incoming.{Incoming}
use Rattle.news_types.specs.declared.rules.Place.{Place}
use Rattle.news_types.specs.Names.{Bytes}
use Rattle.news_types.specs.History.{History}
use Rattle.news_types.specs.Items as items
use Rattle.news_types.specs.Items.{placed}
use Rattle.news_types.specs.Publications.{effect}
use Rattle.news_types.specs.Outcome.{entry_of}
use Rattle.news_types.proofs.Members.{none_some, some_is}
use Rattle.desk_rules.specs.Facts.{facts}
use Rattle.desk_rules.specs.Steps.{IsMaking}
use Rattle.desk_rules.proofs.Alike.{AreAlike, kept_alike, known_alike}
use Rattle.rule_tables.specs.declared.ingest.PlaceChange.{PlaceChange}
use Rattle.rule_tables.specs.declared.rules.Rules.{Rules}
use Rattle.rule_tables.specs.Keeps.{KeepsRules}
use Rattle.story_tables.specs.declared.ingest.Effect.{Effect}
use Rattle.story_tables.specs.declared.ingest.Effect.TheVariants.{New, NewAt, Replaces, Cancels, Settled}
use Rattle.story_tables.specs.Ingests.{effect_of, IsUnpublished}
use Rattle.newsroom.specs.Ingests.{published_at}
use Rattle.newsroom.specs.Changes.{IsForPlace}

-- a change that makes an item is that of the place of the effect
pub making_by : (c : PlaceChange) (h : History) (e : items.Effect) → IsForPlace (Some c) h e → (place : Option Place) × (published : Bool) × IsMaking c.desks place h × (e ≡ placed place published)
making_by c h items.New is = (None, false, is, refl)
making_by c h (items.NewAt place published) is = (Some place, published, is, refl)
making_by c h _ is = absurd is

module _ (r : Rules) (h : History) (m : ℕ) (name : Bytes) (come : Incoming) where
  abbrev behind : History
  behind = entry_of m (Ingest name come) ∷ h

  kept : AreAlike (facts h) (facts behind) → KeepsRules r h → KeepsRules r behind
  kept alike keeps = record { desks = kept_alike r.desks (facts h) (facts behind) alike keeps.desks; filters = keeps.filters; products = keeps.products; sources = keeps.sources; rolls = keeps.rolls }

  none_by : (e : items.Effect) → effect h name come m ≡ e → IsForPlace None h e → KeepsRules r h → KeepsRules r behind
  none_by (items.Replaces i) does is keeps = kept (known_alike h (entry_of m (Ingest name come)) name come refl (rw does tt)) keeps
  none_by (items.Cancels i) does is keeps = kept (known_alike h (entry_of m (Ingest name come)) name come refl (rw does tt)) keeps
  none_by (items.Settled i) does is keeps = kept (known_alike h (entry_of m (Ingest name come)) name come refl (rw does tt)) keeps
  none_by _ does is keeps = absurd is

  -- an ingest that makes no item leaves them
  pub none_made : IsForPlace None h (effect h name come m) → KeepsRules r h → KeepsRules r behind
  none_made is keeps = none_by (effect h name come m) refl is keeps

-- ---- what is published at once

pub publishes_at : (e : Effect) (place : Place) → published_at e ≡ Some place → effect_of e ≡ items.NewAt place true
publishes_at (NewAt at true) place is = ap (λ (p : Place). items.NewAt p true) (some_is at place is)
publishes_at (NewAt at false) place is = absurd (none_some place is)
publishes_at New place is = absurd (none_some place is)
publishes_at (Replaces i) place is = absurd (none_some place is)
publishes_at (Cancels i) place is = absurd (none_some place is)
publishes_at (Settled i) place is = absurd (none_some place is)

pub unpublished : (e : Effect) → published_at e ≡ None → IsUnpublished e
unpublished (NewAt at true) is = absurd (none_some at (sym is))
unpublished (NewAt at false) is = tt
unpublished New is = tt
unpublished (Replaces i) is = tt
unpublished (Cancels i) is = tt
unpublished (Settled i) is = tt

-- What an ingest does, told from the tables.
use Rattle.std.proofs.Common.{◌≡◌, ℕ, ◌==◌, Bool, true, false, cond, Option, Some, None, refl, sym, ap, ◌∙◌}
use Rattle.std.specs.Prelude.{is_some}
use Rattle.std.specs.Option.{option_map}
use Rattle.news_types.specs.declared.denial.Denial.{Denial}
use Rattle.news_types.specs.declared.story.Incoming.{Incoming}
use Rattle.news_types.specs.declared.rules.Place.{Place}
use Rattle.news_types.specs.Names.{Bytes}
use Rattle.news_types.specs.History.{History}
use Rattle.news_types.specs.Routing.{provider, routed_from}
use Rattle.news_types.specs.Due.{standing_first}
use Rattle.news_types.specs.Items.{Item, Effect, NewAt, known, at_moment, effect_on, effect_of_new}
use Rattle.news_types.specs.Publications.{item, made, standing, effect}
use Rattle.news_types.specs.Denial.{or_else, items_full, new_item_denial}
use Rattle.desk_rules.specs.Asked.{holder_in}
use Rattle.story_tables.specs.Ingests.{is_held}
use Rattle.newsroom.specs.Ingests.{placed_denial}

or_none : (o : Option Denial) → or_else o None ≡ o
or_none None = refl
or_none (Some d) = refl

pub held_told : (o : Option Item) → is_some (holder_in o) ≡ is_held o
held_told None = refl
held_told (Some it) = refl

pub placed_told : (h : History) (place : Place) (published : Bool) → placed_denial h published ≡ new_item_denial h (NewAt place published)
placed_told h place true = refl
placed_told h place false = or_none (items_full h)

module _ (h : History) (name : Bytes) (come : Incoming) (m : ℕ) (n : ℕ) (number : n ≡ known name come.identity ((made h).items)) where
  abbrev by_number : ℕ → Bool → Effect
  by_number k b = cond b (effect_of_new come.status (routed_from h (provider h name) come.story m)) (effect_on come.status come k (option_map (at_moment m (standing_first k (standing h))) (item h k)))

  pub effect_new : (given : Effect) → (n == 0) ≡ true → given ≡ effect_of_new come.status (routed_from h (provider h name) come.story m) → given ≡ effect h name come m
  effect_new given zero is = is ∙ sym (ap (by_number n) zero) ∙ ap (λ (k : ℕ). by_number k (k == 0)) number

  pub effect_known : (given : Effect) → (n == 0) ≡ false → given ≡ effect_on come.status come n (option_map (at_moment m (standing_first n (standing h))) (item h n)) → given ≡ effect h name come m
  effect_known given some is = is ∙ sym (ap (by_number n) some) ∙ ap (λ (k : ℕ). by_number k (k == 0)) number

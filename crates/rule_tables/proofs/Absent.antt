-- The first thing that rules name and that is not there.
use Rattle.std.proofs.Common.{◌≡◌, ℕ, List, [], ◌∷◌, ◌++◌, Some, None, length, get_or, drop, ◌+◌, ◌<◌, Option, refl, sym, ap, ◌∙◌}
use Rattle.std.specs.Prelude.{flat_map}
use Rattle.std.proofs.lemmas.List.{at_drop_more}
use Rattle.news_types.specs.declared.words.Thing.{Thing}
use Rattle.news_types.specs.declared.rules.Rule.{Rule}
use Rattle.news_types.specs.declared.denial.Denial.TheVariants.{UnknownThing}
use Rattle.news_types.specs.History.{History}
use Rattle.news_types.specs.Denial.{absent_in_rule, first_missing}
use Rattle.content_filters.specs.Asked.{first_thing}
use Rattle.content_filters.proofs.Absent.{first_front, first_back}

module _ (h : History) (rules : List Rule) (i : ℕ) (rule : Rule) where
  here : i < length rules → rule ≡ get_or rules i rule → first_missing (flat_map (absent_in_rule h) (drop i rules)) ≡ first_missing (absent_in_rule h rule ++ flat_map (absent_in_rule h) (drop (i + 1) rules))
  here lt is = at_drop_more (λ xs. first_missing (flat_map (absent_in_rule h) xs)) rules i rule lt ∙ rw (← is) refl

  pub step_over : i < length rules → rule ≡ get_or rules i rule → None ≡ first_thing (absent_in_rule h rule) → first_missing (flat_map (absent_in_rule h) (drop i rules)) ≡ first_missing (flat_map (absent_in_rule h) (drop (i + 1) rules))
  step_over lt is none = here lt is ∙ first_back (absent_in_rule h rule) (flat_map (absent_in_rule h) (drop (i + 1) rules)) none

  pub stop_at : (what : Thing) → i < length rules → rule ≡ get_or rules i rule → Some what ≡ first_thing (absent_in_rule h rule) → Some (UnknownThing what) ≡ first_missing (flat_map (absent_in_rule h) (drop i rules))
  stop_at what lt is some = first_front (absent_in_rule h rule) (flat_map (absent_in_rule h) (drop (i + 1) rules)) what some ∙ sym (here lt is)

pub front_none : (xs ys : List Thing) → first_thing xs ≡ None → first_thing (xs ++ ys) ≡ first_thing ys
front_none [] ys none = refl
front_none (x ∷ xs) ys none = cc

pub front_some : (xs ys : List Thing) (what : Thing) → first_thing xs ≡ Some what → first_thing (xs ++ ys) ≡ Some what
front_some [] ys what some = cc
front_some (x ∷ xs) ys what some = some

-- The first thing that is named and not there.
use Rattle.std.proofs.Common.{◌≡◌, ℕ, Bool, true, false, ◌&&◌, cond, List, [], ◌∷◌, ◌++◌, Some, None, length, get_or, drop, ◌+◌, ◌<◌, refl, sym, ap, ◌∙◌}
use Rattle.std.proofs.lemmas.List.{at_drop_more}
use Rattle.content_filters.specs.declared.table.Filters.{Filters}
use Rattle.std.specs.List.{list_all}
use Rattle.news_types.specs.declared.words.Thing.{Thing}
use Rattle.news_types.specs.declared.words.Thing.TheVariants as thing
use Rattle.news_types.specs.declared.rules.Statement.{Statement}
use Rattle.news_types.specs.declared.denial.Denial.TheVariants.{UnknownThing}
use Rattle.news_types.specs.Names.{Bytes}
use Rattle.news_types.specs.Denial.{absent, absent_of, first_missing}
use Rattle.content_filters.specs.Reasons.{absent_in, is_filter_or}
use Rattle.content_filters.specs.Asked.{first_thing, unknown_in, has_place}

pub first_absent : (is_there : Bytes → Bool) (what : Thing) (names : List Bytes) (rest : List Thing) → first_thing (absent_of is_there what names ++ rest) ≡ cond (list_all is_there names) (first_thing rest) (Some what)
first_absent is_there what [] rest = refl
first_absent is_there what (name ∷ names) rest =
    elim (is_there name) as (λ b. first_thing (absent b what ++ absent_of is_there what names ++ rest) ≡ cond (b && list_all is_there names) (first_thing rest) (Some what)) [
      | true ↦ first_absent is_there what names rest
      | false ↦ refl
    ]

first_absent_last : (is_there : Bytes → Bool) (what : Thing) (names : List Bytes) → first_thing (absent_of is_there what names) ≡ cond (list_all is_there names) None (Some what)
first_absent_last is_there what [] = refl
first_absent_last is_there what (name ∷ names) =
    elim (is_there name) as (λ b. first_thing (absent b what ++ absent_of is_there what names) ≡ cond (b && list_all is_there names) None (Some what)) [
      | true ↦ first_absent_last is_there what names
      | false ↦ refl
    ]

-- of one statement
pub first_in : (is_condition is_filter : Bytes → Bool) (st : Statement) →
    first_thing (absent_in is_condition is_filter st) ≡ cond (list_all is_condition st.conditions) (cond (list_all is_filter st.filters) None (Some thing.Filter)) (Some thing.Condition)
first_in is_condition is_filter st =
    first_absent is_condition thing.Condition st.conditions (absent_of is_filter thing.Filter st.filters)
    ∙ ap (λ o. cond (list_all is_condition st.conditions) o (Some thing.Condition)) (first_absent_last is_filter thing.Filter st.filters)

-- the first of two lists
pub first_front : (xs ys : List Thing) (what : Thing) → Some what ≡ first_thing xs → Some (UnknownThing what) ≡ first_missing (xs ++ ys)
first_front [] ys what is = cc
first_front (x ∷ xs) ys what is = cc

pub first_back : (xs ys : List Thing) → None ≡ first_thing xs → first_missing (xs ++ ys) ≡ first_missing ys
first_back [] ys is = refl
first_back (x ∷ xs) ys is = cc

-- ---- in a loop over statements

module _ (t : Filters) (filter : Bytes) (sts : List Statement) (i : ℕ) (st : Statement) where
  abbrev pub absent_here : List Thing
  absent_here = absent_in (has_place t.condition_places) (is_filter_or (has_place t.filter_places) filter) st

  here : i < length sts → st ≡ get_or sts i st → first_missing (unknown_in t filter (drop i sts)) ≡ first_missing (absent_here ++ unknown_in t filter (drop (i + 1) sts))
  here lt is = at_drop_more (λ xs. first_missing (unknown_in t filter xs)) sts i st lt ∙ rw (← is) refl

  pub step_over : i < length sts → st ≡ get_or sts i st → None ≡ first_thing absent_here → first_missing (unknown_in t filter (drop i sts)) ≡ first_missing (unknown_in t filter (drop (i + 1) sts))
  step_over lt is none = here lt is ∙ first_back absent_here (unknown_in t filter (drop (i + 1) sts)) none

  pub stop_at : (what : Thing) → i < length sts → st ≡ get_or sts i st → Some what ≡ first_thing absent_here → Some (UnknownThing what) ≡ first_missing (unknown_in t filter (drop i sts))
  stop_at what lt is some = first_front absent_here (unknown_in t filter (drop (i + 1) sts)) what some ∙ sym (here lt is)

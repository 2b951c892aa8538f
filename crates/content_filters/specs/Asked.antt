-- What is asked of the places of names.
use Rattle.std.specs.Prelude.{ℕ, Bool, false, not, nat_lt, is_some, List, [], ◌∷◌, Option, Some, None, vec_len}
use Rattle.std.specs.List.{list_all}
use Rattle.std.specs.HashMap.{HashMap, get}
use Rattle.news_types.specs.declared.words.Thing.{Thing}
use Rattle.news_types.specs.declared.words.Thing.TheVariants as thing
use Rattle.news_types.specs.declared.rules.Statement.{Statement}
use Rattle.news_types.specs.declared.denial.Denial.{Denial}
use Rattle.news_types.specs.declared.denial.Denial.TheVariants.{UnknownThing, NameTaken, FilterOrder, BadOperand, Limit}
use Rattle.news_types.specs.Names.{Bytes, same}
use Rattle.news_types.specs.Filters.{are_statements}
use Rattle.news_types.specs.Denial.{unless, first_of, first_missing}
use Rattle.content_filters.specs.declared.table.Filters.{Filters}
use Rattle.content_filters.specs.Reasons.{absent_by}

abbrev pub has_place : {S : Type 0} → HashMap Bytes ℕ S → Bytes → Bool
has_place places name = is_some (get same places name)

abbrev pub is_below : Option ℕ → ℕ → Bool
is_below None limit = false
is_below (Some place) limit = nat_lt place limit

-- each filter that is named was added before so many
abbrev pub names_below : {S : Type 0} → HashMap Bytes ℕ S → ℕ → List Statement → Bool
names_below places limit statements = list_all (λ (st : Statement). list_all (λ name. is_below (get same places name) limit) st.filters) statements

abbrev pub first_thing : List Thing → Option Thing
first_thing [] = None
first_thing (what ∷ things) = Some what

-- what the statements of a filter name and the table has not
abbrev pub unknown_in : Filters → Bytes → List Statement → List Thing
unknown_in t filter statements = absent_by (has_place t.condition_places) (has_place t.filter_places) filter statements

-- the first reason to deny a new filter
abbrev pub new_filter_denial : Filters → Bytes → List Statement → Option Denial
new_filter_denial t filter statements = first_of (
    first_missing (unknown_in t filter statements) ∷
    unless (not (has_place t.filter_places filter)) NameTaken ∷
    unless (names_below t.filter_places (vec_len t.filters) statements) FilterOrder ∷
    unless (are_statements statements) BadOperand ∷
    unless (nat_lt (vec_len t.filters) 1024) (Limit thing.Filter 1024) ∷ []
    )

-- the first reason to deny other statements to a filter at its place
abbrev pub statements_denial : Filters → Option ℕ → Bytes → List Statement → Option Denial
statements_denial t None filter statements = Some (UnknownThing thing.Filter)
statements_denial t (Some place) filter statements = first_of (
    first_missing (unknown_in t filter statements) ∷
    unless (names_below t.filter_places place statements) FilterOrder ∷
    unless (are_statements statements) BadOperand ∷ []
    )

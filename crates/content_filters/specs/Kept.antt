-- What the table keeps, as the facts have it.
use Rattle.std.specs.Prelude.{◌≡◌, ℕ, Bool, false, ◌&&◌, List, [], ◌∷◌, ◌++◌, length, Option, Some, None, option_and_then, slice_get, unwrap_or, find, if◌then◌else◌}
use Rattle.std.specs.List.{list_any}
use Rattle.std.specs.HashMap.{HashMap, get}
use Rattle.news_types.specs.Names.{Bytes, same, is_in, AreInOrder}
use Rattle.news_types.specs.Conditions.{Condition, is_true_if_there}
use Rattle.news_types.specs.Filters.{Filter, has_filter}
use Rattle.news_types.specs.declared.story.Story.{Story}
use Rattle.content_filters.specs.declared.condition.KeptCondition.{KeptCondition}
use Rattle.content_filters.specs.declared.table.KeptFilter.{KeptFilter}

-- the condition that is kept
abbrev pub condition_of : KeptCondition → Condition
condition_of kept = record { field = kept.field; op = kept.op; values = kept.values }

-- what is kept of a filter
abbrev pub kept_of : Filter → KeptFilter
kept_of f = record { name = f.name; statements = f.statements }

-- the filters (newest first) in the order of their adding
abbrev pub oldest_first : List Filter → List Filter
oldest_first [] = []
oldest_first (f ∷ fs) = oldest_first fs ++ f ∷ []

-- the filter of that name
abbrev pub filter_named : Bytes → List Filter → Option Filter
filter_named name fs = find (λ (f : Filter). same f.name name) fs

-- how many filters are older than the filter of that name
abbrev pub age : List Filter → Bytes → Option ℕ
age [] name = None
age (f ∷ fs) name = if same f.name name then Some (length fs) else age fs name

-- no two filters have one name
abbrev pub AreApart : List Filter → Type 0
AreApart [] = Unit {0}
AreApart (f ∷ fs) = (has_filter f.name fs ≡ false) × AreApart fs

-- what stands at the place of a name
abbrev pub at_name : {A S : Type 0} → HashMap Bytes ℕ S → List A → Bytes → Option A
at_name places xs name = option_and_then (λ place. slice_get xs place) (get same places name)

-- the verdict at the place of a name
abbrev pub verdict_at : {S : Type 0} → HashMap Bytes ℕ S → List Bool → Bytes → Bool
verdict_at places verdicts name = unwrap_or (at_name places verdicts name) false

-- the condition of that name is true of the story
abbrev pub truth : (Bytes → Option Condition) → Story → Bytes → Bool
truth condition story name = is_true_if_there (condition name) story

-- the filter of that name blocks every story that it matches
abbrev pub is_block : List Filter → Bytes → Bool
is_block fs name = list_any (λ (f : Filter). same f.name name && f.blocks) fs

-- the names of the global blocks, in byte order
pub record AreBlocks (fs : List Filter) (names : List Bytes) : Type 0 where
  pub each : (name : Bytes) → is_in name names ≡ is_block fs name
  pub order : AreInOrder names

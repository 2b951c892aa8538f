-- Which conditions and filters the table keeps, and what its verdicts are.
use Rattle.std.specs.Prelude.{◌≡◌, ℕ, ◌<◌, ◌≤◌, Bool, ◌&&◌, if◌then◌else◌, List, [], ◌∷◌, ◌++◌, map, length, Option, Some, None, option_map, vec_len}
use Rattle.std.specs.List.{list_any}
use Rattle.std.specs.HashMap.{get}
use Rattle.news_types.specs.Names.{Bytes, same, is_in}
use Rattle.news_types.specs.Conditions.{Condition}
use Rattle.news_types.specs.Filters.{Filter, holds, matches_by}
use Rattle.news_types.specs.declared.story.Story.{Story}
use Rattle.content_filters.specs.declared.table.KeptFilter.{KeptFilter}
use Rattle.content_filters.specs.declared.table.Filters.{Filters}
use Rattle.content_filters.specs.declared.verdicts.Verdicts.{Verdicts}
use Rattle.content_filters.specs.Kept.{condition_of, kept_of, oldest_first, age, AreApart, at_name, verdict_at, truth, AreBlocks}

-- the table keeps the condition of each name, so many conditions, and these filters (newest first), which are no more than may be added
pub record Keeps (t : Filters) (condition : Bytes → Option Condition) (count : ℕ) (fs : List Filter) : Type 0 where
  pub each : (name : Bytes) → option_map condition_of (at_name t.condition_places t.conditions.items name) ≡ condition name
  pub inside : (name : Bytes) (place : ℕ) → get same t.condition_places name ≡ Some place → place < vec_len t.conditions
  pub conditions : vec_len t.conditions ≡ count
  pub filters : t.filters.items ≡ map kept_of (oldest_first fs)
  pub ages : (name : Bytes) → get same t.filter_places name ≡ age fs name
  pub apart : AreApart fs
  pub few : length fs ≤ 1024
  pub blocking : AreBlocks fs t.blocks.items

-- the verdicts so far, and those on these filters, each by the verdicts before it
abbrev pub judged : Filters → List Bool → List Bool → List KeptFilter → List Bool
judged t conditions verdicts [] = verdicts
judged t conditions verdicts (f ∷ fs) =
    judged t conditions (verdicts ++ list_any (holds (verdict_at t.condition_places conditions) (verdict_at t.filter_places verdicts)) f.statements ∷ []) fs

-- whether each filter matches (newest first), in the order of age
abbrev pub matches_of : (Bytes → Bool) → List Filter → List Bool
matches_of true_of [] = []
matches_of true_of (f ∷ fs) = matches_of true_of fs ++ matches_by true_of (f ∷ fs) f.name ∷ []

-- by these verdicts on the filters the one of that name matches, and it is a global block
abbrev pub blocks_by : Filters → List Bool → Bytes → Bool
blocks_by t verdicts name = verdict_at t.filter_places verdicts name && is_in name t.blocks.items

-- the names of those filters that pass
abbrev pub names_of : (Bytes → Bool) → List KeptFilter → List Bytes
names_of passes [] = []
names_of passes (f ∷ fs) = if passes f.name then f.name ∷ names_of passes fs else names_of passes fs

-- the global blocks that match by these verdicts, the oldest first
abbrev pub matching_blocks : Filters → List Bool → List Bytes
matching_blocks t verdicts = names_of (blocks_by t verdicts) t.filters.items

abbrev pub else_that : Option Bytes → Option Bytes → Option Bytes
else_that (Some name) other = Some name
else_that None other = other

-- the last of the names that is not switched off
abbrev pub last_beside : List Bytes → List Bytes → Option Bytes
last_beside [] off = None
last_beside (name ∷ names) off = else_that (last_beside names off) (if is_in name off then None else Some name)

-- the verdicts are those of the table on the story: on each condition, on each filter in the order of age, and the blocks that match
pub record AreVerdicts (v : Verdicts) (t : Filters) (condition : Bytes → Option Condition) (fs : List Filter) (story : Story) : Type 0 where
  pub conditions : (name : Bytes) → verdict_at t.condition_places v.conditions.items name ≡ truth condition story name
  pub filters : v.filters.items ≡ matches_of (truth condition story) fs
  pub blocks : v.blocks.items ≡ matching_blocks t v.filters.items

-- What is asked of the table, by the list whose facts it keeps.
use Rattle.std.specs.Prelude.{◌≡◌, ℕ, Bool, true, false, not, ◌&&◌, List, [], ◌∷◌, Option, Some, None, if◌then◌else◌}
use Rattle.std.specs.List.{list_any}
use Rattle.news_types.specs.declared.command.Command.{Command}
use Rattle.news_types.specs.declared.command.Command.TheVariants.{AddProduct, SetProduct, AddSubscriber, SetSubscriber}
use Rattle.news_types.specs.declared.words.Kind.{Kind}
use Rattle.news_types.specs.declared.words.Kind.TheVariants.{Kill, Recall}
use Rattle.news_types.specs.declared.story.Story.{Story}
use Rattle.news_types.specs.declared.denial.Denial.{Denial}
use Rattle.news_types.specs.declared.denial.Denial.TheVariants.{NameTaken}
use Rattle.news_types.specs.Names.{Bytes, is_in, AreInOrder}
use Rattle.news_types.specs.History.{History}
use Rattle.news_types.specs.Conditions.{condition}
use Rattle.news_types.specs.Filters.{filters as filter_list}
use Rattle.news_types.specs.Products.{Subscriber, product, product_permits, is_blocked}
use Rattle.news_types.specs.Due.{Pub, had, had_by, due_names}
use Rattle.news_types.specs.Denial.{unless, first_of, missing, first_missing, is_taken, limit_denial}
use Rattle.content_filters.specs.declared.table.Filters.{Filters}
use Rattle.content_filters.specs.declared.verdicts.Verdicts.{Verdicts}
use Rattle.content_filters.specs.Keeps.{AreVerdicts}
use Rattle.content_filters.specs.Reasons.{KeepsFacts as KeepsFilters}
use Rattle.products.specs.declared.table.Products.{Products}
use Rattle.products.specs.Keeps.{KeepsFacts}

-- both tables keep the facts of the list
pub record Keep (t : Products) (filters : Filters) (h : History) : Type 0 where
  pub table : KeepsFacts t h
  pub rules : KeepsFilters filters h

-- the filters keep the facts of the list, and the verdicts are theirs on the story
pub record Judges (verdicts : Verdicts) (filters : Filters) (h : History) (story : Story) : Type 0 where
  pub rules : KeepsFilters filters h
  pub said : AreVerdicts verdicts filters (condition h) (filter_list h) story

-- these are the global blocks that match: one of them is not switched off exactly where the story is blocked
abbrev pub AreBlocking : List Bytes → History → Story → Type 0
AreBlocking names h story = (off : List Bytes) → list_any (λ name. not (is_in name off)) names ≡ is_blocked h story off

-- the story is permitted to the subscriber, apart from its targets
abbrev pub permits_to : History → Story → Subscriber → Bool
permits_to h story it = it.active && (not (is_blocked h story it.off) && list_any (λ name. product_permits h story (product h name)) it.products)

abbrev pub is_there_if_given : (Bytes → Bool) → Option Bytes → Bool
is_there_if_given is_there None = true
is_there_if_given is_there (Some name) = is_there name

-- the command adds or sets a product or a subscriber
abbrev pub is_asked : Command → Bool
is_asked (AddProduct product how filter) = true
is_asked (SetProduct product how filter) = true
is_asked (AddSubscriber subscriber format products lag) = true
is_asked (SetSubscriber subscriber active products off lag) = true
is_asked _ = false

-- the first reason to deny such a command: something that it names is not there, its name is taken, there are too many
abbrev pub judge_denial : History → Command → Option Denial
judge_denial h command =
    if is_asked command
    then first_of (first_missing (missing h command) ∷ unless (not (is_taken h command)) NameTaken ∷ limit_denial h command ∷ [])
    else None

-- whom a publication of this kind and release reaches, whatever is permitted: a correction those to whom one of these of the item
-- is due, a kill or a recall those to whom one is released by then
abbrev pub is_reached : List Pub → Kind → ℕ → ℕ → Bytes → Bool
is_reached ps Kill i release s = had_by release ps i s
is_reached ps Recall i release s = had_by release ps i s
is_reached ps kind i release s = had ps i s

-- the names of these
abbrev pub AreEarlier : List Bytes → List Pub → Kind → ℕ → ℕ → Type 0
AreEarlier earlier ps kind i release = (s : Bytes) → is_in s earlier ≡ is_reached ps kind i release s

-- the names to whom a publication is due, in byte order
pub record AreDue (names : List Bytes) (h : History) (ps : List Pub) (kind : Kind) (i : ℕ) (story : Story) (release : ℕ) (targets : List Bytes) : Type 0 where
  pub each : (s : Bytes) → is_in s names ≡ is_in s (due_names h ps kind i story release targets)
  pub order : AreInOrder names

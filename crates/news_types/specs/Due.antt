-- Publications, to whom they are due, and when they are released to whom.
use Rattle.std.specs.Prelude.{ℕ, ◌+◌, min, max, Bool, true, false, not, ◌&&◌, ◌||◌, ◌==◌, nat_le, List, [], ◌∷◌, map, if◌then◌else◌, Option, Some, None, is_some, unwrap_or}
use Rattle.std.specs.List.{list_any, filter, find}
use Rattle.news_types.specs.declared.words.Kind.{Kind}
use Rattle.news_types.specs.declared.words.Kind.TheVariants.{First, Correct, Kill, Recall}
use Rattle.news_types.specs.declared.story.Story.{Story}
use Rattle.news_types.specs.declared.query.Publication.{Publication}
use Rattle.news_types.specs.declared.query.Due.{Due}
use Rattle.news_types.specs.Names.{Bytes, same}
use Rattle.news_types.specs.History.{History}
use Rattle.news_types.specs.Products.{permitted, lag, subscribers}

-- a publication, with those to whom it is due and its release for each of them. These are fixed when it is made; among the
-- publications that stand it has only those for whom it still stands
pub record Pub : Type 0 where
  pub number : ℕ
  pub item : ℕ
  pub version : ℕ
  pub kind : Kind
  pub story : Story
  pub release : ℕ
  pub targets : List Bytes
  pub due : List Due

-- as it is shown
abbrev pub shown : Pub → Publication
shown p = record { number = p.number; item = p.item; version = p.version; kind = p.kind; story = p.story; release = p.release }

abbrev pub is_first : Kind → Bool
is_first First = true
is_first _ = false

abbrev pub takes_back : Kind → Bool
takes_back Kill = true
takes_back Recall = true
takes_back _ = false

abbrev pub is_first_of : ℕ → Pub → Bool
is_first_of i p = is_first p.kind && p.item == i

-- the first publication of the item among those that stand, newest first
abbrev pub standing_first : ℕ → List Pub → Option Pub
standing_first i ps = find (is_first_of i) ps

abbrev pub release_of : Option Pub → ℕ
release_of None = 0
release_of (Some p) = p.release

abbrev pub targets_of : Option Pub → List Bytes
targets_of None = []
targets_of (Some p) = p.targets

abbrev pub is_released : ℕ → Option Pub → Bool
is_released m None = false
is_released m (Some p) = nat_le p.release m

-- ---- for a subscriber

-- the release for the subscriber, if it is among those to whom something is due
abbrev pub release_to : Bytes → List Due → Option ℕ
release_to s [] = None
release_to s (d ∷ due) = if same s d.subscriber then Some d.release else release_to s due

abbrev pub is_due : Bytes → Pub → Bool
is_due s p = is_some (release_to s p.due)

abbrev pub is_by : ℕ → Option ℕ → Bool
is_by m None = false
is_by m (Some time) = nat_le time m

-- one of these of the item is due to the subscriber
abbrev pub had : List Pub → ℕ → Bytes → Bool
had ps i s = list_any (λ p. p.item == i && is_due s p) ps

-- and released to it by the moment
abbrev pub had_by : ℕ → List Pub → ℕ → Bytes → Bool
had_by m ps i s = list_any (λ p. p.item == i && is_by m (release_to s p.due)) ps

-- the latest release for the subscriber of these of the item, or 0
abbrev pub latest : List Pub → ℕ → Bytes → ℕ
latest [] i s = 0
latest (p ∷ ps) i s = if p.item == i then max (unwrap_or (release_to s p.due) 0) (latest ps i s) else latest ps i s

-- ---- what goes

-- without the first publication of the item
abbrev pub withdrawn : ℕ → List Pub → List Pub
withdrawn i ps = filter (λ p. not (is_first_of i p)) ps

-- of those to whom something is due the ones to whom it is released by the moment
abbrev pub given_by : ℕ → List Due → List Due
given_by m due = filter (λ (d : Due). nat_le d.release m) due

-- a publication of the item stands for those alone to whom it is released by the moment
abbrev pub left_behind : ℕ → ℕ → Pub → Pub
left_behind m i p = record p { due = if p.item == i then given_by m p.due else p.due }

-- the publications behind a kill or a recall of the item at the moment
abbrev pub taken_back : ℕ → ℕ → List Pub → List Pub
taken_back m i ps = map (left_behind m i) ps

-- ---- to whom a publication is due, and when it is released to whom

-- a release with a lag, up to the last second of the year 9999, and no earlier than itself and the other moment
abbrev pub lagged : ℕ → ℕ → ℕ → ℕ
lagged release lag earlier = max release (max earlier (min (release + lag) 253402300799))

-- a publication behind the list, where these stand, is due to a subscriber
abbrev pub is_due_by : History → List Pub → Kind → ℕ → Story → ℕ → List Bytes → Bytes → Bool
is_due_by h ps First i story release targets s = permitted h story targets s
is_due_by h ps Correct i story release targets s = permitted h story targets s || had ps i s
is_due_by h ps Kill i story release targets s = had_by release ps i s
is_due_by h ps Recall i story release targets s = had_by release ps i s

-- its release for the subscriber: later by the lag, and a correction comes no earlier than what it corrects
abbrev pub release_for : History → List Pub → Kind → ℕ → ℕ → Bytes → ℕ
release_for h ps First i release s = lagged release (lag h s) 0
release_for h ps Correct i release s = lagged release (lag h s) (latest ps i s)
release_for h ps Kill i release s = release
release_for h ps Recall i release s = release

-- the subscribers to whom it is due
abbrev pub due_names : History → List Pub → Kind → ℕ → Story → ℕ → List Bytes → List Bytes
due_names h ps kind i story release targets = filter (is_due_by h ps kind i story release targets) (subscribers h)

abbrev pub due_at : History → List Pub → Kind → ℕ → ℕ → Bytes → Due
due_at h ps kind i release s = record { subscriber = s; release = release_for h ps kind i release s }

-- each with its release
abbrev pub due_list : History → List Pub → Kind → ℕ → Story → ℕ → List Bytes → List Due
due_list h ps kind i story release targets = map (due_at h ps kind i release) (due_names h ps kind i story release targets)

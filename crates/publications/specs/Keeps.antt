-- Which publications the table keeps.
use Rattle.std.specs.Prelude.{◌≡◌, ℕ, ◌-◌, ◌==◌, ◌&&◌, Bool, List, [], ◌∷◌, ◌++◌, map, Option, Some, None, option_map, unwrap_or, nat_eq, nat_le, slice_get, if◌then◌else◌}
use Rattle.std.specs.List.{list_any}
use Rattle.std.specs.HashMap.{get}
use Rattle.news_types.specs.declared.query.Due.{Due}
use Rattle.news_types.specs.Names.{Bytes, same, is_in}
use Rattle.news_types.specs.History.{History}
use Rattle.news_types.specs.Due.{Pub, standing_first, release_to, had, had_by, latest}
use Rattle.news_types.specs.Publications.{pubs, standing}
use Rattle.publications.specs.declared.table.Published.{Published}
use Rattle.publications.specs.declared.table.OfItem.{OfItem}
use Rattle.publications.specs.declared.table.FirstFacts.{FirstFacts}
use Rattle.publications.specs.declared.table.Publications.{Publications}
use Rattle.publications.specs.Numbers.{listed, numbers_of}

-- what is kept of a publication
abbrev pub shown : Pub → Published
shown p = record { item = p.item; version = p.version; kind = p.kind; release = p.release; story = p.story }

-- those of publications (newest first), in the order of their numbers
abbrev pub oldest_first : List Pub → List Pub
oldest_first [] = []
oldest_first (p ∷ ps) = oldest_first ps ++ p ∷ []

abbrev pub shown_all : List Pub → List Published
shown_all [] = []
shown_all (p ∷ ps) = shown_all ps ++ shown p ∷ []

-- the publication of that number, of publications (newest first)
abbrev pub pub_at : List Pub → ℕ → Option Pub
pub_at ps n = if n == 0 then None else slice_get (oldest_first ps) (n - 1)

abbrev pub row_at : List Published → ℕ → Option Published
row_at rows n = if n == 0 then None else slice_get rows (n - 1)

-- what is kept of an item's first publication
pub record First : Type 0 where
  pub number : ℕ
  pub release : ℕ
  pub targets : List Bytes

abbrev pub first_of : OfItem → First
first_of of = record { number = of.number; release = of.release; targets = of.targets }

abbrev pub shown_first : Pub → First
shown_first p = record { number = p.number; release = p.release; targets = p.targets }

abbrev pub facts_of : Pub → FirstFacts
facts_of p = record { number = p.number; release = p.release }

abbrev pub soonest_of : Option OfItem → List Due
soonest_of None = []
soonest_of (Some of) = of.soonest.items

abbrev pub newest_of : Option OfItem → List Due
newest_of None = []
newest_of (Some of) = of.newest.items

abbrev pub subscriber_in : Due → Bytes
subscriber_in d = d.subscriber

abbrev pub subscribers_in : List Due → List Bytes
subscribers_in due = map subscriber_in due

-- one of these is the subscriber's, and its release has come by the moment
abbrev pub is_given : ℕ → Bytes → List Due → Bool
is_given m s due = list_any (λ (d : Due). same s d.subscriber && nat_le d.release m) due

-- the first release of the standing publications of an item for each subscriber, and those of its newest, which are the latest
pub record Tells (soonest newest : List Due) (st : List Pub) (i : ℕ) : Type 0 where
  pub had_one : (s : Bytes) → is_in s (subscribers_in soonest) ≡ had st i s
  pub given : (m : ℕ) (s : Bytes) → is_given m s soonest ≡ had_by m st i s
  pub last : (s : Bytes) → unwrap_or (release_to s newest) 0 ≡ latest st i s

-- the table keeps these publications (newest first), of which those stand
pub record Keeps (t : Publications) (ps st : List Pub) : Type 0 where
  pub rows : t.rows.items ≡ shown_all ps
  pub firsts : (i : ℕ) → option_map first_of (get nat_eq t.firsts i) ≡ option_map shown_first (standing_first i st)
  pub numbers : (i : ℕ) → listed (get nat_eq t.numbers i) ≡ numbers_of i ps
  pub dues : (i : ℕ) → Tells (soonest_of (get nat_eq t.firsts i)) (newest_of (get nat_eq t.firsts i)) st i

-- those of the list
abbrev pub KeepsFacts : Publications → History → Type 0
KeepsFacts t h = Keeps t (pubs h) (standing h)

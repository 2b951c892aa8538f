-- What the table of dues says of a list of entries.
use Rattle.std.specs.Prelude.{◌≡◌, ◌≤◌, ℕ, ◌==◌, Bool, false, List, [], ◌∷◌, length, Option, Some, None, is_some, if◌then◌else◌}
use Rattle.std.specs.Option.{option_map}
use Rattle.std.specs.HashMap.{HashMap, get, hash_map_len}
use Rattle.news_types.specs.Names.{Bytes, same}
use Rattle.news_types.specs.History.{History}
use Rattle.news_types.specs.Products.{subscribers}
use Rattle.news_types.specs.Due.{Pub}
use Rattle.news_types.specs.Publications.{pubs, standing}
use Rattle.feed_reasons.specs.Courses.{numbered, due_of}
use Rattle.desk_records.specs.declared.dues.Dues.{Dues}
use Rattle.desk_records.specs.declared.dues.DueFact.{DueFact}
use Rattle.desk_records.specs.Slots.{Told, told_at, made_at, left_at, is_standing, width}

-- ---- what is told

abbrev pub is_release : ℕ → Option ℕ → Bool
is_release release None = false
is_release release (Some time) = time == release

abbrev pub fact_of : Option ℕ → ℕ → DueFact
fact_of standing release = record { release = release; stands = is_release release standing }

-- the release with which publication n was made due to the subscriber, and whether it stands for it with that release
abbrev pub due_fact : History → ℕ → Bytes → Option DueFact
due_fact h n s = option_map (fact_of (due_of s (numbered n (standing h)))) (due_of s (numbered n (pubs h)))

-- ---- what is kept

-- the place of a name in the order of being added, from 0, of names of which the one that was added last stands first
abbrev pub place_of : Bytes → List Bytes → Option ℕ
place_of s [] = None
place_of s (name ∷ names) = if same name s then Some (length names) else place_of s names

-- the map has the places of these names
pub record IsPlaces {S : Type 0} (places : HashMap Bytes ℕ S) (names : List Bytes) : Type 0 where
  pub found : (s : Bytes) → get same places s ≡ place_of s names
  pub count : hash_map_len places ≡ length names

-- what is told by number is that of these publications, of which those stand, for these subscribers
pub record Tells (at : ℕ → Option Told) (names : List Bytes) (ps st : List Pub) : Type 0 where
  pub made : (n : ℕ) (s : Bytes) → made_at (at n) (place_of s names) ≡ due_of s (numbered n ps)
  pub left : (n : ℕ) (s : Bytes) → left_at (at n) (place_of s names) ≡ due_of s (numbered n st)
  pub stands : (n : ℕ) → is_standing (at n) ≡ is_some (numbered n st)
  pub width : (n : ℕ) → width (at n) ≤ length names

-- the table is that of the list
pub record KeepsDues (t : Dues) (h : History) : Type 0 where
  pub places : IsPlaces t.places (subscribers h)
  pub count : length t.rows.items ≡ length (pubs h)
  pub rows : Tells (told_at t.rows.items) (subscribers h) (pubs h) (standing h)

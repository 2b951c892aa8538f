-- Stages with the numbers of their places.
use Rattle.std.specs.Prelude.{◌≡◌, ℕ, ◌+◌, ◌≤◌, [], Some, None, slice_get, vec_len, vec_capacity}
use Rattle.std.specs.HashMap.{get, spare}
use Rattle.news_types.specs.declared.rules.Place.{Place}
use Rattle.desk_rules.specs.declared.on_desk.OnDesk.{OnDesk}
use Rattle.desk_rules.specs.declared.places.Places.{Places}
use Rattle.desk_rules.specs.Keys.{same_on, place_of}

-- the stage, as a name on its desk
abbrev pub key_of : Place → OnDesk
key_of place = record { desk = place.desk; name = place.stage }

-- at each number stands the place that has it
abbrev pub ArePlaced : Places → Type 0
ArePlaced p = (key : OnDesk) (n : ℕ) → get same_on p.numbers key ≡ Some n → slice_get p.list.items n ≡ Some (place_of key)

-- no place is there
pub record IsEmpty (p : Places) : Type 0 where
  pub list : p.list.items ≡ []
  pub numbers : (key : OnDesk) → get same_on p.numbers key ≡ None

-- so many more fit, and have numbers
pub record HasRoomFor (more : ℕ) (p : Places) : Type 0 where
  pub list : vec_len p.list + more ≤ vec_capacity p.list
  pub numbers : more ≤ spare p.numbers
  pub few : vec_len p.list + more ≤ 4294967296

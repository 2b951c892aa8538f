-- Which facts the table keeps.
use Rattle.std.specs.Prelude.{◌≡◌, false, Some, None, is_some, unwrap_or, if◌then◌else◌}
use Rattle.std.specs.HashMap.{get, hash_map_len}
use Rattle.news_types.specs.Names.{Bytes, same}
use Rattle.news_types.specs.History.{History}
use Rattle.desk_rules.specs.declared.table.Desks.{Desks}
use Rattle.desk_rules.specs.Keys.{same_on, on_desk}
use Rattle.desk_rules.specs.Spots.{AreSeats}
use Rattle.desk_rules.specs.Places.{ArePlaced}
use Rattle.desk_rules.specs.Facts.{Facts, has_stage, facts}

-- a desk that is not there has no stage but those that it would have from its start
pub record IsEmptyDesk (f : Facts) (desk : Bytes) : Type 0 where
  pub none_added : (stage : Bytes) → f.is_added desk stage ≡ false
  pub two : f.stages desk ≡ 2

-- the table keeps these facts
pub record Keeps (t : Desks) (f : Facts) : Type 0 where
  pub users : (name : Bytes) → get same t.users name ≡ f.privileges name
  pub user_count : hash_map_len t.users ≡ f.users
  pub desks : (name : Bytes) → get same t.desks name ≡ (if f.is_desk name then Some (f.stages name) else None)
  pub desk_count : hash_map_len t.desks ≡ f.desks
  pub stages : (desk stage : Bytes) → is_some (get same_on t.places.numbers (on_desk desk stage)) ≡ has_stage f desk stage
  pub placed : ArePlaced t.places
  pub members : (desk user : Bytes) → unwrap_or (get same_on t.members (on_desk desk user)) false ≡ f.is_member desk user
  pub seats : AreSeats t.places.list.items t.seats.items f.spots
  pub others : (desk : Bytes) → f.is_desk desk ≡ false → IsEmptyDesk f desk

-- the table keeps the facts of the list
abbrev pub KeepsFacts : Desks → History → Type 0
KeepsFacts t h = Keeps t (facts h)

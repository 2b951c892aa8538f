use Rattle.std.proofs.Common.{◌≡◌, List, length, drop}
use Rattle.std.specs.HashMap.{hash_map_len}
use Rattle.news_types.specs.Names.{Bytes}
use Rattle.desk_records.specs.Dues.{IsPlaces}
use Rattle.desk_records.proofs.Places.{Filling}
use Rattle.desk_records.proofs.fill.slots_for.Given as goal

-- with what is left all are filled
abbrev pub invariant-loop-one : goal.invariant-loop-one
invariant-loop-one l = record {
  len : length l.slots.items ≡ hash_map_len l.places;
  filling : (names : List Bytes) → IsPlaces l.places names → Filling l.slots.items (drop l.one-index l.due) l.due names;
}

-- What the table of wires says of a list of entries.
use Rattle.std.specs.Prelude.{◌≡◌, ◌<◌, ◌==◌, ℕ, Some, nat_eq, if◌then◌else◌}
use Rattle.std.specs.HashMap.{get, spare}
use Rattle.news_types.specs.History.{History}
use Rattle.desk_views.specs.Wires.{last_wire}
use Rattle.desk_records.specs.declared.wires.Wires.{Wires}
use Rattle.desk_records.specs.declared.wires.WireStep.{WireStep}
use Rattle.desk_records.specs.declared.wires.WireStep.TheVariants.{Set, Keep}
use Rattle.desk_records.specs.declared.wires.WireChange.{WireChange}

-- the table is that of the list
pub record KeepsWires (t : Wires) (h : History) : Type 0 where
  pub wires : (i : ℕ) → get nat_eq t.wires i ≡ last_wire h i

-- the lists behind a step
abbrev pub Leads : WireStep → History → History → Type 0
Leads (Set item wire) h g = (j : ℕ) → last_wire g j ≡ (if item == j then Some wire else last_wire h j)
Leads Keep h g = (j : ℕ) → last_wire g j ≡ last_wire h j

-- the change leads from this list to that
pub record IsForWires (change : WireChange) (h g : History) : Type 0 where
  pub leads : Leads change.step h g

-- the table has the memory for the step
abbrev pub HasRoomFor : Wires → WireStep → Type 0
HasRoomFor t (Set item wire) = 0 < spare t.wires
HasRoomFor t Keep = Unit {0}

-- the table has the memory for the change
pub record HasWireRoom (t : Wires) (change : WireChange) : Type 0 where
  pub room : HasRoomFor t change.step

-- What the command `pack` does to a log and its side, and what it tells.
use Rattle.std.specs.Prelude.{◌≡◌, ℕ, List, ◌++◌, drop, codes, decimal, None}
use Rattle.news_types.specs.Names.{Bytes}
use Rattle.news_io.specs.Disk.{DiskMeaning}
use Rattle.news_pair.specs.declared.pair.Pair.{Pair}
use Rattle.news_pair.specs.declared.pack_fault.PackFault.{PackFault}
use Rattle.news_pair.specs.Filling.{Filled, IsFullExactly, first_gate}
use Rattle.news_pair.specs.Packed.{IsPacked}
use Rattle.news_pair.specs.PackFaults.{IsDamage}
use Rattle.news_pair.specs.Packing.{pack_damage}
use Rattle.news_pair.specs.Stands.{log_disk, side_disk, Pairs}
use Rattle.news_pair.specs.Steps.{Stays}

-- how many entries a list has that was packed, as a line
abbrev pub packed_line : ℕ → List ℕ
packed_line count = codes "{\"answer\":\"packed\",\"entries\":" ++ decimal count ++ codes "}\n"

-- of a pair of this store that holds this list
module _ {D : Type 0} (disk : DiskMeaning D) (store : Bytes) (h : List Bytes) (old : Pair D) where
  -- the side has taken the whole list, and the log has no record of it; at each moment both opened to it
  pub record Packs (new : Pair D) : Type 0 where
    pub list : Pairs disk new h
    pub emptied : IsPacked disk new h
    pub crash : Stays disk store h (log_disk old) (side_disk old) (log_disk new) (side_disk new)
    pub whole : pack_damage (disk.seen (log_disk old)) ≡ None
    pub fits : Filled (first_gate old.end) old.packed (drop old.packed h) None

  -- a fault has ended it at this log and this side; at each moment both opened to the list
  pub record PacksNot (log side : D) (why : PackFault) : Type 0 where
    pub crash : Stays disk store h (log_disk old) (side_disk old) log side
    pub whole : IsDamage why → ⊥
    pub full : IsFullExactly (first_gate old.end) old.packed (drop old.packed h) why

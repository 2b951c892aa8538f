-- Faults of packing.
use Rattle.std.specs.Prelude.{◌≡◌, ℕ, ◌≤◌}
use Rattle.news_io.specs.Faults.{Rose}
use Rattle.news_pair.specs.declared.fault.PairFault.{PairFault}
use Rattle.news_pair.specs.declared.fault.PairFault.TheVariants as pair
use Rattle.news_pair.specs.declared.pack_fault.PackFault.{PackFault}
use Rattle.news_pair.specs.declared.pack_fault.PackFault.TheVariants.{DiskFault, Full, Damaged, Memory}

-- a fault that reading the log met
abbrev pub met_in_reading : PairFault → PackFault
met_in_reading pair.DiskFault = DiskFault
met_in_reading (pair.Damaged at found) = Damaged at found
met_in_reading (pair.DamagedSide at found) = Damaged at found
met_in_reading pair.Memory = Memory

abbrev pub IsDiskFault : PackFault → Type 0
IsDiskFault DiskFault = Unit {0}
IsDiskFault e = ⊥

abbrev pub IsFull : PackFault → Type 0
IsFull (Full size count) = Unit {0}
IsFull e = ⊥

abbrev pub IsDamage : PackFault → Type 0
IsDamage (Damaged at found) = Unit {0}
IsDamage e = ⊥

-- A fault of the disks is answered only where a count rose, and without one the counts are as they were.
pub record FaultCounts (before now : ℕ) (e : PackFault) : Type 0 where
  pub later : before ≤ now
  pub fault : IsDiskFault e → Rose before now
  pub calm : (IsDiskFault e → ⊥) → now ≡ before

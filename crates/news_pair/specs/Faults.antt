-- Faults of a pair.
use Rattle.std.specs.Prelude.{◌≡◌, ℕ, ◌≤◌}
use Rattle.news_io.specs.Faults.{Rose}
use Rattle.news_journal.specs.declared.log.OpenFault.{OpenFault}
use Rattle.news_journal.specs.declared.log.OpenFault.TheVariants as log
use Rattle.news_pair.specs.declared.fault.PairFault.{PairFault}
use Rattle.news_pair.specs.declared.fault.PairFault.TheVariants.{DiskFault, Damaged, DamagedSide, Memory}

-- a fault of the log
abbrev pub fault_of : OpenFault → PairFault
fault_of log.DiskFault = DiskFault
fault_of (log.Damaged at found) = Damaged at found
fault_of log.Memory = Memory

-- a fault of the side
abbrev pub side_fault_of : OpenFault → PairFault
side_fault_of log.DiskFault = DiskFault
side_fault_of (log.Damaged at found) = DamagedSide at found
side_fault_of log.Memory = Memory

abbrev pub IsDiskFault : PairFault → Type 0
IsDiskFault DiskFault = Unit {0}
IsDiskFault e = ⊥

-- A fault of the disks is answered only where a count rose, and without one the counts are as they were.
pub record FaultCounts (before now : ℕ) (e : PairFault) : Type 0 where
  pub later : before ≤ now
  pub fault : IsDiskFault e → Rose before now
  pub calm : (IsDiskFault e → ⊥) → now ≡ before

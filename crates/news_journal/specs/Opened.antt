-- What the parts of a log are read as.
use Rattle.std.specs.Prelude.{◌≡◌, ◌≢◌, ℕ, suc, ◌+◌, ◌-◌, ◌≤◌, ◌<◌, ◌^◌, List, ◌∷◌, ◌++◌, length, take, drop, Option, Some, None, Result, Ok, Err, Vec, map, All, IsTrue, replicate, false}
use Rattle.std.specs.Int.{w32, to_be_bytes}
use Rattle.std.specs.declared.alloc.Global.{Global}
use Rattle.news_io.specs.Faults.{Rose}
use Rattle.news_io.specs.declared.record.Record.{Record}
use Rattle.news_types.specs.Names.{Bytes, is_name}
use Rattle.news_journal.specs.Log.{Holding, Broken, IsHead, reading, records, AllFit}
use Rattle.news_journal.specs.Damage.{header_damage, damage}
use Rattle.news_journal.specs.declared.header.Header.{Header}
use Rattle.news_journal.specs.declared.log.OpenFault.{OpenFault}
use Rattle.news_journal.specs.declared.log.OpenFault.TheVariants.{DiskFault, Damaged}
use Rattle.news_io.specs.Disk.{DiskMeaning, DiskGains}

-- a disk that was read: nothing has changed, and a crash leaves nothing new
pub record Still {D : Type 0} (disk : DiskMeaning D) (old new : D) : Type 0 where
  pub told : disk.tells old → disk.tells new
  pub seen_same : disk.seen new ≡ disk.seen old
  pub crash : (c : List ℕ) → disk.may_leave new c → disk.may_leave old c
  pub time : DiskGains disk old new (disk.may_leave old)

abbrev pub IsDiskFault : OpenFault → Type 0
IsDiskFault DiskFault = Unit {0}
IsDiskFault e = ⊥

-- A fault of the disk is answered only where its count rose, and without one the count is as it was.
pub record FaultCounts (before now : ℕ) (e : OpenFault) : Type 0 where
  pub later : before ≤ now
  pub fault : IsDiskFault e → Rose before now
  pub calm : (IsDiskFault e → ⊥) → now ≡ before

-- Where damage is answered, it is this, with its place and its byte.
abbrev pub IsDamage : Option (ℕ × Option ℕ) → OpenFault → Type 0
IsDamage found (Damaged at byte) = found ≡ Some (at, byte)
IsDamage found e = Unit {0}

-- 32 bytes that are a name, filled with zeros
pub record IsFilled (bytes : List ℕ) : Type 0 where
  pub name : Bytes
  pub form : IsTrue (is_name name)
  pub is : bytes ≡ name ++ replicate (32 - length name) 0

-- of the first 64 bytes
abbrev pub HeaderAs : List ℕ → Result (List ℕ × Header) OpenFault → Type 0
HeaderAs bytes (Ok found) = (header_damage bytes ≡ None) × (found.0 ≡ bytes) × IsHead found.1 bytes
HeaderAs bytes (Err (Damaged at byte)) = header_damage bytes ≡ Some (at, byte)
HeaderAs bytes (Err e) = ⊥

-- the header in these bytes, or none where they are not of the form
abbrev pub IsHeaderOf : List ℕ → Option Header → Type 0
IsHeaderOf bytes (Some header) = (header_damage bytes ≡ None) × IsHead header bytes
IsHeaderOf bytes None = (found : ℕ × Option ℕ) × (header_damage bytes ≡ Some found)

-- of the first five bytes from a gate on
abbrev pub LooksAs : ℕ → List ℕ → Result (Option ℕ) OpenFault → Type 0
LooksAs at head (Ok None) = (g : ℕ) × (rest : List ℕ) × (g ≢ 1) × (head ≡ g ∷ rest)
LooksAs at head (Ok (Some n)) = (head ≡ 1 ∷ to_be_bytes w32 n) × (n ≤ 4194304) × (at + 5 + n < 2 ^ 30)
LooksAs at head (Err (Damaged place found)) = (bytes : List ℕ) → take 5 bytes ≡ head → (n : ℕ) → reading (suc n) at bytes ≡ Broken place found
LooksAs at head (Err e) = ⊥

-- of all bytes from a gate on
abbrev pub HeadAs : ℕ → List ℕ → Result (Option ℕ) OpenFault → Type 0
HeadAs at bytes (Ok None) = (g : ℕ) × (rest : List ℕ) × (g ≢ 1) × (bytes ≡ g ∷ rest)
HeadAs at bytes (Ok (Some n)) = (bytes ≡ 1 ∷ to_be_bytes w32 n ++ drop 5 bytes) × (n ≤ 4194304) × (at + 5 + n < 2 ^ 30)
HeadAs at bytes (Err (Damaged place found)) = (n : ℕ) → reading (suc n) at bytes ≡ Broken place found
HeadAs at bytes (Err e) = Unit {0}

-- a payload with at least one byte behind it, or less
abbrev pub PayloadAs : ℕ → List ℕ → Result (Option Bytes) OpenFault → Type 0
PayloadAs count bytes (Ok None) = length bytes ≤ count
PayloadAs count bytes (Ok (Some payload)) = (length payload ≡ count) × (payload ≡ take count bytes) × (count < length bytes)
PayloadAs count bytes (Err (Damaged place found)) = ⊥
PayloadAs count bytes (Err e) = Unit {0}

-- a record with at least one byte behind it, or a closed gate
abbrev pub ReadsAs : ℕ → List ℕ → Result (Option Bytes) OpenFault → Type 0
ReadsAs at bytes (Ok None) = (g : ℕ) × (rest : List ℕ) × (g ≢ 1) × (bytes ≡ g ∷ rest)
ReadsAs at bytes (Ok (Some payload)) =
    (rest : List ℕ) × (bytes ≡ 1 ∷ to_be_bytes w32 (length payload) ++ (payload ++ rest)) × (0 < length rest) × (length payload ≤ 4194304) × (at + 5 + length payload < 2 ^ 30)
ReadsAs at bytes (Err (Damaged place found)) = (n : ℕ) → reading (suc n) at bytes ≡ Broken place found
ReadsAs at bytes (Err e) = Unit {0}

abbrev pub payloads : List Record → List Bytes
payloads rs = map (λ (r : Record). r.bytes) rs

-- with the places of their gates
abbrev pub places : List Record → List (ℕ × Bytes)
places rs = map (λ (r : Record). (r.at, r.bytes)) rs

-- the file from the first gate on is these records, and a gate that is closed
pub record HoldsRecords (file : List ℕ) (gate : ℕ) (rs : List Record) : Type 0 where
  pub reads : reading (length file) 64 (drop 64 file) ≡ Holding (places rs)
  pub fit : AllFit (payloads rs)
  pub place : gate ≡ 64 + length (records (payloads rs))
  pub byte : ℕ
  pub rest : List ℕ
  pub closed : byte ≢ 1
  pub split : drop 64 file ≡ records (payloads rs) ++ byte ∷ rest

abbrev pub RecordsAs : List ℕ → Result (ℕ × Vec Record Global) OpenFault → Type 0
RecordsAs file (Ok found) = HoldsRecords file found.0 found.1.items
RecordsAs file (Err (Damaged place found)) = reading (length file) 64 (drop 64 file) ≡ Broken place found
RecordsAs file (Err e) = Unit {0}

-- a log with this header and these records, each with the place of its gate
pub record IsLog (header : Header) (rs : List (ℕ × Bytes)) (file : List ℕ) : Type 0 where
  pub whole : damage file ≡ None
  pub head : IsHead header (take 64 file)
  pub reads : reading (length file) 64 (drop 64 file) ≡ Holding rs

-- a record of a log, and not of its side
abbrev pub IsOfLog : Record → Type 0
IsOfLog r = r.side ≡ false

-- fewer than 2^30, each before that place
pub record AreFew (rs : List Record) : Type 0 where
  pub count : length rs < 2 ^ 30
  pub at : All (λ (r : Record). r.at < 2 ^ 30) rs

-- What the first bytes of an input are.
use Rattle.std.specs.Prelude.{◌≡◌, ◌≤◌, ◌<◌, ◌+◌, ◌++◌, length, take}
use Rattle.news_types.specs.Names.{Bytes}
use Rattle.byte_formats.specs.Lawful.{Begins}
use Rattle.record_lines.specs.declared.record.FirstRecord.{FirstRecord}
use Rattle.record_lines.specs.declared.record.FirstRecord.TheVariants.{Whole, Bad, Cut}
use Rattle.record_lines.specs.Spelling.{Numbered, record_bytes, IsRecord}

-- a whole record line of so many bytes; or none, and bytes up to and with a place, with which none goes on; or the
-- front of one, which is not whole
abbrev pub IsFirst : Bytes → FirstRecord → Type 0
IsFirst bytes (Whole size) = (r : Numbered) × IsRecord r × (take size bytes ≡ record_bytes r) × (size ≤ length bytes)
IsFirst bytes (Bad at) =
    (at < length bytes) × Begins record_bytes IsRecord (take at bytes)
    × (Begins record_bytes IsRecord (take (at + 1) bytes) → ⊥)
    × ((r : Numbered) (rest : Bytes) → IsRecord r → bytes ≡ record_bytes r ++ rest → ⊥)
IsFirst bytes Cut =
    Begins record_bytes IsRecord bytes
    × ((r : Numbered) (rest : Bytes) → IsRecord r → bytes ≡ record_bytes r ++ rest → ⊥)

-- these bytes are this record line
pub record AreRecord (r : Numbered) (bytes : Bytes) : Type 0 where
  pub form : IsRecord r
  pub is : bytes ≡ record_bytes r

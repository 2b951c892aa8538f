-- The record lines of an input.
use Rattle.std.specs.Prelude.{◌≡◌, ◌<◌, ℕ, ◌+◌, List, [], ◌∷◌, ◌++◌, length}
use Rattle.std.specs.List.{flat_map}
use Rattle.news_types.specs.Names.{Bytes}
use Rattle.byte_formats.specs.Lawful.{Begins}
use Rattle.byte_formats.specs.Faults.{IsFaultAt}
use Rattle.entry_codec.specs.Spelling.{entry_bytes}
use Rattle.entry_codec.specs.Formed.{IsEntry}
use Rattle.record_lines.specs.Spelling.{Numbered, record_bytes, IsRecord}
use Rattle.standby_laws.specs.Standby.{reaction}
use Rattle.standby_laws.specs.Standby as step

-- what may stand in each of them
abbrev pub AllFit : List Numbered → Type 0
AllFit [] = Unit {0}
AllFit (r ∷ records) = IsRecord r × AllFit records

-- the bytes are these record lines, one behind the other, and then the rest
pub record AreRecords (bytes : Bytes) (records : List Numbered) (rest : Bytes) : Type 0 where
  pub is : bytes ≡ flat_map record_bytes records ++ rest
  pub fit : AllFit records

-- no record line stands first in the bytes, whole
abbrev pub NoneIsWhole : Bytes → Type 0
NoneIsWhole bytes = (r : Numbered) (more : Bytes) → IsRecord r → bytes ≡ record_bytes r ++ more → ⊥

-- the bytes are nothing, or begin a record line and end too soon for it
pub record HasBegun (bytes : Bytes) : Type 0 where
  pub begins : Begins record_bytes IsRecord bytes
  pub none : NoneIsWhole bytes

-- the bytes are these record lines and what has come of the next
pub record AreAll (bytes : Bytes) (records : List Numbered) : Type 0 where
  pub rest : Bytes
  pub are : AreRecords bytes records rest
  pub begun : HasBegun rest

-- the bytes are these record lines, and behind them they are not at their end and begin with no record line: at the place is the first byte such that
-- no record line goes on with the bytes up to and with it, or the end where they end too soon
pub record IsBadAt (bytes : Bytes) (records : List Numbered) (at : ℕ) : Type 0 where
  pub rest : Bytes
  pub are : AreRecords bytes records rest
  pub some : 0 < length rest
  pub none : NoneIsWhole rest
  pub within : ℕ
  pub fault : IsFaultAt record_bytes IsRecord rest within
  pub place : at + length rest ≡ length bytes + within

-- A record line that ends at a place is the next one to a list of so many, and its payload is no entry: at the other place is the first byte of it
-- that no entry goes on with, or its end where it ends too soon.
pub record HasNoEntry (count : ℕ) (line : Numbered) (end at : ℕ) : Type 0 where
  pub next : reaction count line.number ≡ step.Next
  pub within : ℕ
  pub fault : IsFaultAt entry_bytes IsEntry line.payload within
  pub place : at + length line.payload ≡ end + within

-- the bytes are these record lines, and then one without an entry
pub record IsNoEntryAt (bytes : Bytes) (records : List Numbered) (count at : ℕ) : Type 0 where
  pub line : Numbered
  pub rest : Bytes
  pub are : AreRecords bytes (records ++ line ∷ []) rest
  pub end : ℕ
  pub ends : end + length rest ≡ length bytes
  pub bad : HasNoEntry count line end at

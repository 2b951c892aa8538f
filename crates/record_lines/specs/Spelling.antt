-- Record lines and their replies as bytes.
use Rattle.std.specs.Prelude.{ℕ, ◌≤◌, ◌<◌, ◌^◌, length, decimal, codes}
use Rattle.news_types.specs.Names.{Bytes}
use Rattle.byte_formats.specs.Lawful.{IsBytes}
use Rattle.byte_formats.specs.Spelling.{◌&◌, byte}

-- a payload, and its number in the list of records
pub record Numbered : Type 0 where
  pub number : ℕ
  pub payload : Bytes

-- the word RECORD, the number and the payload's length in decimal, each behind a space; a line feed; and the payload
abbrev pub record_bytes : Numbered → Bytes
record_bytes r = codes "RECORD " & decimal r.number & byte 32 & decimal (length r.payload) & byte 10 & r.payload

-- what may stand in a record line
pub record IsRecord (r : Numbered) : Type 0 where
  pub first : 1 ≤ r.number
  pub last : r.number ≤ 281474976710655
  pub some : 1 ≤ length r.payload
  pub fits : length r.payload ≤ 4194304
  pub bytes : IsBytes r.payload

-- the word KEPT and a count, behind a space; and a line feed
abbrev pub kept_bytes : ℕ → Bytes
kept_bytes c = codes "KEPT " & decimal c & byte 10

-- what may stand there
abbrev pub IsCount : ℕ → Type 0
IsCount c = c < 2 ^ 64

-- The laws of record lines and of their replies.
use Rattle.std.specs.Prelude.{◌≡◌, ◌≤◌, ℕ, length, Some, None}
use Rattle.news_types.specs.Names.{Bytes}
use Rattle.byte_formats.specs.Lawful.{IsBytes, Lawful}
use Rattle.record_lines.specs.Spelling.{Numbered, record_bytes, IsRecord, kept_bytes, IsCount}
use Rattle.record_lines.specs.Formats.{record_line, kept_of}

-- A record line is read again whatever follows it, and a fault is at the first byte with which none goes on.
-- So no two record lines have the same bytes.
pub record RecordsAreReadAgain : Type 0 where
  pub again : Lawful record_line IsRecord
  pub one : (r s : Numbered) → IsRecord r → IsRecord s → record_bytes r ≡ record_bytes s → r ≡ s
  pub short : (r : Numbered) → IsRecord r → length (record_bytes r) ≤ 4194335

-- a reply is read as the count that it was written for, and every other line as none
pub record RepliesAreReadAgain : Type 0 where
  pub again : (c : ℕ) → IsCount c → kept_of (kept_bytes c) ≡ Some c
  pub others : (line : Bytes) → IsBytes line → ((c : ℕ) → IsCount c → line ≡ kept_bytes c → ⊥) → kept_of line ≡ None

-- What holds of the replies to record lines, and of record lines that were sent.
use Rattle.std.specs.Prelude.{◌≡◌, ◌≤◌, ℕ, List, [], ◌∷◌, ◌++◌, length}
use Rattle.news_types.specs.Names.{Bytes}
use Rattle.news_types.specs.Doubt.{payloads}
use Rattle.news_types.specs.Members.{Each}
use Rattle.news_types.specs.Calls.{IsKept}
use Rattle.news_types.specs.Server.{Server}
use Rattle.entry_codec.specs.Spelling.{entry_bytes}
use Rattle.record_lines.specs.Spelling.{Numbered, kept_bytes}
use Rattle.standby_laws.specs.Standby.{SentRecord, taken}
use Rattle.standby_files.specs.Answers.{behind, behind_all, replies}

-- how many records the replies to these say
abbrev pub counts : List Bytes → List Numbered → List ℕ
counts held [] = []
counts held (r ∷ records) = length (behind held r) ∷ counts (behind held r) records

abbrev pub kept_lines : List ℕ → Bytes
kept_lines [] = []
kept_lines (c ∷ cs) = kept_bytes c ++ kept_lines cs

-- the replies are KEPT lines, and each of them says of no more records than are held behind all; what was held before stays
pub record RepliesAreHeld (held : List Bytes) (records : List Numbered) : Type 0 where
  pub said : replies held records ≡ kept_lines (counts held records)
  pub all : Each (λ c. c ≤ length (behind_all held records)) (counts held records)
  pub more : (more : List Bytes) × (behind_all held records ≡ held ++ more)

abbrev pub KeptIsHeld : Type 0
KeptIsHeld = (held : List Bytes) (records : List Numbered) → RepliesAreHeld held records

-- the record line of a record
abbrev pub line_of : SentRecord → Numbered
line_of s = record { number = s.number; payload = entry_bytes s.entry }

-- behind a record line that was sent the payloads are those of the list that the event makes, where the next record is kept
abbrev pub SentIsTaken : Type 0
SentIsTaken = (s : Server) (r : SentRecord) → behind (payloads entry_bytes s.list) (line_of r) ≡ payloads entry_bytes (taken s r IsKept).list

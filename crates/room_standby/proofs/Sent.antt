-- Lines that were sent are record lines.
use Rattle.std.proofs.Common.{ℕ, ◌≤◌, List, ◌∷◌, ◌++◌, length, subst, arith}
use Rattle.std.specs.Prelude.{codes, decimal}
use Rattle.news_types.specs.declared.entry.Entry.{Entry}
use Rattle.news_types.specs.Names.{Bytes}
use Rattle.byte_formats.specs.Lawful.{IsBytes}
use Rattle.byte_formats.proofs.Laws.{IsBytes-behind}
use Rattle.entry_codec.specs.Spelling.{entry_bytes}
use Rattle.entry_codec.proofs.Lengths.{entry_len}
use Rattle.record_lines.specs.Spelling.{Numbered}
use Rattle.record_lines.specs.Reads.{AreRecord}
use Rattle.standby_laws.specs.Standby.{SentRecord}
use Rattle.room_standby.specs.Comes.{AreSent}

-- an entry has bytes
some_bytes : (e : Entry) → 1 ≤ length (entry_bytes e)
some_bytes e = omega arith

-- what stands behind the two numbers
behind_numbers : (w k n p : List ℕ) → IsBytes (w ++ (k ++ 32 ∷ (n ++ 10 ∷ p))) → IsBytes p
behind_numbers w k n p all =
    let number = IsBytes-behind k (32 ∷ (n ++ 10 ∷ p)) (IsBytes-behind w (k ++ 32 ∷ (n ++ 10 ∷ p)) all) in
    (IsBytes-behind n (10 ∷ p) number.1).1

abbrev pub record_of : SentRecord → Numbered
record_of s = record { number = s.number; payload = entry_bytes s.entry }

pub is_record_line : (bytes : Bytes) → IsBytes bytes → (s : SentRecord) → AreSent s bytes → AreRecord (record_of s) bytes
is_record_line bytes ib s sent = record {
  form = record {
    first = sent.first;
    last = sent.last;
    some = some_bytes s.entry;
    fits = omega (arith, entry_len s.entry sent.entry);
    bytes =
        behind_numbers (codes "RECORD ") (decimal s.number) (decimal (length (entry_bytes s.entry))) (entry_bytes s.entry)
        (subst IsBytes sent.is ib);
  };
  is = sent.is;
}

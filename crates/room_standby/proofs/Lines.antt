-- Record lines as they were read, and what a standby makes of their numbers.
use Rattle.std.proofs.Common.{◌≡◌, ◌≤◌, ◌<◌, ◌+◌, ◌-◌, ℕ, true, false, length, Ok, Err, refl, sym, ◌∙◌, arith}
use Rattle.std.specs.Prelude.{nat_le, nat_lt}
use Rattle.std.proofs.lemmas.Bool.Decides.{nat_tests}
use Rattle.news_types.specs.Names.{Bytes}
use Rattle.byte_formats.specs.Lawful.{IsBytes}
use Rattle.byte_formats.specs.Faults.{IsFaultAt}
use Rattle.byte_formats.specs.Gives.{all_of}
use Rattle.byte_formats.proofs.Whole.{all_takes, all_fault, all_within, one_spelling}
use Rattle.record_lines.specs.Spelling.{Numbered, record_bytes, IsRecord}
use Rattle.record_lines.specs.Formats.{record_line}
use Rattle.record_lines.specs.Reads.{AreRecord}
use Rattle.record_lines.proofs.Written.{record_lawful}
use Rattle.standby_laws.specs.Standby.{Known, Ahead, Next, reaction}

pub is_record : (bytes : Bytes) → IsBytes bytes → (r : Numbered) → all_of record_line bytes ≡ Ok r → AreRecord r bytes
is_record bytes ib r read = let t = all_takes record_line IsRecord record_lawful bytes r ib read in record { form = t.0; is = t.1 }

pub fault_at : (bytes : Bytes) (left : ℕ) → IsBytes bytes → all_of record_line bytes ≡ Err left → IsFaultAt record_bytes IsRecord bytes (length bytes - left)
fault_at bytes left ib read = all_fault record_line IsRecord record_lawful bytes left ib read

pub fault_within : (bytes : Bytes) (left : ℕ) → IsBytes bytes → all_of record_line bytes ≡ Err left → left ≤ length bytes
fault_within bytes left ib read = all_within record_line IsRecord record_lawful bytes left ib read

-- bytes are one record line at the most
pub same_record : (bytes : Bytes) (r s : Numbered) → AreRecord r bytes → AreRecord s bytes → r ≡ s
same_record bytes r s a b = one_spelling record_line IsRecord record_lawful r s a.form b.form (sym a.is ∙ b.is)

-- ---- numbers

pub is_known : (count n : ℕ) → n ≤ count → reaction count n ≡ Known
is_known count n le = let t : nat_le n count ≡ true = grind (arith, nat_tests) in rw t refl

pub is_ahead : (count n : ℕ) → count + 1 < n → reaction count n ≡ Ahead
is_ahead count n lt =
    let t : nat_le n count ≡ false = grind (arith, nat_tests) in
    let u : nat_lt (count + 1) n ≡ true = grind (arith, nat_tests) in
    rw (t, u) refl

pub is_next : (count n : ℕ) → n ≡ count + 1 → reaction count n ≡ Next
is_next count n is =
    let t : nat_le n count ≡ false = grind (arith, nat_tests, is) in
    let u : nat_lt (count + 1) n ≡ false = grind (arith, nat_tests, is) in
    rw (t, u) refl

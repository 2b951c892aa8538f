-- What the first bytes of an input are, from what reading gives.
use Rattle.std.proofs.Common.{◌≡◌, ℕ, ◌<◌, ◌≤◌, ◌-◌, List, ◌++◌, length, take, Ok, Err, refl, sym, ap, subst, ◌∙◌, arith, length-append}
use Rattle.std.proofs.lemmas.List.{take_all}
use Rattle.std.proofs.Math.Seq.{take-append_seam}
use Rattle.news_types.specs.Names.{Bytes}
use Rattle.byte_formats.specs.Lawful.{IsBytes, Begins}
use Rattle.byte_formats.specs.Faults.{IsFaultAt}
use Rattle.byte_formats.specs.Gives.{all_of}
use Rattle.byte_formats.proofs.Laws.{not_both}
use Rattle.byte_formats.proofs.Whole.{all_fault, all_within}
use Rattle.record_lines.specs.declared.record.FirstRecord.TheVariants.{Whole, Bad, Cut}
use Rattle.record_lines.specs.Spelling.{Numbered, record_bytes, IsRecord}
use Rattle.record_lines.specs.Formats.{record_line, read_record_at}
use Rattle.record_lines.specs.Reads.{IsFirst}
use Rattle.record_lines.proofs.Written.{record_lawful}

module _ (bytes : Bytes) (ib : IsBytes bytes) where
  pub left_within : (r : Numbered) (rest : List ℕ) → read_record_at bytes ≡ Ok (r, rest) → length rest ≤ length bytes
  left_within r rest e = let t = record_lawful.takes bytes r rest ib e in omega (arith, ap length t.1, length-append (record_bytes r) rest)

  pub first_whole : (r : Numbered) (rest : List ℕ) → read_record_at bytes ≡ Ok (r, rest) → IsFirst bytes (Whole (length bytes - length rest))
  first_whole r rest e =
      let t = record_lawful.takes bytes r rest ib e in
      let long : length (record_bytes r) ≡ length bytes - length rest = omega (arith, ap length t.1, length-append (record_bytes r) rest) in
      let front : take (length bytes - length rest) bytes ≡ record_bytes r =
      ap (λ (n : ℕ). take n bytes) (sym long) ∙ ap (λ (z : List ℕ). take (length (record_bytes r)) z) t.1 ∙ take-append_seam (record_bytes r) rest in
      (r, t.0, front, omega arith)

  whole_fault : (left : ℕ) → read_record_at bytes ≡ Err left → all_of record_line bytes ≡ Err left
  unfolding all_of
  whole_fault left e = rw e refl

  pub fault_within : (left : ℕ) → read_record_at bytes ≡ Err left → left ≤ length bytes
  fault_within left e = all_within record_line IsRecord record_lawful bytes left ib (whole_fault left e)

  fault_at : (left : ℕ) → read_record_at bytes ≡ Err left → IsFaultAt record_bytes IsRecord bytes (length bytes - left)
  fault_at left e = all_fault record_line IsRecord record_lawful bytes left ib (whole_fault left e)

  none_whole : (left : ℕ) → read_record_at bytes ≡ Err left → (r : Numbered) (rest : Bytes) → IsRecord r → bytes ≡ record_bytes r ++ rest → ⊥
  none_whole left e = λ r rest form is. not_both (read_record_at bytes) (r, rest) left (ap read_record_at is ∙ record_lawful.again r rest form) e

  pub first_bad : (left : ℕ) → 0 < left → read_record_at bytes ≡ Err left → IsFirst bytes (Bad (length bytes - left))
  first_bad left some e =
      let at = fault_at left e in
      let within : length bytes - left < length bytes = omega (arith, fault_within left e) in
      (within, at.before, at.here within, none_whole left e)

  pub first_cut : read_record_at bytes ≡ Err 0 → IsFirst bytes Cut
  first_cut e =
      let at = fault_at 0 e in
      let whole : take (length bytes - 0) bytes ≡ bytes = take_all (length bytes - 0) bytes (omega arith) in
      (subst (Begins record_bytes IsRecord) whole at.before, none_whole 0 e)

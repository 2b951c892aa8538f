-- Record lines and their replies keep the laws of formats.
use Rattle.std.proofs.Common.{◌≡◌, ℕ, ◌≤◌, ◌+◌, List, [], ◌∷◌, ◌++◌, length, refl, sym, ap, arith, append_assoc, length-append}
use Rattle.std.specs.Prelude.{⊤, codes, decimal}
use Rattle.std.proofs.lemmas.Fmt.{length-decimal-le}
use Rattle.byte_formats.specs.Format.{pair, chain, free}
use Rattle.byte_formats.specs.Until.{numeral, literal}
use Rattle.byte_formats.specs.Lawful.{IsBytes, Lawful}
use Rattle.byte_formats.proofs.Laws.{via, chain_lawful}
use Rattle.byte_formats.proofs.Fields.{pair_lawful}
use Rattle.byte_formats.proofs.Numbers.{free_lawful}
use Rattle.byte_formats.proofs.Options.{read_again}
use Rattle.byte_formats.proofs.Words.{literal_lawful}
use Rattle.byte_formats.proofs.Numerals.{numeral_lawful}
use Rattle.record_lines.specs.declared.record.Heading.{Heading}
use Rattle.record_lines.specs.Spelling.{Numbered, record_bytes, IsRecord, IsCount}
use Rattle.record_lines.specs.Formats.{heading_fields, heading_from, fields_of, heading_at, heading, heading_of, record_from, payload_by, read_record_at, record_line, kept_fields, kept_at, kept}

-- ---- the first line of a record line

record_word : IsBytes (codes "RECORD ")
record_word = (omega arith, (omega arith, (omega arith, (omega arith, (omega arith, (omega arith, (omega arith, tt)))))))

abbrev Anything : ⊤ → Type 0
Anything _ = Unit {0}

abbrev IsNumber : ℕ → Type 0
IsNumber n = (1 ≤ n) × (n ≤ 281474976710655)

abbrev IsSize : ℕ → Type 0
IsSize n = (1 ≤ n) × (n ≤ 4194304)

abbrev AreFields : ⊤ × (ℕ × ℕ) → Type 0
AreFields x = Anything x.0 × (IsNumber x.1.0 × IsSize x.1.1)

fields_lawful : Lawful heading_fields AreFields
fields_lawful =
    pair_lawful (literal (codes "RECORD ")) Anything (pair (numeral 32 1 281474976710655) (numeral 10 1 4194304)) (λ x. IsNumber x.0 × IsSize x.1)
    (literal_lawful (codes "RECORD ") record_word)
    (pair_lawful (numeral 32 1 281474976710655) IsNumber (numeral 10 1 4194304) IsSize
    (numeral_lawful 32 1 281474976710655 (omega arith) (omega arith) (omega arith) (omega arith))
    (numeral_lawful 10 1 4194304 (omega arith) (omega arith) (omega arith) (omega arith)))

abbrev IsHeading : Heading → Type 0
IsHeading h = IsNumber h.number × IsSize h.length

heading_lawful : Lawful heading IsHeading
unfolding heading_at
heading_lawful = via heading_fields AreFields heading IsHeading heading_from fields_lawful (λ bytes. refl) (λ a p. (p.1, refl)) (λ h p. (fields_of h, (tt, p), refl))

-- ---- the payload behind it

abbrev IsBehind : Heading → Numbered → Type 0
IsBehind h r = (heading_of r ≡ h) × IsBytes r.payload

abbrev sized : Heading → ℕ → Heading
sized h n = record { number = h.number; length = n }

payload_lawful : (h : Heading) → Lawful (payload_by h) (IsBehind h)
payload_lawful h =
    via (free h.length) (λ x. (length x ≡ h.length) × IsBytes x) (payload_by h) (IsBehind h) (record_from h) (free_lawful h.length) (λ bytes. refl)
    (λ x p. ((ap (sized h) p.0, p.1), refl))
    (λ r q. (r.payload, (ap (λ (z : Heading). z.length) q.0, q.1), ap (λ (z : Heading). record_from z r.payload) (sym q.0)))

-- ---- record lines

record_is : (w k n p : List ℕ) → w ++ (k ++ 32 ∷ (n ++ 10 ∷ p)) ≡ (w ++ ((k ++ 32 ∷ []) ++ (n ++ 10 ∷ []))) ++ p
record_is w k n p = simp append_assoc

abbrev ByParts : Numbered → Type 0
ByParts r = IsHeading (heading_of r) × IsBehind (heading_of r) r

pub record_lawful : Lawful record_line IsRecord
unfolding read_record_at
record_lawful =
    via (chain heading payload_by heading_of) ByParts record_line IsRecord (λ r. r)
    (chain_lawful heading IsHeading payload_by IsBehind heading_of heading_lawful (λ h p. payload_lawful h) (λ h r p q. q.0))
    (λ bytes. read_again ((chain heading payload_by heading_of).read bytes))
    (λ r p. (record { first = p.0.0.0; last = p.0.0.1; some = p.0.1.0; fits = p.0.1.1; bytes = p.1.1 }, record_is (codes "RECORD ") (decimal r.number) (decimal (length r.payload)) r.payload))
    (λ r s. (r, (((s.first, s.last), (s.some, s.fits)), (refl, s.bytes)), refl))

two_more : (w k n p : List ℕ) → length (w ++ (k ++ 32 ∷ (n ++ 10 ∷ p))) ≡ length w + length k + length n + length p + 2
two_more w k n p = simp length-append (omega arith)

-- a record line has few bytes more than its payload
pub record_length : (r : Numbered) → IsRecord r → length (record_bytes r) ≤ 4194335
record_length r s =
    let all = two_more (codes "RECORD ") (decimal r.number) (decimal (length r.payload)) r.payload in
    let number = length-decimal-le 15 r.number (omega arith) (omega (arith, s.last)) (omega (arith, s.last)) in
    let size = length-decimal-le 7 (length r.payload) (omega arith) (omega (arith, s.fits)) (omega (arith, s.fits)) in
    omega (arith, all, number, size, s.fits)

-- ---- replies

kept_word : IsBytes (codes "KEPT ")
kept_word = (omega arith, (omega arith, (omega arith, (omega arith, (omega arith, tt)))))

abbrev IsUpTo : ℕ → Type 0
IsUpTo c = (0 ≤ c) × (c ≤ 18446744073709551615)

abbrev AreKeptFields : ⊤ × ℕ → Type 0
AreKeptFields x = Anything x.0 × IsUpTo x.1

kept_fields_lawful : Lawful kept_fields AreKeptFields
kept_fields_lawful =
    pair_lawful (literal (codes "KEPT ")) Anything (numeral 10 0 18446744073709551615) IsUpTo
    (literal_lawful (codes "KEPT ") kept_word)
    (numeral_lawful 10 0 18446744073709551615 (omega arith) (omega arith) (omega arith) (omega arith))

pub kept_lawful : Lawful kept IsCount
unfolding kept_at
kept_lawful =
    via kept_fields AreKeptFields kept IsCount (λ x. x.1) kept_fields_lawful (λ bytes. refl)
    (λ a p. (omega (arith, p.1.1), refl))
    (λ c p. ((tt, c), (tt, (omega arith, omega (arith, p))), refl))

-- The place of a fault lies within its message, at the byte that ends it, or one further.
use Rattle.std.proofs.Common.{◌≡◌, inl, inr, ℕ, ◌+◌, ◌≤◌, Bool, true, false, not, if◌then◌else◌, List, [], ◌∷◌, length, Option, Some, None, Result, Ok, Err, subst, arith}
use Rattle.std.proofs.lemmas.Bool.{cases_eq, eq-eqb, ne_eqb}
use Rattle.news_types.specs.declared.story.Incoming.{Incoming}
use Rattle.text7901.specs.Fields.{before, behind_byte}
use Rattle.agency_wires.specs.declared.fault.What.{What}
use Rattle.agency_wires.specs.declared.fault.What.TheVariants.{NotThisForm, NoHeader, NoText, NoEnd, TooLong}
use Rattle.agency_wires.specs.declared.fault.WireFault.{WireFault}
use Rattle.agency_wires.specs.declared.fault.WireFault.TheVariants.{Fault, Memory}
use Rattle.agency_wires.specs.Header.{header_line, has_header}
use Rattle.agency_wires.specs.Headline.{body}
use Rattle.agency_wires.specs.Parts.{is_within, has}
use Rattle.agency_wires.specs.Reading.{head_of, text_of, info_of, text_place, is_anpa, wrong_text, wrong, incoming_of, or_fault, told}

abbrev IsNear : ℕ → Option WireFault → Type 0
IsNear most None = Unit {0}
IsNear most (Some (Fault at is)) = at ≤ most
IsNear most (Some Memory) = Unit {0}

either : (most : ℕ) (t : Bool) (p q : Option WireFault) → IsNear most p → IsNear most q → IsNear most (if t then p else q)
either most true p q near other = near
either most false p q near other = other

before_short : (x : ℕ) (bytes : List ℕ) → length (before x bytes) ≤ length bytes
before_short x [] = omega arith
before_short x (b ∷ bytes) = elim (cases_eq b x) [
  | inl is ↦ rw (eq-eqb b x is) (omega arith)
  | inr other ↦ rw (ne_eqb b x other) (omega (arith, before_short x bytes))
]

wrong_near : (bytes head text : List ℕ) → IsNear (length bytes + 1) (wrong bytes head text)
wrong_near bytes head text =
    let most : ℕ = length bytes + 1 in
    let place : text_place bytes ≤ most = omega (arith, before_short 2 bytes) in
    let ends : length bytes ≤ most = omega arith in
    let starts : 0 ≤ most = omega arith in
    let fourth : Option WireFault = if not (is_within 524_288 (body text)) then Some (Fault (text_place bytes) TooLong) else None in
    let third : Option WireFault = if not (has 3 (behind_byte 2 bytes)) then Some (Fault (length bytes) NoEnd) else fourth in
    let second : Option WireFault = if not (has 2 bytes) then Some (Fault (length bytes) NoText) else third in
    either most (not (has_header (header_line head))) (Some (Fault 0 NoHeader)) (wrong_text bytes text) starts
    (either most (is_anpa text) (Some (Fault (text_place bytes) NotThisForm)) second place
    (either most (not (has 2 bytes)) (Some (Fault (length bytes) NoText)) third ends
    (either most (not (has 3 (behind_byte 2 bytes))) (Some (Fault (length bytes) NoEnd)) fourth ends
    (either most (not (is_within 524_288 (body text))) (Some (Fault (text_place bytes) TooLong)) None place tt))))

abbrev faulty : WireFault → Result Incoming WireFault
faulty fault = Err fault

abbrev whole : Incoming → Result Incoming WireFault
whole incoming = Ok incoming

same_place : (a b : ℕ) (v w : What) → faulty (Fault a v) ≡ faulty (Fault b w) → a ≡ b
same_place a b v w e = cc

no_memory : (b : ℕ) (w : What) → faulty Memory ≡ faulty (Fault b w) → ⊥
no_memory b w e = cc

no_fault : (c : Incoming) (b : ℕ) (w : What) → whole c ≡ faulty (Fault b w) → ⊥
no_fault c b w e = cc

from_fault : (most : ℕ) (o : Option WireFault) (c : Incoming) (within : ℕ) (is : What) → IsNear most o → or_fault o c ≡ Err (Fault within is) → within ≤ most
from_fault most None c within is near e = absurd (no_fault c within is e)
from_fault most (Some (Fault at w)) c within is near e = subst (λ (n : ℕ). n ≤ most) (same_place at within w is e) near
from_fault most (Some Memory) c within is near e = absurd (no_memory within is e)

pub fault_near : (day : ℕ) (bytes : List ℕ) (within : ℕ) (is : What) → told day bytes ≡ Err (Fault within is) → within ≤ length bytes + 1
fault_near day bytes within is e =
    from_fault (length bytes + 1) (wrong bytes (head_of bytes) (text_of bytes)) (incoming_of (head_of bytes) (text_of bytes) (info_of bytes) day) within is
    (wrong_near bytes (head_of bytes) (text_of bytes)) e

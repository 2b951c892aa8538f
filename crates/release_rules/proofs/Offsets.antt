-- The texts of an offset are exactly those that are read.
use Rattle.std.specs.Prelude.{◌≡◌, ℕ, ℤ, pos, neg_ℤ, ◌+◌, ◌*◌, ◌/◌, ◌%◌, true, false, ◌==◌, ◌&&◌, nat_le, if◌then◌else◌, List, [], ◌∷◌, Some, None, option_and_then}
use Rattle.std.proofs.Common.{arith, refl, sym, ap, subst, ◌⊎◌, inl, inr}
use Rattle.std.specs.Char.{is_ascii_digit}
use Rattle.std.specs.List.{prefix_len}
use Rattle.std.proofs.lemmas.Bool.Decides.{nat_tests}
use Rattle.news_types.specs.Clock.{pair_number, signed_of, clock_of, fixed_of}
use Rattle.release_rules.specs.Texts.{Offset, Utc, Ahead, Behind, offset_text, offset_of, IsOffset, IsHours}
use Rattle.release_rules.specs.Reader.{offset_at, behind_fraction}
use Rattle.release_rules.proofs.Digits.{pair_number-two, pair_number-some, ArePair}

in_hours : (h m : ℕ) → IsHours h m → (nat_le h 23 && nat_le m 59) ≡ true
in_hours h m is = grind (arith, nat_tests)

fixed_of-ahead : (h m : ℕ) → IsHours h m → fixed_of (43 ∷ (48 + h / 10) ∷ (48 + h % 10) ∷ 58 ∷ (48 + m / 10) ∷ (48 + m % 10) ∷ []) ≡ Some (pos (h * 3600 + m * 60))
fixed_of-ahead h m is =
    let hours = pair_number-two h (omega arith) in
    let minutes = pair_number-two m (omega arith) in
    let good = in_hours h m is in
    rw (hours, minutes, good) refl

fixed_of-behind : (h m : ℕ) → IsHours h m → fixed_of (45 ∷ (48 + h / 10) ∷ (48 + h % 10) ∷ 58 ∷ (48 + m / 10) ∷ (48 + m % 10) ∷ []) ≡ Some (neg_ℤ (pos (h * 3600 + m * 60)))
fixed_of-behind h m is =
    let hours = pair_number-two h (omega arith) in
    let minutes = pair_number-two m (omega arith) in
    let good = in_hours h m is in
    rw (hours, minutes, good) refl

-- each offset is read from its text
pub offset_at-text : (o : Offset) → IsOffset o → offset_at (offset_text o) ≡ Some (offset_of o)
offset_at-text Utc is = refl
offset_at-text (Ahead true h m) is = fixed_of-ahead h m is
offset_at-text (Ahead false h m) is = fixed_of-ahead h m is
offset_at-text (Behind true h m) is = fixed_of-behind h m is
offset_at-text (Behind false h m) is = fixed_of-behind h m is

-- which begins with neither a point nor a digit
pub behind_fraction-offset : (o : Offset) → behind_fraction (offset_text o) ≡ Some (offset_text o)
behind_fraction-offset Utc = refl
behind_fraction-offset (Ahead colon h m) = refl
behind_fraction-offset (Behind colon h m) = refl

pub prefix_len-offset : (o : Offset) → prefix_len is_ascii_digit (offset_text o) ≡ 0
prefix_len-offset Utc = refl
prefix_len-offset (Ahead colon h m) = refl
prefix_len-offset (Behind colon h m) = refl

-- ---- and back

-- the sign and the digits of an offset
pub record AreHours (sign a b c d : ℕ) (z : ℤ) : Type 0 where
  pub hours : ℕ
  pub minutes : ℕ
  pub first : ArePair a b hours
  pub last : ArePair c d minutes
  pub range : IsHours hours minutes
  pub signed : ((sign ≡ 43) × (pos (hours * 3600 + minutes * 60) ≡ z)) ⊎ ((sign ≡ 45) × (neg_ℤ (pos (hours * 3600 + minutes * 60)) ≡ z))

signed_of-some : (sign n : ℕ) (z : ℤ) → signed_of sign n ≡ Some z → ((sign ≡ 43) × (pos n ≡ z)) ⊎ ((sign ≡ 45) × (neg_ℤ (pos n) ≡ z))
signed_of-some sign n z e =
    elim (sign == 43) as (λ x. (sign == 43) ≡ x → (if x then Some (pos n) else (if sign == 45 then Some (neg_ℤ (pos n)) else None)) ≡ Some z → ((sign ≡ 43) × (pos n ≡ z)) ⊎ ((sign ≡ 45) × (neg_ℤ (pos n) ≡ z))) [
      | true ↦ λ plus s. inl (grind (arith, nat_tests), cc)
      | false ↦ λ no s. elim (sign == 45) as (λ y. (sign == 45) ≡ y → (if y then Some (neg_ℤ (pos n)) else None) ≡ Some z → ((sign ≡ 43) × (pos n ≡ z)) ⊎ ((sign ≡ 45) × (neg_ℤ (pos n) ≡ z))) [
        | true ↦ λ minus t. inr (grind (arith, nat_tests), cc)
        | false ↦ λ other t. cc
      ] refl s
    ] refl e

clock_of-some : (sign h m : ℕ) (z : ℤ) → clock_of sign h m ≡ Some z → IsHours h m × (signed_of sign (h * 3600 + m * 60) ≡ Some z)
clock_of-some sign h m z e =
    elim (nat_le h 23 && nat_le m 59) as (λ x. (nat_le h 23 && nat_le m 59) ≡ x → (if x then signed_of sign (h * 3600 + m * 60) else None) ≡ Some z → IsHours h m × (signed_of sign (h * 3600 + m * 60) ≡ Some z)) [
      | true ↦ λ good s. ((grind (arith, nat_tests), grind (arith, nat_tests)), s)
      | false ↦ λ bad s. cc
    ] refl e

both-some : (sign a b c d : ℕ) (z : ℤ) → option_and_then (λ h. option_and_then (clock_of sign h) (pair_number c d)) (pair_number a b) ≡ Some z → AreHours sign a b c d z
both-some sign a b c d z e =
    elim (pair_number a b) as (λ x. pair_number a b ≡ x → option_and_then (λ h. option_and_then (clock_of sign h) (pair_number c d)) x ≡ Some z → AreHours sign a b c d z) [
      | Some h ↦ λ hours s. elim (pair_number c d) as (λ y. pair_number c d ≡ y → option_and_then (clock_of sign h) y ≡ Some z → AreHours sign a b c d z) [
        | Some m ↦ λ minutes t.
            let parts = clock_of-some sign h m z t in
            record { hours = h; minutes = m; first = pair_number-some a b h hours; last = pair_number-some c d m minutes; range = parts.0; signed = signed_of-some sign (h * 3600 + m * 60) z parts.1 }
        | None ↦ λ minutes t. cc
      ] refl s
      | None ↦ λ hours s. cc
    ] refl e

-- the text is one of the offset
pub record IsOffsetText (text : List ℕ) (z : ℤ) : Type 0 where
  pub offset : Offset
  pub form : IsOffset offset
  pub spelled : text ≡ offset_text offset
  pub value : offset_of offset ≡ z

with_colon : (sign a b c d : ℕ) (z : ℤ) → AreHours sign a b c d z → IsOffsetText (sign ∷ a ∷ b ∷ 58 ∷ c ∷ d ∷ []) z
with_colon sign a b c d z is =
    elim is.signed [
      | inl plus ↦ record { offset = Ahead true is.hours is.minutes; form = is.range; value = plus.1; spelled = λ i. plus.0 i ∷ is.first.tens i ∷ is.first.ones i ∷ 58 ∷ is.last.tens i ∷ is.last.ones i ∷ [] }
      | inr minus ↦ record { offset = Behind true is.hours is.minutes; form = is.range; value = minus.1; spelled = λ i. minus.0 i ∷ is.first.tens i ∷ is.first.ones i ∷ 58 ∷ is.last.tens i ∷ is.last.ones i ∷ [] }
    ]

without_colon : (sign a b c d : ℕ) (z : ℤ) → AreHours sign a b c d z → IsOffsetText (sign ∷ a ∷ b ∷ c ∷ d ∷ []) z
without_colon sign a b c d z is =
    elim is.signed [
      | inl plus ↦ record { offset = Ahead false is.hours is.minutes; form = is.range; value = plus.1; spelled = λ i. plus.0 i ∷ is.first.tens i ∷ is.first.ones i ∷ is.last.tens i ∷ is.last.ones i ∷ [] }
      | inr minus ↦ record { offset = Behind false is.hours is.minutes; form = is.range; value = minus.1; spelled = λ i. minus.0 i ∷ is.first.tens i ∷ is.first.ones i ∷ is.last.tens i ∷ is.last.ones i ∷ [] }
    ]

fixed_of-some : (sign a b colon c d : ℕ) (z : ℤ) → fixed_of (sign ∷ a ∷ b ∷ colon ∷ c ∷ d ∷ []) ≡ Some z → (colon ≡ 58) × AreHours sign a b c d z
fixed_of-some sign a b colon c d z e =
    elim (colon == 58) as (λ x. (colon == 58) ≡ x → (if x then option_and_then (λ h. option_and_then (clock_of sign h) (pair_number c d)) (pair_number a b) else None) ≡ Some z → (colon ≡ 58) × AreHours sign a b c d z) [
      | true ↦ λ is s. (grind (arith, nat_tests), both-some sign a b c d z s)
      | false ↦ λ no s. cc
    ] refl e

one_byte : (b : ℕ) (z : ℤ) → offset_at (b ∷ []) ≡ Some z → IsOffsetText (b ∷ []) z
one_byte b z e =
    elim (b == 90) as (λ x. (b == 90) ≡ x → (if x then Some (pos 0) else None) ≡ Some z → IsOffsetText (b ∷ []) z) [
      | true ↦ λ is s. let at : b ≡ 90 = grind (arith, nat_tests) in record { offset = Utc; form = tt; spelled = ap (λ (x : ℕ). x ∷ []) at; value = cc }
      | false ↦ λ no s. cc
    ] refl e

-- what is read is the text of an offset
pub offset_at-some : (text : List ℕ) (z : ℤ) → offset_at text ≡ Some z → IsOffsetText text z
offset_at-some [] z e = cc
offset_at-some (a ∷ []) z e = one_byte a z e
offset_at-some (a ∷ b ∷ []) z e = cc
offset_at-some (a ∷ b ∷ c ∷ []) z e = cc
offset_at-some (a ∷ b ∷ c ∷ d ∷ []) z e = cc
offset_at-some (sign ∷ a ∷ b ∷ c ∷ d ∷ []) z e = without_colon sign a b c d z (fixed_of-some sign a b 58 c d z e).1
offset_at-some (sign ∷ a ∷ b ∷ colon ∷ c ∷ d ∷ []) z e =
    let parts = fixed_of-some sign a b colon c d z e in
    subst (λ (x : ℕ). IsOffsetText (sign ∷ a ∷ b ∷ x ∷ c ∷ d ∷ []) z) (sym parts.0) (with_colon sign a b c d z parts.1)
offset_at-some (a ∷ b ∷ c ∷ d ∷ f ∷ g ∷ h ∷ text) z e = cc

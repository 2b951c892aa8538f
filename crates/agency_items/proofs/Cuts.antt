-- The cut of a text, by what `floor_char_boundary` ensures of its result.
use Rattle.std.specs.Prelude.{◌≡◌, ℕ, zero, suc, cond, true, false, List, length, take}
use Rattle.std.specs.Str.{IsCharBoundary}
use Rattle.std.specs.Fmt.{is_char_start}
use Rattle.std.specs.Fmt.Cut.{floor_char_boundary}
use Rattle.std.proofs.Common.{arith, ◌<◌, ◌≤◌, ◌⊎◌, inl, inr, ⊎_elim, refl, sym, ap, subst, ◌∙◌}
use Rattle.std.proofs.lemmas.Bool.{cases_order, lt-ltb, le-ltb, le-leb, lt-leb}
use Rattle.agency_items.specs.Texts.{cut}

order : (a b : ℕ) → (a < b) ⊎ (b ≤ a)
order a b = ⊎_elim (λ (same : a ≡ b). inr (omega arith)) (⊎_elim (λ (below : a < b). inl below) (λ (above : b < a). inr (omega arith))) (cases_order a b)

starts : (b : ℕ) → (128 ≤ b → 192 ≤ b) → is_char_start b ≡ true
starts b h = ⊎_elim (λ (low : b < 128). rw (lt-ltb b 128 low) refl) (λ (high : 128 ≤ b). rw (le-ltb b 128 high, le-leb 192 b (h high)) refl) (order b 128)

continues : (b : ℕ) → ((128 ≤ b → 192 ≤ b) → ⊥) → is_char_start b ≡ false
continues b h = ⊎_elim (λ (low : b < 128). absurd (h (λ high. omega arith)))
    (λ (high : 128 ≤ b). ⊎_elim (λ (mid : b < 192). rw (le-ltb b 128 high, lt-leb 192 b mid) refl) (λ (top : 192 ≤ b). absurd (h (λ _. top))) (order b 192)) (order b 128)

abbrev IsLast : List ℕ → ℕ → ℕ → Type 0
IsLast bs i kept = (kept ≤ i) × IsCharBoundary bs kept × ((j : ℕ) → kept < j → j ≤ i → IsCharBoundary bs j → ⊥)

floor_is : (bs : List ℕ) (i kept : ℕ) → i < length bs → IsLast bs i kept → floor_char_boundary bs i ≡ kept
unfolding floor_char_boundary
floor_is bs zero kept within last = omega arith
floor_is bs (suc i) kept within last = ⊎_elim
    (λ (below : kept < suc i). ap (λ t. cond t (suc i) (floor_char_boundary bs i)) (continues _ (λ h. last.2 (suc i) below (omega arith) (omega arith, λ _. h)))
    ∙ floor_is bs i kept (omega arith) (omega arith, last.1, λ j p q. last.2 j p (omega arith)))
    (λ (above : suc i ≤ kept). let same : kept ≡ suc i = omega arith in
    ap (λ t. cond t (suc i) (floor_char_boundary bs i)) (starts _ ((subst (IsCharBoundary bs) same last.1).1 within)) ∙ sym same)
    (order kept (suc i))

pub cut_long : (text : List ℕ) (kept : ℕ) → 500 < length text → kept ≤ 500 → IsCharBoundary text kept → ((j : ℕ) → kept < j → j ≤ 500 → IsCharBoundary text j → ⊥) → take kept text ≡ cut text
cut_long text kept long most at last = rw (lt-leb (length text) 500 long, floor_is text 500 kept long (most, at, last)) refl

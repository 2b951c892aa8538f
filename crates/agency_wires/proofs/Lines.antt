-- The lines of a headline, as loops go over them.
use Rattle.std.proofs.Common.{◌≡◌, ℕ, suc, ◌+◌, ◌-◌, ◌<◌, ◌≤◌, Bool, true, false, cond, List, [], ◌∷◌, ◌++◌, length, sym, ap, ◌∙◌, refl, arith, append_assoc, eqb, inl, inr}
use Rattle.std.proofs.lemmas.Bool.{cases_Bool, ne_eqb}
use Rattle.agency_wires.specs.Parts.{blank, trim_front, line, behind_line}
use Rattle.agency_wires.specs.Headline.{ends_with_mark, without_mark, further, spaced, behind}
use Rattle.agency_wires.specs.HeldWords.{is_word}

-- ---- the first lines

one_less : (n k : ℕ) → k < n → n - k ≡ suc (n - (k + 1))
one_less n k l = omega (arith, l)

pub stops : (seen : ℕ) (rest l : List ℕ) (t : Bool) → seen < 4 → l ≡ line rest → t ≡ ends_with_mark l → t ≡ true → further seen (4 - seen) rest ≡ seen
stops seen rest l t lt e f g =
    ap (λ n. further seen n rest) (one_less 4 seen lt) ∙ ap (λ z. cond z seen (further (seen + 1) (4 - (seen + 1)) (behind_line rest))) (sym (f ∙ ap ends_with_mark e) ∙ g)

pub goes_on : (seen : ℕ) (rest l : List ℕ) (t : Bool) → seen < 4 → l ≡ line rest → t ≡ ends_with_mark l → t ≡ false → further seen (4 - seen) rest ≡ further (seen + 1) (4 - (seen + 1)) (behind_line rest)
goes_on seen rest l t lt e f g =
    ap (λ n. further seen n rest) (one_less 4 seen lt) ∙ ap (λ z. cond z seen (further (seen + 1) (4 - (seen + 1)) (behind_line rest))) (sym (f ∙ ap ends_with_mark e) ∙ g)

pub behind_on : (count k : ℕ) (rest : List ℕ) → k < count → behind (count - k) rest ≡ behind (count - (k + 1)) (behind_line rest)
behind_on count k rest lt = ap (λ n. behind n rest) (one_less count k lt)

pub put_on : (count k : ℕ) (rest out out1 out2 l m rest' : List ℕ) → k < count → out1 ≡ out ++ 32 ∷ [] → out2 ≡ out1 ++ m → m ≡ without_mark l → l ≡ line rest → rest' ≡ behind_line rest
    → out2 ++ spaced (count - (k + 1)) rest' ≡ out ++ spaced (count - k) rest
put_on count k rest out out1 out2 l m rest' lt a b e f g =
    let n = count - (k + 1) in
    let told = without_mark (line rest) in
    ap (λ z. out2 ++ spaced n z) g
    ∙ ap (λ z. z ++ spaced n (behind_line rest)) (b ∙ ap (λ z. z ++ m) a ∙ ap (λ z. (out ++ 32 ∷ []) ++ z) (e ∙ ap without_mark f))
    ∙ append_assoc (out ++ 32 ∷ []) told (spaced n (behind_line rest))
    ∙ append_assoc out (32 ∷ []) (told ++ spaced n (behind_line rest))
    ∙ ap (λ z. out ++ spaced z rest) (sym (one_less count k lt))

-- ---- at the end of a word

pub word_end : (xs : List ℕ) → is_word xs [] ≡ eqb (length xs) 0
word_end [] = refl
word_end (x ∷ xs) = sym (ne_eqb (suc (length xs)) 0 (omega arith))

-- ---- sizes

pub trim_front_length : (xs : List ℕ) → length (trim_front xs) ≤ length xs
trim_front_length [] = omega arith
trim_front_length (x ∷ xs) =
    let h = trim_front_length xs in
    elim (cases_Bool (blank x)) [
      | inl e ↦ rw e (omega (arith, h))
      | inr e ↦ rw e (omega arith)
    ]

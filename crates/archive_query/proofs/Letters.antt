-- The characters that are folded in place, each tried.
use Rattle.std.proofs.Common.{◌≡◌, ◌∙◌, inl, inr, ◌<◌, ◌≤◌, ◌+◌, ◌-◌, ℕ, Bool, true, false, not, ◌||◌, List, [], ◌∷◌, map, ◌==◌, encode_utf8, encode_utf8_all, refl, sym, ap, subst, arith, ◌/◌, ◌%◌, ◌++◌, nat_lt, cond, length, take, drop, append-nil, take-append-drop, le-ltb}
use Rattle.caseless.proofs.CaselessLemmas.{full_fold-none}
use lib.Utf8.{encode}
use Rattle.std.proofs.lemmas.Bool.{cases_lt}
use Rattle.std.proofs.lemmas.Bool.Decides.{nat_tests}
use Rattle.std.specs.Char.{to_ascii_lowercase, len_utf8}
use Rattle.ucd_table.proofs.Computing.{tables}
use Rattle.ucd_table.proofs.Facts.{Stepped-below}
use Rattle.ucd_table.proofs.TrieCheck.{all_below-at}
use Rattle.ucd_table.proofs.GroupsCheck.{same_string, same_string-true}
use Rattle.ucd_table.specs.Steps.{step_value}
use Rattle.ucd_case.specs.CaseFolding.{full_fold, full_folding, or_itself}
use Rattle.ucd_case.proofs.CaseFoldingLemmas.{full_folding_stepped}
use Rattle.archive_query.specs.Near.{is_capital, stays}

-- where the first holds
held : (a b : Bool) → (not a || b) ≡ true → a ≡ true → b ≡ true
held true b h is = h
held false b h is = cc

abbrev capital_passes : ℕ → List ℕ → Bool
capital_passes c folding = not (is_capital c) || same_string (encode_utf8_all (or_itself c folding)) (195 ∷ (c - 32) ∷ [])

abbrev stays_passes : ℕ → List ℕ → Bool
stays_passes c folding = not (stays c) || same_string (encode_utf8_all (or_itself c folding)) (map to_ascii_lowercase (encode_utf8 c))

capitals_pass : (c : ℕ) → c < 256 → capital_passes c (full_folding c) ≡ true
unfolding tables full_folding_stepped encode same_string
capitals_pass c below = Stepped-below full_folding full_folding_stepped capital_passes 256 refl c below

letters_pass : (c : ℕ) → c < 256 → stays_passes c (full_folding c) ≡ true
unfolding tables full_folding_stepped encode same_string
letters_pass c below = Stepped-below full_folding full_folding_stepped stays_passes 256 refl c below

marks_pass : (k : ℕ) → k < 256 → stays_passes (8192 + k) (full_folding (8192 + k)) ≡ true
unfolding tables full_folding_stepped encode same_string
marks_pass k below =
    ap (stays_passes (8192 + k)) (full_folding_stepped.gives (8192 + k))
    ∙ all_below-at (λ x. stays_passes (8192 + x) (step_value full_folding_stepped.default full_folding_stepped.steps (8192 + x))) 256 k refl below

capital_small : (c : ℕ) → is_capital c ≡ true → (192 ≤ c) × (c < 223)
capital_small c is = grind (arith, nat_tests)

stays_small : (c : ℕ) → stays c ≡ true → 256 ≤ c → (8192 ≤ c) × (c < 8448)
stays_small c is from = grind (arith, nat_tests)

pub capital_folds : (c : ℕ) → is_capital c ≡ true → encode_utf8_all (full_fold c) ≡ 195 ∷ (c - 32) ∷ []
capital_folds c is = same_string-true _ _ (held (is_capital c) _ (capitals_pass c (omega (arith, (capital_small c is).1))) is)

pub sharp_folds : encode_utf8_all (full_fold 223) ≡ 115 ∷ 115 ∷ []
unfolding tables full_folding_stepped encode same_string
sharp_folds = same_string-true _ _ (Stepped-below full_folding full_folding_stepped (λ c folding. not (c == 223) || same_string (encode_utf8_all (or_itself c folding)) (115 ∷ 115 ∷ [])) 224 refl 223 (omega arith))

pub capital_width : (c : ℕ) → is_capital c ≡ true → len_utf8 c ≡ 2
capital_width c is = grind (arith, nat_tests, capital_small c is)

mark_folds : (c : ℕ) → stays c ≡ true → 256 ≤ c → encode_utf8_all (full_fold c) ≡ map to_ascii_lowercase (encode_utf8 c)
mark_folds c is from =
    let small = stays_small c is from in
    let moved : 8192 + (c - 8192) ≡ c = omega (arith, small.0) in
    let passes = marks_pass (c - 8192) (omega (arith, small.1)) in
    same_string-true _ _ (held (stays c) _ (subst (λ (d : ℕ). stays_passes d (full_folding d) ≡ true) moved passes) is)

pub stays_folds : (c : ℕ) → stays c ≡ true → encode_utf8_all (full_fold c) ≡ map to_ascii_lowercase (encode_utf8 c)
stays_folds c is =
    elim (cases_lt c 256) [
      | inl below ↦ same_string-true _ _ (held (stays c) _ (letters_pass c below) is)
      | inr from ↦ mark_folds c is from
    ]

-- ---- the other ones

lower_high : (b : ℕ) → 128 ≤ b → to_ascii_lowercase b ≡ b
lower_high b from = grind (arith, nat_tests)

lower_cases : (a b d : Bool) (c : ℕ) → a ≡ false
    → map to_ascii_lowercase (cond a (c ∷ []) (cond b ((192 + c / 64) ∷ (128 + c % 64) ∷ []) (cond d ((224 + c / 4096) ∷ (128 + c / 64 % 64) ∷ (128 + c % 64) ∷ []) ((240 + c / 262144) ∷ (128 + c / 4096 % 64) ∷ (128 + c / 64 % 64) ∷ (128 + c % 64) ∷ []))))
    ≡ cond a (c ∷ []) (cond b ((192 + c / 64) ∷ (128 + c % 64) ∷ []) (cond d ((224 + c / 4096) ∷ (128 + c / 64 % 64) ∷ (128 + c % 64) ∷ []) ((240 + c / 262144) ∷ (128 + c / 4096 % 64) ∷ (128 + c / 64 % 64) ∷ (128 + c % 64) ∷ [])))
lower_cases true b d c e = cc
lower_cases false true d c e = λ i. lower_high (192 + c / 64) (omega arith) i ∷ lower_high (128 + c % 64) (omega arith) i ∷ []
lower_cases false false true c e = λ i. lower_high (224 + c / 4096) (omega arith) i ∷ lower_high (128 + c / 64 % 64) (omega arith) i ∷ lower_high (128 + c % 64) (omega arith) i ∷ []
lower_cases false false false c e =
    λ i. lower_high (240 + c / 262144) (omega arith) i ∷ lower_high (128 + c / 4096 % 64) (omega arith) i ∷ lower_high (128 + c / 64 % 64) (omega arith) i ∷ lower_high (128 + c % 64) (omega arith) i ∷ []

-- bytes past ASCII stay
pub lower_spelled_high : (c : ℕ) → 128 ≤ c → map to_ascii_lowercase (encode_utf8 c) ≡ encode_utf8 c
unfolding encode
lower_spelled_high c from = lower_cases (nat_lt c 128) (nat_lt c 2048) (nat_lt c 65536) c (le-ltb c 128 from)

-- one that folds to itself
pub itself_over : (c : ℕ) (table bytes : List ℕ) → table ≡ full_folding c → length table < 1 → 128 ≤ c → take (len_utf8 c) bytes ≡ map to_ascii_lowercase (encode_utf8 c)
    → bytes ≡ encode_utf8_all (full_fold c) ++ drop (len_utf8 c) bytes
itself_over c table bytes same none from lower =
    sym (take-append-drop (len_utf8 c) bytes)
    ∙ ap (λ (l : List ℕ). l ++ drop (len_utf8 c) bytes) (lower ∙ lower_spelled_high c from ∙ sym (ap encode_utf8_all (full_fold-none c table same none) ∙ append-nil (encode_utf8 c)))

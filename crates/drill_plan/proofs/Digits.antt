-- Names of a letter and a digit.
use Rattle.std.proofs.Common.{◌≡◌, ℕ, zero, suc, ◌+◌, ◌<◌, List, [], ◌∷◌, ◌++◌, length, IsTrue, refl, arith}
use Rattle.std.specs.List.{list_all}
use Rattle.std.specs.Prelude.{decimal}
use Rattle.std.proofs.lemmas.Fmt.{decimal_digit}
use Rattle.news_types.specs.Names.{is_name, is_name_byte}

-- a digit may stand in a name
digit_is_name_byte : (n : ℕ) → n < 10 → IsTrue (is_name_byte (48 + n))
digit_is_name_byte zero h = refl
digit_is_name_byte (suc zero) h = refl
digit_is_name_byte (suc (suc zero)) h = refl
digit_is_name_byte (suc (suc (suc zero))) h = refl
digit_is_name_byte (suc (suc (suc (suc zero)))) h = refl
digit_is_name_byte (suc (suc (suc (suc (suc zero))))) h = refl
digit_is_name_byte (suc (suc (suc (suc (suc (suc zero)))))) h = refl
digit_is_name_byte (suc (suc (suc (suc (suc (suc (suc zero))))))) h = refl
digit_is_name_byte (suc (suc (suc (suc (suc (suc (suc (suc zero)))))))) h = refl
digit_is_name_byte (suc (suc (suc (suc (suc (suc (suc (suc (suc zero))))))))) h = refl
digit_is_name_byte (suc (suc (suc (suc (suc (suc (suc (suc (suc (suc n)))))))))) h = let none : ⊥ = omega arith in absurd none

both_letters : (b c : ℕ) → IsTrue (is_name_byte b) → IsTrue (is_name_byte c) → IsTrue (is_name (b ∷ c ∷ []))
both_letters b c hb hc = grind arith

one_letter : (b : ℕ) → IsTrue (list_all is_name_byte (b ∷ [])) → IsTrue (is_name_byte b)
one_letter b h = grind arith

-- a letter and a digit are a name
pub is_name-numbered : (letter : List ℕ) (n : ℕ) → length letter ≡ 1 → IsTrue (list_all is_name_byte letter) → n < 10 → IsTrue (is_name (letter ++ decimal n))
is_name-numbered [] n one small digit = let none : ⊥ = omega (arith, one) in absurd none
is_name-numbered (b ∷ []) n one small digit = rw (decimal_digit n digit) (both_letters b (48 + n) (one_letter b small) (digit_is_name_byte n digit))
is_name-numbered (b ∷ c ∷ letters) n one small digit = let none : ⊥ = omega (arith, one) in absurd none

-- A name is a text.
use Rattle.std.proofs.Common.{◌≡◌, ℕ, zero, suc, ◌<◌, ◌≤◌, true, ◌&&◌, List, [], ◌∷◌, length, arith, inl, inr}
use Rattle.std.specs.Prelude.{IsTrue, IsAscii, IsUtf8, nat_le, nat_lt}
use Rattle.std.specs.List.{list_all}
use Rattle.std.specs.Cmp.{first_so, second_so}
use Rattle.std.proofs.lemmas.Bool.{cases_lt}
use Rattle.std.proofs.lemmas.Bool.Decides.{nat_tests}
use Rattle.std.proofs.lemmas.Str.{IsUtf8-from_ascii}
use Rattle.news_types.specs.Names.{is_name, is_name_byte}

small : (b : ℕ) → is_name_byte b ≡ true → b < 128
small b e = elim (cases_lt b 128) [ inl lt ↦ lt | inr le ↦ past le ]
  where
    past : 128 ≤ b → b < 128
    past le = grind (arith, nat_tests)

all_small : (text : List ℕ) → list_all is_name_byte text ≡ true → IsAscii text
all_small [] e i = omega arith
all_small (b ∷ text) e zero = small b (first_so (is_name_byte b) (list_all is_name_byte text) e)
all_small (b ∷ text) e (suc i) = all_small text (second_so (is_name_byte b) (list_all is_name_byte text) e) i

pub name_text : (text : List ℕ) → IsTrue (is_name text) → IsUtf8 text
name_text text form = IsUtf8-from_ascii text (all_small text (second_so (nat_lt 0 (length text) && nat_le (length text) 32) (list_all is_name_byte text) form))

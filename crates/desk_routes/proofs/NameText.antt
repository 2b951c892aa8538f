-- What is no text is no name.
use Rattle.std.specs.Prelude.{◌≡◌, ℕ, List, [], ◌∷◌, Bool, true, false, cond, ◌&&◌, Option, Some, None, length, nat_lt, nat_le, IsUtf8, ◌<◌}
use Rattle.std.proofs.Common.{refl, arith}
use Rattle.std.specs.List.{list_all}
use Rattle.std.specs.Str.{IsAscii}
use Rattle.std.proofs.lemmas.Bool.{and_parts}
use Rattle.std.proofs.lemmas.Bool.Decides.{nat_tests}
use Rattle.std.proofs.lemmas.Str.{IsUtf8-from_ascii}
use Rattle.std.proofs.lemmas.Str.Ascii.{IsAscii-nil, IsAscii-cons}
use Rattle.news_types.specs.Names.{is_name_byte, is_name}
use Rattle.desk_routes.specs.Paths.{name_in}

small : (b : ℕ) → is_name_byte b ≡ true → b < 128
small b e = grind (arith, nat_tests)

letters_ascii : (bs : List ℕ) → list_all is_name_byte bs ≡ true → IsAscii bs
letters_ascii [] e = IsAscii-nil
letters_ascii (b ∷ bs) e =
    let p = and_parts (is_name_byte b) (list_all is_name_byte bs) e in
    IsAscii-cons b bs (small b p.0) (letters_ascii bs p.1)

pub no_text : (v : List ℕ) → ¬ (IsUtf8 v) → name_in v ≡ None
no_text v bad = by (is_name v) refl
  where
    by : (t : Bool) → is_name v ≡ t → cond {A = Option (List ℕ)} t (Some v) None ≡ None
    by true e = absurd (bad (IsUtf8-from_ascii v (letters_ascii v (and_parts (nat_lt 0 (length v) && nat_le (length v) 32) (list_all is_name_byte v) e).1)))
    by false e = refl

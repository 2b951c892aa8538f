-- The parts of a path, and the names and numbers that they are.
use Rattle.std.specs.Prelude.{ℕ, zero, suc, Bool, not, ◌&&◌, ◌==◌, nat_lt, nat_le, [], ◌∷◌, length, slice_index, if◌then◌else◌, Option, Some, None}
use Rattle.std.specs.List.{list_all}
use Rattle.std.specs.Char.{is_ascii_digit}
use Rattle.std.specs.Str.Parse.{digits_value}
use Rattle.news_types.specs.Names.{Bytes, is_name}

-- what stands behind the first slash
abbrev pub behind_slash : Bytes → Bytes
behind_slash [] = []
behind_slash (b ∷ path) = if b == 47 then path else behind_slash path

-- what stands before it
abbrev pub before_slash : Bytes → Bytes
before_slash [] = []
before_slash (b ∷ path) = if b == 47 then [] else b ∷ before_slash path

-- what stands behind the first n slashes
abbrev pub behind : ℕ → Bytes → Bytes
behind zero path = path
behind (suc n) path = behind_slash (behind n path)

-- the part behind the first n slashes, up to the next: of `/items/7`, part 1 is `items` and part 2 is `7`
abbrev pub part : ℕ → Bytes → Bytes
part n path = before_slash (behind n path)

-- the name that a part is
abbrev pub name_in : Bytes → Option Bytes
name_in text = if is_name text then Some text else None

-- a 0 with more behind it
abbrev pub leads_with_zero : Bytes → Bool
leads_with_zero text = nat_lt 1 (length text) && slice_index text 0 == 48

-- 1 to 10 digits, of which the first is 0 only where it stands alone
abbrev pub is_decimal : Bytes → Bool
is_decimal text =
    nat_lt 0 (length text) && nat_le (length text) 10 && list_all is_ascii_digit text && not (leads_with_zero text)

-- the number that a part is: a decimal below 4294967296
abbrev pub number_in : Bytes → Option ℕ
number_in text = if is_decimal text && nat_lt (digits_value 10 text) 4294967296 then Some (digits_value 10 text) else None

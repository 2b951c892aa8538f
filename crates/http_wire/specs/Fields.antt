-- What the header lines of a request say.
use Rattle.std.specs.Prelude.{ℕ, ◌&&◌, nat_le, nat_lt, List, [], ◌∷◌, length, Bool, Option, Some, None, if◌then◌else◌, codes}
use Rattle.std.specs.Str.{str_eq_ignore_ascii_case, bytes_eq}
use Rattle.std.specs.Str.Parse.{digits_value}
use Rattle.std.specs.Char.{is_ascii_digit}
use Rattle.std.specs.List.{list_any, list_all}
use Rattle.news_types.specs.Names.{is_name}

-- a line's name and its value without white space around it
abbrev pub Line : Type 0
Line = List ℕ × List ℕ

-- the values of the lines of that name, compared without case
abbrev pub values : List ℕ → List Line → List (List ℕ)
values name [] = []
values name (line ∷ lines) = if str_eq_ignore_ascii_case line.0 name then line.1 ∷ values name lines else values name lines

-- some line has that name
abbrev pub has_line : List ℕ → List Line → Bool
has_line name lines = nat_lt 0 (length (values name lines))

-- 1 to 10 digits
abbrev pub is_length : List ℕ → Bool
is_length value = nat_le 1 (length value) && nat_le (length value) 10 && list_all is_ascii_digit value

-- the length that the values agree on digit by digit, and 0 where there is none
abbrev pub content_length : List (List ℕ) → Option ℕ
content_length [] = Some 0
content_length (value ∷ more) = if is_length value && list_all (bytes_eq value) more then Some (digits_value 10 value) else None

-- the name that a value is
abbrev pub name_of : List ℕ → Option (List ℕ)
name_of value = if is_name value then Some value else None

-- the first value
abbrev pub first_of : List (List ℕ) → Option (List ℕ)
first_of [] = None
first_of (value ∷ more) = Some value

-- the name that the one value is: none where there is no value, or another
abbrev pub user_of : List (List ℕ) → Option (List ℕ)
user_of [] = None
user_of (value ∷ []) = name_of value
user_of (value ∷ other ∷ more) = None

-- one of these is `close`, compared without case
abbrev pub says_close : List (List ℕ) → Bool
says_close given = list_any (λ value. str_eq_ignore_ascii_case value (codes "close")) given

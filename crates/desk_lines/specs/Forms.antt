-- The forms of values.
use Rattle.std.specs.Prelude.{ℕ, List, [], ◌∷◌, length, codes, bit_or, nat_le, if◌then◌else◌, Bool, Option, Some, None, option_and_then}
use Prim.Native.String.{String}
use Rattle.serde_json.specs.Data.{Items, no_items, item}
use Rattle.serde_json.specs.Find.{as_number, as_u64, as_str, as_bool, as_array}
use Rattle.news_types.specs.Names.{Bytes, same, is_name}
use Rattle.release_rules.specs.Reader.{moment_of}
use Rattle.desk_lines.specs.Reading.{Form, count}

-- ---- numbers, flags and moments

abbrev pub up_to : ℕ → ℕ → Option ℕ
up_to most n = if nat_le n most then Some n else None

-- a whole number, at most so great
abbrev pub whole : ℕ → Form ℕ
whole most v = option_and_then (up_to most) (option_and_then as_u64 (as_number v))

abbrev pub flag : Form Bool
flag v = as_bool v

abbrev pub or_else : Option ℕ → Option ℕ → Option ℕ
or_else None other = other
or_else (Some n) other = Some n

-- the seconds since 1970, before the year 10000, or a text that names such a moment
abbrev pub moment : Form ℕ
moment v = or_else (whole 253402300799 v) (option_and_then moment_of (as_str v))

-- ---- texts and names

abbrev pub at_most : ℕ → Bytes → Option Bytes
at_most limit text = if nat_le (length text) limit then Some text else None

-- a text of any length
abbrev pub any_text : Form Bytes
any_text v = as_str v

-- a text of at most so many bytes
abbrev pub text : ℕ → Form Bytes
text limit v = option_and_then (at_most limit) (as_str v)

abbrev pub name_in : Bytes → Option Bytes
name_in text = if is_name text then Some text else None

abbrev pub name : Form Bytes
name v = option_and_then name_in (as_str v)

-- ---- lists

abbrev pub put_front : {A : Type 0} → A → Option (List A) → Option (List A)
put_front first None = None
put_front first (Some found) = Some (first ∷ found)

abbrev pub all_of : {A : Type 0} → Form A → Items → Option (List A)
all_of form no_items = Some []
all_of form (item v vs) = option_and_then (λ first. put_front first (all_of form vs)) (form v)

abbrev pub few_of : {A : Type 0} → ℕ → Form A → Items → Option (List A)
few_of limit form vs = if nat_le (count vs) limit then all_of form vs else None

-- a list of at most so many
abbrev pub list : {A : Type 0} → ℕ → Form A → Form (List A)
list limit form v = option_and_then (few_of limit form) (as_array v)

-- ---- words

infix 6 ◌means◌
abbrev pub ◌means◌ : {A : Type 0} → String → A → Bytes × A
word means a = (codes word, a)

-- the first whose word is the text
abbrev pub among : {A : Type 0} → List (Bytes × A) → Bytes → Option A
among [] text = None
among (w ∷ words) text = if same text w.0 then Some w.1 else among words text

-- one of these words
abbrev pub word : {A : Type 0} → List (Bytes × A) → Form A
word words v = option_and_then (among words) (as_str v)

abbrev pub bits_from : List (Bytes × ℕ) → ℕ → Items → Option ℕ
bits_from words bits no_items = Some bits
bits_from words bits (item v vs) = option_and_then (λ bit. bits_from words (bit_or bits bit) vs) (word words v)

-- a list of words, each with its bit
abbrev pub bits : List (Bytes × ℕ) → Form ℕ
bits words v = option_and_then (bits_from words 0) (as_array v)

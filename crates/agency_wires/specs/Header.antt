-- What a header line says: source, number, urgency and category. Word count and free text are not kept.
use Rattle.std.specs.Prelude.{ℕ, ◌-◌, Bool, false, ◌&&◌, ◌||◌, nat_le, ◌==◌, if◌then◌else◌, List, [], ◌∷◌, length, take, drop, reverse}
use Rattle.std.specs.Char.{is_ascii_digit, is_ascii_alphabetic}
use Rattle.std.specs.List.{list_all, prefix_len}
use Rattle.text7901.specs.Fields.{lead, before, behind_byte}
use Rattle.agency_wires.specs.Parts.{trim_front, trim, word, behind_word}

-- ---- the header line, and the slug part

-- The header line is the first line of what stands before STX that is not empty.
abbrev pub header_line : List ℕ → List ℕ
header_line head = before 10 (trim_front head)

-- The slug part is what stands behind that line, without the blanks at both ends.
abbrev pub slug : List ℕ → List ℕ
slug head = trim (behind_byte 10 (trim_front head))

-- ---- source and number

abbrev pub is_letter_or_digit : ℕ → Bool
is_letter_or_digit c = is_ascii_alphabetic c || is_ascii_digit c

-- how many digits a word ends with, at most 16
abbrev pub digits_at_end : List ℕ → ℕ
digits_at_end w = prefix_len is_ascii_digit (take 16 (reverse w))

abbrev pub letters_part : List ℕ → List ℕ
letters_part w = take (length w - digits_at_end w) w

abbrev pub digits_part : List ℕ → List ℕ
digits_part w = drop (length w - digits_at_end w) w

abbrev pub begins_with_letter : List ℕ → Bool
begins_with_letter [] = false
begins_with_letter (c ∷ rest) = is_ascii_alphabetic c

-- 1 to 16 characters
abbrev pub has_width : List ℕ → Bool
has_width w = nat_le 1 (length w) && nat_le (length w) 16

-- One word of letters and digits with a letter first: the digits at its end are the number, and what stands before them, 1 to 16
-- characters, is the source.
abbrev pub is_joined : List ℕ → Bool
is_joined w = list_all is_letter_or_digit w && begins_with_letter w && has_width (letters_part w) && has_width (digits_part w)

-- Two words: 1 to 16 letters are the source, 1 to 16 digits the number.
abbrev pub is_parted : List ℕ → List ℕ → Bool
is_parted first second = list_all is_ascii_alphabetic first && has_width first && list_all is_ascii_digit second && has_width second

-- the line begins with source and number
unfoldable pub has_header : List ℕ → Bool
has_header told = is_joined (word told) || is_parted (word told) (word (behind_word told))

unfoldable pub source : List ℕ → List ℕ
source told = if is_joined (word told) then letters_part (word told) else word told

unfoldable pub number : List ℕ → List ℕ
number told = if is_joined (word told) then digits_part (word told) else word (behind_word told)

-- what follows them
unfoldable pub behind_number : List ℕ → List ℕ
behind_number told = if is_joined (word told) then behind_word told else behind_word (behind_word told)

-- ---- urgency and category, in the words behind

-- one digit is an urgency
abbrev pub is_urgency : List ℕ → Bool
is_urgency [] = false
is_urgency (c ∷ []) = is_ascii_digit c
is_urgency (c ∷ d ∷ rest) = false

abbrev pub urgency_in : List ℕ → ℕ
urgency_in [] = 0
urgency_in (c ∷ []) = if is_ascii_digit c then c - 48 else 0
urgency_in (c ∷ d ∷ rest) = 0

abbrev pub is_category_letter : ℕ → Bool
is_category_letter c = is_letter_or_digit c || c == 45 || c == 47

-- The letters that a word of at most 16 letters, digits, `-` and `/` begins with, at most three. Any other word is no category.
abbrev pub category_in : List ℕ → List ℕ
category_in w = if list_all is_category_letter w && nat_le (length w) 16 then lead is_ascii_alphabetic 3 w else []

-- the first word that is not of its form ends this, so there is no category without an urgency
unfoldable pub urgency : List ℕ → ℕ
urgency rest = urgency_in (word rest)

unfoldable pub category : List ℕ → List ℕ
category rest = if is_urgency (word rest) then category_in (word (behind_word rest)) else []

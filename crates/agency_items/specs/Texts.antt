-- Texts of an item: what counts as one, where one is cut, and how several stand behind each other.
use Rattle.std.specs.Prelude.{ℕ, Bool, not, ◌&&◌, ◌||◌, ◌==◌, ◌-◌, nat_le, if◌then◌else◌, ◌++◌, length, take, drop, map, Option, Some, None, Result, Ok, Err}
use Rattle.std.specs.Char.{to_ascii_lowercase}
use Rattle.std.specs.List.{list_all, prefix_len, suffix_len}
use Rattle.std.specs.Fmt.Cut.{floor_char_boundary}
use Rattle.serde_json.specs.Data.{Data}
use Rattle.serde_json.specs.Find.{as_str}
use Rattle.news_types.specs.Names.{Bytes, same}
use Rattle.agency_items.specs.declared.fault.Property.{Property}
use Rattle.agency_items.specs.declared.fault.ItemFault.{ItemFault}
use Rattle.agency_items.specs.declared.fault.ItemFault.TheVariants.{WrongType, TooLong}
use Rattle.agency_items.specs.Names.{property}

-- ---- a text that is there

abbrev pub text_in : Property → Option Bytes → Result (Option Bytes) ItemFault
text_in p None = Err (WrongType p)
text_in p (Some bytes) = if length bytes == 0 then Ok None else Ok (Some bytes)

abbrev pub text_of : Property → Option Data → Result (Option Bytes) ItemFault
text_of p None = Ok None
text_of p (Some d) = text_in p (as_str d)

-- The text of a property, with its characters as they are. One that is empty counts as missing, so that another property may
-- stand for it: some write both.
abbrev pub text : Property → Data → Result (Option Bytes) ItemFault
text p d = text_of p (property p d)

-- a text of at most so many bytes
abbrev pub within : ℕ → Property → Bytes → Result Bytes ItemFault
within limit p bytes = if nat_le (length bytes) limit then Ok bytes else Err (TooLong p)

-- ---- cut texts

-- cut at the last whole character within 500 bytes
abbrev pub cut : Bytes → Bytes
cut bytes = if nat_le (length bytes) 500 then bytes else take (floor_char_boundary bytes 500) bytes

-- two texts with a mark between; where one is empty the other alone
abbrev pub beside : Bytes → Bytes → Bytes → Bytes
beside mark a b = if length a == 0 then b else (if length b == 0 then a else a ++ mark ++ b)

-- ---- words

-- the same word, whatever the case of its letters
abbrev pub same_word : Bytes → Bytes → Bool
same_word a b = same (map to_ascii_lowercase a) (map to_ascii_lowercase b)

abbrev pub is_no_colon : ℕ → Bool
is_no_colon b = not (b == 58)

-- what stands behind the last colon; all where there is none
abbrev pub behind_colon : Bytes → Bytes
behind_colon bytes = drop (length bytes - suffix_len is_no_colon bytes) bytes

abbrev pub is_no_semicolon : ℕ → Bool
is_no_semicolon b = not (b == 59)

-- what stands before the first semicolon; all where there is none
abbrev pub before_semicolon : Bytes → Bytes
before_semicolon bytes = take (prefix_len is_no_semicolon bytes) bytes

abbrev pub is_letter : ℕ → Bool
is_letter b = (nat_le 65 b && nat_le b 90) || (nat_le 97 b && nat_le b 122)

-- 1 to 3 letters
abbrev pub is_category : Bytes → Bool
is_category bytes = nat_le 1 (length bytes) && nat_le (length bytes) 3 && list_all is_letter bytes

-- Texts that are folded in place.
use Rattle.std.specs.Prelude.{◌≡◌, ℕ, ◌-◌, ◌≤◌, Bool, not, ◌&&◌, ◌||◌, ◌++◌, ◌==◌, map, length, take, drop, nat_le, nat_lt}
use Rattle.std.specs.Char.{to_ascii_lowercase}
use Rattle.news_types.specs.Names.{Bytes}
use Rattle.news_types.specs.Conditions.{folded}

-- the bytes have the text without its case as far as where the rest of it begins, and from there on the text in lower case by ASCII's rules
pub record IsMended (text : Bytes) (bytes : Bytes) (rest : Bytes) : Type 0 where
  pub within : length rest ≤ length text
  pub same_length : length bytes ≡ length text
  pub folded_before : take (length text - length rest) bytes ++ folded rest ≡ folded text
  pub lower_behind : drop (length text - length rest) bytes ≡ map to_ascii_lowercase rest

-- a capital of U+00C0 to U+00DE
abbrev pub is_capital : ℕ → Bool
is_capital c = nat_le 0xC0 c && nat_lt c 0xDF && not (c == 0xD7)

-- one of U+0080 to U+00FF that is no capital, no sharp s and no micro sign, or of U+2000 to U+20FF
abbrev pub stays : ℕ → Bool
stays c = nat_le 0x80 c && nat_lt c 0x100 && not (is_capital c) && not (c == 0xDF) && not (c == 0xB5) || nat_le 0x2000 c && nat_lt c 0x2100

-- The characters of some bytes of a message.
use Rattle.std.specs.Prelude.{ℕ, ◌-◌, Bool, false, ◌&&◌, ◌||◌, not, nat_le, ◌==◌, if◌then◌else◌, List, [], ◌∷◌, map, Option, Some, None, slice_index}
use Rattle.std.specs.Char.{is_control}
use Rattle.std.specs.List.{cons_option}
use Rattle.std.specs.Str.{is_utf8, chars}
use Rattle.text7901.specs.Fields.{begins_line}
use Rattle.agency_wires.specs.declared.characters.TheConstants.{UPPER_ROW}

-- A byte of Windows-1252: of 80 to 9F the row of the table, else its own number.
abbrev pub windows_1252 : ℕ → ℕ
windows_1252 b = if nat_le 128 b && nat_le b 159 then slice_index UPPER_ROW (b - 128) else b

-- UTF-8 where the bytes are UTF-8, else Windows-1252. Bytes below 80 are the same in both.
abbrev pub characters : List ℕ → List ℕ
characters bytes = if is_utf8 bytes then chars bytes else map windows_1252 bytes

-- ---- line ends and controls

-- an LF or a CR LF follows
abbrev pub joins : List ℕ → Bool
joins [] = false
joins (c ∷ rest) = c == 10 || (c == 13 && begins_line rest)

-- a CR that ends a line and an LF are LF, controls but the tab are left out
abbrev pub kept_as : ℕ → Option ℕ
kept_as c = if c == 13 || c == 10 then Some 10 else if is_control c && not (c == 9) then None else Some c

-- CR CR LF, CR LF, LF and a CR alone are line ends: of the first two, each CR belongs to the LF.
abbrev pub cleaned : List ℕ → List ℕ
cleaned [] = []
cleaned (c ∷ rest) = if c == 13 && joins rest then cleaned rest else cons_option (kept_as c) (cleaned rest)

abbrev pub decoded : List ℕ → List ℕ
decoded bytes = cleaned (characters bytes)

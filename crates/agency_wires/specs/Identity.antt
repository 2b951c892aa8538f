-- What tells one message of a provider from another.
use Rattle.std.specs.Prelude.{ℕ, ◌-◌, nat_eq, if◌then◌else◌, List, ◌++◌, length, take, drop, codes}
use Rattle.std.specs.Char.{is_ascii_digit}
use Rattle.std.specs.List.{list_any, ends_with}
use Rattle.release_rules.specs.Writer.{moment_text}
use Rattle.text7901.specs.Fields.{fitting}
use Rattle.agency_wires.specs.Parts.{trim}
use Rattle.agency_wires.specs.Header.{source, number}

-- without the letters `NNNN` at the end
abbrev pub without_end : List ℕ → List ℕ
without_end told = if ends_with nat_eq told (codes "NNNN") then take (length told - 4) told else told

-- the post-text information without the blanks at its ends and without `NNNN`
unfoldable pub told_info : List ℕ → List ℕ
told_info info = trim (without_end (trim info))

-- the day in UTC as eight digits, of `YYYY-MM-DDThh:mm:ssZ`
abbrev pub day_of : List ℕ → List ℕ
day_of moment = take 4 moment ++ take 2 (drop 5 moment) ++ take 2 (drop 8 moment)

unfoldable pub day_word : ℕ → List ℕ
day_word day = day_of (moment_text day)

-- where post-text information has no digit, numbers begin anew each day, so the day of the reading stands in its place
unfoldable pub dated : List ℕ → ℕ → List ℕ
dated info day = if list_any is_ascii_digit (told_info info) then told_info info else day_word day

-- source, number, `@` and that
unfoldable pub named : List ℕ → List ℕ → ℕ → List ℕ
named line info day = source line ++ number line ++ codes "@" ++ dated info day

-- as UTF-8, cut at the last whole character within 256 bytes
unfoldable pub identity : List ℕ → List ℕ → ℕ → List ℕ
identity line info day = fitting 256 (named line info day)

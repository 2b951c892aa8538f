-- What becomes of one character of a message.
use Rattle.std.specs.Prelude.{ℕ, ◌&&◌, ◌==◌, if◌then◌else◌, List, []}
use Rattle.std.specs.Option.{option_to_list}
use Rattle.agency_wires.specs.Characters.{joins, kept_as}

-- a character that these follow: nothing of a CR that belongs to an LF behind it
abbrev pub kept_before : ℕ → List ℕ → List ℕ
kept_before c rest = if c == 13 && joins rest then [] else option_to_list (kept_as c)

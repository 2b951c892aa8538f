-- What a head asks for.
use Rattle.std.specs.Prelude.{ℕ, List, length, map, Bool, ◌==◌, ◌||◌, nat_lt, Option, Some, None, if◌then◌else◌, codes}
use Rattle.httparse.specs.Grammar.{RequestHead}
use Rattle.httparse.specs.Spans.{name_and_value}
use Rattle.http_wire.specs.Limits.{most_fields, most_body}
use Rattle.http_wire.specs.Fields.{Line, values, has_line, content_length, user_of, says_close}

-- the lines of a head: names, and values without white space around them
abbrev pub lines : RequestHead → List Line
lines head = map name_and_value head.fields

-- what a head's lines say of its body: it comes in a coding, or its length is not of the form, or there is too much, or it has so many bytes
pub data Says : Type 0 where
  coded bad_length too_much : Says
  of_length : ℕ → Says

-- so many lines, and that length, if it is of the form
abbrev pub by_length : ℕ → Option ℕ → Says
by_length count None = bad_length
by_length count (Some n) = if nat_lt most_fields count || nat_lt most_body n then too_much else of_length n

-- a coding first, whatever its value, then a length that is not of the form, then a line or a byte too many
abbrev pub says : List Line → Says
says ls = if has_line (codes "transfer-encoding") ls then coded else by_length (length ls) (content_length (values (codes "content-length") ls))

-- who asks
abbrev pub asker : List Line → Option (List ℕ)
asker ls = user_of (values (codes "x-user") ls)

-- HTTP/1.0, or a line that says so
abbrev pub closes_after : ℕ → List Line → Bool
closes_after minor ls = minor == 0 || says_close (values (codes "connection") ls)

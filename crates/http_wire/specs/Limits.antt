-- How much of a connection is looked at and held.
use Rattle.std.specs.Prelude.{ℕ, List, take}

-- the bytes of a head
abbrev pub most_head : ℕ
most_head = 16384

-- the header lines that a head of so many bytes can have, since each has at least three
abbrev pub most_lines : ℕ
most_lines = 5461

-- the header lines of a request
abbrev pub most_fields : ℕ
most_fields = 64

-- the bytes of a body
abbrev pub most_body : ℕ
most_body = 4194304

-- the bytes that are asked of a source at once
abbrev pub most_read : ℕ
most_read = 4096

-- the bytes that are held of a connection: a head, a body, and what one read brings
abbrev pub most_held : ℕ
most_held = 4214784

-- as far as a head is looked for
abbrev pub front : List ℕ → List ℕ
front input = take most_head input

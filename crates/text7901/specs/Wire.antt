-- What a whole input of the wire has: each SOH begins one member, a story or a fault.
use Rattle.std.specs.Prelude.{ℕ, ◌+◌, ◌-◌, ◌||◌, nat_lt, ◌==◌, if◌then◌else◌, min, List, [], ◌∷◌, length, take, Option, Some, None}
use Rattle.text7901.specs.declared.found.What.{What}
use Rattle.text7901.specs.declared.found.What.TheVariants.{NoHeader, NoText, NoEnd, TooLong}
use Rattle.text7901.specs.declared.found.Found.{Found}
use Rattle.text7901.specs.declared.found.Found.TheVariants.{Story, Fault}
use Rattle.text7901.specs.Fields.{letter, digit, past, incoming}

-- the bytes before the first SOH
abbrev pub chunk : List ℕ → List ℕ
chunk [] = []
chunk (b ∷ bytes) = if b == 1 then [] else b ∷ chunk bytes

-- what begins with the first of two bytes
abbrev pub from_first : ℕ → ℕ → List ℕ → List ℕ
from_first x y [] = []
from_first x y (b ∷ bytes) = if b == x || b == y then b ∷ bytes else from_first x y bytes

-- ---- where a message ends

-- What a message comes to, and how many of its bytes are left from the one on that shows it. None is a whole message.
pub record End : Type 0 where
  pub what : Option What
  pub left : ℕ

abbrev pub fault : What → List ℕ → End
fault w rest = record { what = Some w; left = length rest }

-- post-text information ends at EOT
abbrev pub end_of_info : List ℕ → End
end_of_info bytes = record { what = None; left = length (from_first 4 4 bytes) }

-- a text ends at ETX
abbrev pub end_at_etx : List ℕ → End
end_at_etx [] = fault NoEnd []
end_at_etx (b ∷ rest) = if b == 3 then end_of_info rest else fault NoEnd (b ∷ rest)

abbrev pub end_of_text : List ℕ → End
end_of_text bytes = end_at_etx (from_first 3 4 bytes)

-- header line and slug part end at STX
abbrev pub end_at_stx : List ℕ → End
end_at_stx [] = fault NoText []
end_at_stx (b ∷ rest) = if b == 2 then end_of_text rest else fault NoText (b ∷ rest)

abbrev pub end_of_head : List ℕ → End
end_of_head bytes = end_at_stx (from_first 2 4 bytes)

-- the number has at least one digit
abbrev pub end_of_number : List ℕ → End
end_of_number bytes = if length (past digit 8 bytes) == length bytes then fault NoHeader bytes else end_of_head (past digit 8 bytes)

-- the source has at least one letter
abbrev pub end_of : List ℕ → End
end_of bytes = if length (past letter 8 bytes) == length bytes then fault NoHeader bytes else end_of_number (past letter 8 bytes)

-- ---- members

abbrev pub said_of : ℕ → List ℕ → Option What → ℕ → Found
said_of at bytes None end = Story (incoming (take end bytes))
said_of at bytes (Some w) end = Fault (at + 1 + end) w

-- how many bytes behind its SOH a message has: the EOT of a whole one is among them
abbrev pub size_of : Option What → ℕ → ℕ → ℕ
size_of None left end = end + min 1 left
size_of (Some w) left end = end

-- what the bytes behind a SOH at this place are. A message has at most 131072 bytes from its SOH on.
abbrev pub judged : ℕ → List ℕ → Option What → ℕ → ℕ → Found
judged at bytes what left end = if nat_lt 131071 (size_of what left end) then Fault (at + 131072) TooLong else said_of at bytes what end

abbrev pub member_by : ℕ → List ℕ → End → Found
member_by at bytes e = judged at bytes e.what e.left (length bytes - e.left)

abbrev pub member : ℕ → List ℕ → Found
member at bytes = member_by at bytes (end_of bytes)

-- ---- the whole input

-- each SOH begins a message, up to the next SOH or the end
abbrev pub wire_from : ℕ → List ℕ → List Found
wire_from at [] = []
wire_from at (b ∷ bytes) = if b == 1 then member at (chunk bytes) ∷ wire_from (at + 1) bytes else wire_from (at + 1) bytes

abbrev pub wire : List ℕ → List Found
wire bytes = wire_from 0 bytes

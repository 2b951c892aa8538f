-- The messages of a whole input, and where each ends. SOH is 1, STX 2, ETX 3 and EOT 4.
use Rattle.std.specs.Prelude.{ℕ, zero, suc, ◌+◌, Bool, true, false, ◌&&◌, ◌||◌, nat_lt, ◌==◌, if◌then◌else◌, List, [], ◌∷◌, length, codes}
use Rattle.agency_wires.specs.declared.found.Found.{Found}
use Rattle.agency_wires.specs.declared.found.Found.TheVariants.{Message, TooLong}

-- a SOH or an EOT
abbrev pub ends_message : ℕ → Bool
ends_message b = b == 1 || b == 4

-- CR or LF
abbrev pub ends_line : ℕ → Bool
ends_line b = b == 13 || b == 10

-- what stands before the first SOH or EOT: all where there is none
abbrev pub before_end : List ℕ → List ℕ
before_end [] = []
before_end (b ∷ bytes) = if ends_message b then [] else b ∷ before_end bytes

-- ---- a line `NNNN` behind ETX ends a message

-- so many letters N, and then the line ends
abbrev pub is_mark : ℕ → List ℕ → Bool
is_mark n [] = false
is_mark zero (b ∷ bytes) = ends_line b
is_mark (suc n) (b ∷ bytes) = b == 78 && is_mark n bytes

-- Post-text information up to the letters of a line `NNNN`: all where there is none. The flag says whether a line begins here.
abbrev pub up_to_mark : Bool → List ℕ → List ℕ
up_to_mark begins [] = []
up_to_mark begins (b ∷ bytes) = if begins && is_mark 4 (b ∷ bytes) then codes "NNNN" else b ∷ up_to_mark (ends_line b) bytes

-- from a text on: ETX ends it, and a line begins behind ETX
abbrev pub from_text : List ℕ → List ℕ
from_text [] = []
from_text (b ∷ bytes) = b ∷ (if b == 3 then up_to_mark true bytes else from_text bytes)

-- from a header on: STX begins the text
abbrev pub from_head : List ℕ → List ℕ
from_head [] = []
from_head (b ∷ bytes) = b ∷ (if b == 2 then from_text bytes else from_head bytes)

-- the bytes of the message that begins before these
abbrev pub message : List ℕ → List ℕ
message bytes = from_head (before_end bytes)

-- ---- the whole input

-- a message with its place, at most 1048576 bytes. A longer one shows at the first byte for which it has no room.
abbrev pub found_at : ℕ → List ℕ → Found
found_at at told = if nat_lt 1_048_576 (length told) then TooLong (at + 1_048_577) else Message at told

-- each SOH begins one, and reading goes on at the next SOH
abbrev pub messages_from : ℕ → List ℕ → List Found
messages_from at [] = []
messages_from at (b ∷ bytes) = if b == 1 then found_at at (message bytes) ∷ messages_from (at + 1) bytes else messages_from (at + 1) bytes

abbrev pub messages : List ℕ → List Found
messages bytes = messages_from 0 bytes

-- Where bytes are no log.
use Rattle.std.specs.Prelude.{ℕ, zero, suc, ◌+◌, List, [], ◌∷◌, length, take, drop, codes, Bool, ◌&&◌, ◌||◌, ◌==◌, nat_lt, if◌then◌else◌, Option, Some, None, slice_index}
use Rattle.std.specs.Option.{option_or}
use Rattle.news_types.specs.Names.{is_name_byte}
use Rattle.news_journal.specs.Log.{Reading, Holding, Broken, reading}

-- the bytes with which every header begins
abbrev pub start : List ℕ
start = codes "NEWSDESK"

-- whether a byte may stand at a place of a header of this kind, behind that byte: the editions are 1 and 2, and so are the kinds;
-- behind them a room has six bytes of a base and its store's identifier, and a receiver has zeros and then its name
abbrev pub may_stand : ℕ → ℕ → ℕ → ℕ → Bool
may_stand kind place before byte =
    if nat_lt place 8 then byte == slice_index start place
    else if nat_lt place 10 then (byte == 1 || byte == 2)
    else if nat_lt place 32 then (kind == 1 || byte == 0)
    else if kind == 1 then byte == 0
    else if place == 32 then is_name_byte byte
    else (byte == 0 || (nat_lt 0 before && is_name_byte byte))

-- the first of so many places from this one on whose byte is missing or may not stand there, with that byte
unfoldable pub misfit : ℕ → ℕ → ℕ → ℕ → List ℕ → Option (ℕ × Option ℕ)
misfit kind place before zero bytes = None
misfit kind place before (suc n) [] = Some (place, None)
misfit kind place before (suc n) (byte ∷ bytes) =
    if may_stand kind place before byte then misfit kind (place + 1) byte n bytes else Some (place, Some byte)

-- the first of the 64 bytes of a header that is missing or not of the form
unfoldable pub header_damage : List ℕ → Option (ℕ × Option ℕ)
header_damage bytes = misfit (slice_index bytes 9) 0 0 64 bytes

abbrev pub damage_of : Reading → Option (ℕ × Option ℕ)
damage_of (Holding rs) = None
damage_of (Broken at found) = Some (at, found)

-- the place that shows that a file is no log, with its byte: the first in the header, and else the first behind it
unfoldable pub damage : List ℕ → Option (ℕ × Option ℕ)
damage file = option_or (header_damage (take 64 file)) (damage_of (reading (length file) 64 (drop 64 file)))

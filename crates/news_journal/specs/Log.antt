-- The bytes of a log: a header, and then records, each behind a gate.
use Rattle.std.specs.Prelude.{◌≡◌, ◌⊎◌, ℕ, zero, suc, ◌+◌, ◌-◌, ◌≤◌, ◌^◌, List, [], ◌∷◌, ◌++◌, length, take, drop, map, replicate, codes, Bool, true, false, ◌&&◌, ◌==◌, nat_le, nat_lt, if◌then◌else◌, Option, Some, None, IsTrue, slice_get, slice_index}
use Rattle.std.specs.Int.{w32, to_be_bytes, from_be_bytes}
use Rattle.news_types.specs.Names.{Bytes, is_name}
use Rattle.news_journal.specs.declared.header.Header.{Header}
use Rattle.news_journal.specs.declared.header.Header.TheVariants.{Room, Receiver}

-- what every header's parts are: an identifier of 16 bytes, or a name
abbrev pub IsOfForm : Header → Type 0
IsOfForm (Room store) = length store ≡ 16
IsOfForm (Receiver name) = IsTrue (is_name name)

-- the header of a room: NEWSDESK, the edition, the kind 1, six bytes that say how many entries of the list stand before the first record, the store's identifier, and zeros
unfoldable pub room_head : ℕ → List ℕ → Bytes → List ℕ
room_head edition base store = codes "NEWSDESK" ++ edition ∷ 1 ∷ (base ++ (store ++ replicate 32 0))

-- whose log it is, by its header: the store's identifier in a room's, and a receiver's header as a whole
abbrev pub owner_in : List ℕ → Bytes
owner_in head = if slice_index head 9 == 1 then take 16 (drop 16 head) else head

-- the header of a receiver: NEWSDESK, the edition, the kind 2, zeros, and the name filled with zeros
unfoldable pub receiver_head : ℕ → Bytes → List ℕ
receiver_head edition name = codes "NEWSDESK" ++ edition ∷ 2 ∷ (replicate 22 0 ++ (name ++ replicate (32 - length name) 0))

-- the editions that are read
abbrev pub IsEdition : ℕ → Type 0
IsEdition edition = (edition ≡ 1) ⊎ (edition ≡ 2)

-- these 64 bytes are this header, in some edition; a room's, with some base
abbrev pub IsHead : Header → List ℕ → Type 0
IsHead (Room store) bytes = (edition : ℕ) × (base : List ℕ) × IsEdition edition × (length base ≡ 6) × (bytes ≡ room_head edition base store)
IsHead (Receiver name) bytes = (edition : ℕ) × IsEdition edition × (bytes ≡ receiver_head edition name)

-- the header that a new log is given: edition 2, and a room's with no entry before its first record
abbrev pub header_bytes : Header → List ℕ
header_bytes (Room store) = room_head 2 (replicate 6 0) store
header_bytes (Receiver name) = receiver_head 2 name

-- what stands behind a header: records, each with the place of its gate; or the place of the first damage, with the byte there
pub data Reading : Type 0 where
  Holding : List (ℕ × List ℕ) → Reading
  Broken : ℕ → Option ℕ → Reading

abbrev pub with_first : ℕ × List ℕ → Reading → Reading
with_first r (Holding rs) = Holding (r ∷ rs)
with_first r (Broken at found) = Broken at found

-- the length that stands behind an open gate
unfoldable pub span : List ℕ → ℕ
span rest = from_be_bytes w32 (take 4 rest)

-- the length is whole and in bounds, and the next gate is inside the file and the limit
unfoldable pub has_record : ℕ → List ℕ → Bool
has_record at rest = nat_le 4 (length rest) && (nat_le (span rest) 4194304 && (nat_lt (4 + span rest) (length rest) && nat_lt (at + 5 + span rest) (2 ^ 30)))

-- the records from the gate at this place on, at most this many
unfoldable pub reading : ℕ → ℕ → List ℕ → Reading
reading zero at bytes = Broken at (slice_get bytes 0)
reading (suc n) at [] = Broken at None
reading (suc n) at (gate ∷ rest) =
    if gate == 1
    then (if has_record at rest
    then with_first (at, take (span rest) (drop 4 rest)) (reading n (at + 5 + span rest) (drop (4 + span rest) rest))
    else Broken (at + 1) (slice_get rest 0))
    else Holding []

abbrev pub payloads_of : Reading → Option (List (List ℕ))
payloads_of (Holding rs) = Some (map (λ (r : ℕ × List ℕ). r.1) rs)
payloads_of (Broken at found) = None

abbrev pub starts_with : List ℕ → List ℕ → Bool
starts_with [] bytes = true
starts_with (x ∷ xs) [] = false
starts_with (x ∷ xs) (y ∷ ys) = (x == y) && starts_with xs ys

-- the payloads of a log with this header, if the bytes are one
unfoldable pub opened : List ℕ → List ℕ → Option (List (List ℕ))
opened header bytes =
    if starts_with header bytes then payloads_of (reading (length bytes) (length header) (drop (length header) bytes)) else None

-- open records of these payloads
abbrev pub records : List (List ℕ) → List ℕ
records [] = []
records (p ∷ ps) = 1 ∷ to_be_bytes w32 (length p) ++ (p ++ records ps)

abbrev pub AllFit : List (List ℕ) → Type 0
AllFit [] = Unit {0}
AllFit (p ∷ ps) = (length p ≤ 4194304) × AllFit ps

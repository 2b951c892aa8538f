-- One list in two files: a log, and beside it a side that holds a packed front of the list, in segments.
use Rattle.std.specs.Prelude.{◌≡◌, ◌≢◌, ◌⊎◌, ℕ, ◌+◌, ◌≤◌, ◌<◌, List, [], ◌∷◌, ◌++◌, length, take, drop, codes, replicate, slice_index, Option, Some, None}
use Rattle.std.specs.Int.{w64, bytes_high_first, from_be_bytes}
use Rattle.news_types.specs.Names.{Bytes}
use Rattle.news_journal.specs.Log.{room_head, IsEdition, opened}
use Rattle.news_journal.specs.Stands.{listed}
use Rattle.news_pair.specs.Segments.{segment_in}

-- ---- headers

-- of the side of a store: NEWSDESK, the edition 1, the kind 3, zeros, the store's identifier, and zeros
unfoldable pub side_head : Bytes → List ℕ
side_head store = codes "NEWSDESK" ++ 1 ∷ 3 ∷ (replicate 6 0 ++ (store ++ replicate 32 0))

abbrev pub edition_of : List ℕ → ℕ
edition_of log = slice_index log 8

-- the six bytes of a log that say how many entries of the list stand before its first record
abbrev pub base_bytes : List ℕ → List ℕ
base_bytes log = take 6 (drop 10 log)

-- as a number
unfoldable pub number : List ℕ → ℕ
number bytes = from_be_bytes w64 (0 ∷ 0 ∷ bytes)

abbrev pub base_of : List ℕ → ℕ
base_of log = number (base_bytes log)

-- the lowest six bytes of a number, the highest first
unfoldable pub six : ℕ → List ℕ
six n = bytes_high_first 6 n

-- a room's log without a record, whatever its base
pub record HasNoRecord (store : Bytes) (log : List ℕ) : Type 0 where
  pub edition : ℕ
  pub is_edition : IsEdition edition
  pub base : List ℕ
  pub six_long : length base ≡ 6
  pub gate : ℕ
  pub closed : gate ≢ 1
  pub rest : List ℕ
  pub is : log ≡ room_head edition base store ++ gate ∷ rest

-- ---- the side

-- a side that stands for no segment: it has no room for a header and a gate, or its first byte is not N
abbrev pub IsBare : List ℕ → Type 0
IsBare side = (length side < 65) ⊎ (slice_index side 0 ≢ 78)

-- these payloads are segments, each with the number of the entries before it
abbrev pub AreSegments : ℕ → List Bytes → Type 0
AreSegments n [] = Unit {0}
AreSegments n (p ∷ ps) = (es : List Bytes) × (segment_in p ≡ Some (n, es)) × AreSegments (n + length es) ps

abbrev pub entries_of : Option (ℕ × List Bytes) → List Bytes
entries_of (Some s) = s.1
entries_of None = []

-- the payloads of their entries, one behind the other
abbrev pub packed_by : List Bytes → List Bytes
packed_by [] = []
packed_by (p ∷ ps) = entries_of (segment_in p) ++ packed_by ps

-- the payloads of the entries that a side of this store holds, and none where it holds no segment
abbrev pub packed_in : Bytes → List ℕ → List Bytes
packed_in store side = packed_by (listed (opened (side_head store) side))

-- a side of this store with these segments
pub record IsSideFile (store : Bytes) (side : List ℕ) : Type 0 where
  pub segments : List Bytes
  pub is : opened (side_head store) side ≡ Some segments
  pub are : AreSegments 0 segments

-- a side in the making: it stands for no segment, or is a side without one
abbrev pub IsSideInTheMaking : Bytes → List ℕ → Type 0
IsSideInTheMaking store side = IsBare side ⊎ ((rest : List ℕ) × (side ≡ side_head store ++ 0 ∷ rest))

-- ---- the list of both

-- behind a side with the entries g, a log with the base b and the records p: the list is h
pub record Follows (b : ℕ) (g p h : List Bytes) : Type 0 where
  pub within : b ≤ length g
  pub front : take (length g) h ≡ g
  pub count : length h ≡ b + length p
  pub behind : drop b h ≡ p

-- a log without a record adds nothing to the side, whatever its base
abbrev pub Joined : ℕ → List Bytes → List Bytes → List Bytes → Type 0
Joined b g [] h = h ≡ g
Joined b g (x ∷ p) h = Follows b g (x ∷ p) h

-- the two files of this store open to this list of payloads
pub record PairOpens (store : Bytes) (log side : List ℕ) (h : List Bytes) : Type 0 where
  pub side_is : IsBare side ⊎ IsSideFile store side
  pub bare : IsBare side → base_of log ≡ 0
  pub edition : IsEdition (edition_of log)
  pub tail : List Bytes
  pub log_is : opened (room_head (edition_of log) (base_bytes log) store) log ≡ Some tail
  pub joined : Joined (base_of log) (packed_in store side) tail h

-- what opening them finds: a list, or none
abbrev pub PairFinds : Bytes → List ℕ → List ℕ → Option (List Bytes) → Type 0
PairFinds store log side (Some h) = PairOpens store log side h
PairFinds store log side None = (h : List Bytes) → PairOpens store log side h → ⊥

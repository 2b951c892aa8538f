-- The list to which the bytes of a log and of its side open.
use Rattle.std.specs.Prelude.{◌≡◌, ◌≢◌, ◌⊎◌, ℕ, ◌+◌, ◌≤◌, ◌<◌, List, [], ◌∷◌, ◌++◌, length, take, drop, map, codes, replicate, slice_index, Some}
use Rattle.std.specs.Int.{w64, from_be_bytes}
use Rattle.news_types.specs.declared.entry.Entry.{Entry}
use Rattle.news_types.specs.Names.{Bytes}
use Rattle.news_types.specs.History.{History}
use Rattle.news_types.specs.Doubt as doubt
use Rattle.byte_formats.specs.Lawful.{IsBytes}
use Rattle.entry_codec.specs.Spelling.{entry_bytes}
use Rattle.entry_segments.specs.Segment.{segment, IsSegment}
use Rattle.news_io.specs.Outside.{Files}
use Rattle.news_journal.specs.Log.{room_head, IsEdition, opened}
use Rattle.news_room.specs.Log.{IsStored}

-- ---- lists

-- the payloads of a list's records, the oldest first
abbrev pub payloads : History → List Bytes
payloads list = doubt.payloads entry_bytes list

-- the bytes that a list takes of a log: a header and a gate, and of each entry its length, its payload and a gate
abbrev pub size_of : History → ℕ
size_of [] = 65
size_of (e ∷ list) = length (entry_bytes e) + 5 + size_of list

-- ---- headers

-- of the side of a store: NEWSDESK, the edition 1, the kind 3, zeros, the store's identifier, and zeros
unfoldable pub side_head : Bytes → List ℕ
side_head store = codes "NEWSDESK" ++ 1 ∷ 3 ∷ (replicate 6 0 ++ (store ++ replicate 32 0))

abbrev pub edition_of : List ℕ → ℕ
edition_of log = slice_index log 8

-- the six bytes of a log that say how many entries of the list stand before its first record
abbrev pub base_bytes : List ℕ → List ℕ
base_bytes log = take 6 (drop 10 log)

unfoldable pub base_of : List ℕ → ℕ
base_of log = from_be_bytes w64 (0 ∷ 0 ∷ base_bytes log)

-- ---- the side

-- a side that stands for no segment: it has no room for a header and a gate, or its first byte is not N
abbrev pub IsBare : List ℕ → Type 0
IsBare side = (length side < 65) ⊎ (slice_index side 0 ≢ 78)

-- these records of a side are segments, one behind the other, of these payloads; so many entries stand before them
abbrev pub AreSegments : ℕ → List Bytes → List Bytes → Type 0
AreSegments n [] packed = packed ≡ []
AreSegments n (p ∷ ps) packed = (es : List Entry) × (later : List Bytes) × IsSegment n es × (p ≡ segment n es)
    × (packed ≡ map entry_bytes es ++ later) × AreSegments (n + length es) ps later

-- a side of this store holds these payloads; one that stands for no segment holds none
abbrev pub SideHolds : Bytes → List ℕ → List Bytes → Type 0
SideHolds store side packed = (IsBare side × (packed ≡ []))
    ⊎ ((records : List Bytes) × (opened (side_head store) side ≡ Some records) × AreSegments 0 records packed)

-- ---- both

-- behind a side with these payloads, a log with this base and these records: the payloads are these
pub record Follows (base : ℕ) (packed records all : List Bytes) : Type 0 where
  pub within : base ≤ length packed
  pub front : take (length packed) all ≡ packed
  pub count : length all ≡ base + length records
  pub behind : drop base all ≡ records

-- a log without a record adds nothing to the side, whatever its base
abbrev pub Joined : ℕ → List Bytes → List Bytes → List Bytes → Type 0
Joined base packed [] all = all ≡ packed
Joined base packed (r ∷ records) all = Follows base packed (r ∷ records) all

-- the two files of this store hold these payloads
pub record Holds (log side : List ℕ) (store : Bytes) (all : List Bytes) : Type 0 where
  pub packed : List Bytes
  pub side_is : SideHolds store side packed
  pub bare : IsBare side → base_of log ≡ 0
  pub edition : IsEdition (edition_of log)
  pub records : List Bytes
  pub log_is : opened (room_head (edition_of log) (base_bytes log) store) log ≡ Some records
  pub joined : Joined (base_of log) packed records all

-- the files are a log of this store and its side, and what they hold is the list: each entry is within the limits, and
-- one that may follow
pub record Opens (log side : List ℕ) (store : Bytes) (list : History) : Type 0 where
  pub holds : Holds log side store (payloads list)
  pub stored : IsStored list

-- the bytes of a log and of its side open to the list
abbrev pub OpenTo : Bytes → Files → History → Type 0
OpenTo store files list = Opens files.0 files.1 store list

-- the numbers of both files are bytes, as those of every file are
abbrev pub AreBytes : Files → Type 0
AreBytes files = IsBytes files.0 × IsBytes files.1

-- whatever the ones hold, the others do, where these are bytes
abbrev pub HoldsWith : Bytes → Files → Files → Type 0
HoldsWith store files others = (all : List Bytes) → AreBytes others → Holds files.0 files.1 store all
    → Holds others.0 others.1 store all

-- both hold the same payloads, or none
abbrev pub OpenAlike : Bytes → Files → Files → Type 0
OpenAlike store files others = HoldsWith store files others × HoldsWith store others files

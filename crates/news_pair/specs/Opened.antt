-- What the two files of a store are read as.
use Rattle.std.specs.Prelude.{◌≡◌, ◌≢◌, ℕ, ◌+◌, ◌-◌, ◌≤◌, ◌<◌, List, [], ◌∷◌, ◌++◌, length, take, drop, slice_index, true, false, Option, Some, None, Result, Ok, Err}
use Rattle.std.specs.Option.{option_or}
use Rattle.news_types.specs.Names.{Bytes}
use Rattle.news_io.specs.declared.record.Record.{Record}
use Rattle.news_journal.specs.Log.{records, AllFit}
use Rattle.news_journal.specs.Opened.{payloads, places}
use Rattle.news_journal.specs.Damage.{header_damage}
use Rattle.news_journal.specs.declared.header.Header.{Header}
use Rattle.news_journal.specs.declared.header.Header.TheVariants.{Room, Receiver}
use Rattle.news_pair.specs.Pair.{side_head, IsBare, AreSegments, packed_by, packed_in, Joined, PairOpens}
use Rattle.news_pair.specs.Stands.{IsRoomHead, SideStands}
use Rattle.news_pair.specs.Damage.{Framed, other_kind}
use Rattle.news_pair.specs.declared.fault.PairFault.{PairFault}
use Rattle.news_pair.specs.declared.fault.PairFault.TheVariants.{Damaged}
use Rattle.news_pair.specs.declared.loaded.Loaded.{Loaded}
use Rattle.news_pair.specs.declared.room_heading.RoomHead.{RoomHead}
use Rattle.news_pair.specs.declared.side_reading.SideLog.{SideLog}

-- ---- the log

-- of the first 64 bytes: the header of a room's log, or the place that shows that they are none
abbrev pub RoomHeadAs : List ℕ → Result RoomHead PairFault → Type 0
RoomHeadAs bytes (Ok head) = (option_or (header_damage bytes) (other_kind (slice_index bytes 9)) ≡ None) × (head.bytes ≡ bytes) × IsRoomHead head.bytes head.store head.base
RoomHeadAs bytes (Err (Damaged at found)) = option_or (header_damage bytes) (other_kind (slice_index bytes 9)) ≡ Some (at, found)
RoomHeadAs bytes (Err e) = ⊥

-- the file from its first gate on is these records, behind this header, and a gate that is closed
pub record IsRecordFile (head : List ℕ) (gate : ℕ) (ps : List Bytes) (file : List ℕ) : Type 0 where
  pub fit : AllFit ps
  pub place : gate ≡ length (head ++ records ps)
  pub byte : ℕ
  pub closed : byte ≢ 1
  pub rest : List ℕ
  pub is : file ≡ (head ++ records ps) ++ byte ∷ rest

-- ---- the side

-- what stands beside a log: no segment, or a side of this store
abbrev pub SideAs : Bytes → List ℕ → Option SideLog → Type 0
SideAs store file None = IsBare file
SideAs store file (Some found) = IsRecordFile (side_head store) found.gate (payloads found.records.items) file

-- its records, or nothing where it stands for no segment
abbrev pub places_of : Option SideLog → Option (List Framed)
places_of None = None
places_of (Some found) = Some (places found.records.items)

-- the payloads of its segments
abbrev pub segments_of : Option SideLog → List Bytes
segments_of None = []
segments_of (Some found) = payloads found.records.items

abbrev pub end_of : Option SideLog → ℕ
end_of None = 0
end_of (Some found) = found.gate

abbrev pub BareBase : Option SideLog → ℕ → Type 0
BareBase None base = base ≡ 0
BareBase (Some found) base = Unit {0}

-- ---- both

-- the log, as a crash leaves it, and each outcome of the side open to the list to which these files open
abbrev pub OpensStill : List ℕ → List ℕ → (List ℕ → Type 0) → List ℕ → Type 0
OpensStill log side may_leave c = (s : List ℕ) → may_leave s → (store : Bytes) → length store ≡ 16 → (h : List Bytes) → PairOpens store log side h → PairOpens store c s h

-- these are the records of a pair with this header, which the two files open to
abbrev pub OpensAs : Header → List Record → List ℕ → List ℕ → Type 0
OpensAs (Room store) rs log side = PairOpens store log side (payloads rs)
OpensAs (Receiver name) rs log side = ⊥

-- the entries that a log and its side have both are the same, and none is missing between them
pub record Meets (b : ℕ) (g p : List Bytes) : Type 0 where
  pub within : b ≤ length g
  pub reaches : length g ≤ b + length p
  pub same : take (length g - b) p ≡ drop b g

abbrev pub MeetsOrEmpty : ℕ → List Bytes → List Bytes → Type 0
MeetsOrEmpty b g [] = Unit {0}
MeetsOrEmpty b g (x ∷ p) = Meets b g (x ∷ p)

-- the records of both files as one list
pub record IsGathered (base : ℕ) (p : List Bytes) (found : Option SideLog) (packed end used : ℕ) (h : List Bytes) : Type 0 where
  pub are : AreSegments 0 (segments_of found)
  pub bare : BareBase found base
  pub joined : Joined base (packed_by (segments_of found)) p h
  pub packed_is : packed ≡ length (packed_by (segments_of found))
  pub end_is : end ≡ end_of found
  pub used_is : used ≡ 65 + length (records h)

-- what was read of a log and of its side
pub record IsLoaded (o : Loaded) (log side : List ℕ) : Type 0 where
  pub room : IsRoomHead o.head.bytes o.head.store o.head.base
  pub tail : List Bytes
  pub log_is : IsRecordFile o.head.bytes o.gate tail log
  pub empty_is : o.empty ≡ true → tail ≡ []
  pub full_is : o.empty ≡ false → 0 < length tail
  pub stands : SideStands o.head.store side (λ (c : List ℕ). c ≡ side) o.gathered.end
  pub bare : o.gathered.end ≡ 0 → o.head.base ≡ 0
  pub packed_is : o.gathered.packed ≡ length (packed_in o.head.store side)
  pub joined : Joined o.head.base (packed_in o.head.store side) tail (payloads o.gathered.records.items)

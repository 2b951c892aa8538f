-- What a pair stands for, and what a crash leaves of it.
use Rattle.std.specs.Prelude.{◌≡◌, ◌⊎◌, ℕ, ◌<◌, ◌^◌, List, ◌++◌, length, take, Option, Some}
use Rattle.news_types.specs.Names.{Bytes}
use Rattle.news_io.specs.Disk.{DiskMeaning, Only}
use Rattle.news_io.specs.Moments.{Elapses}
use Rattle.news_journal.specs.Log.{room_head, IsEdition, records, AllFit}
use Rattle.news_journal.specs.Stands.{IsShut, Logs, list_of}
use Rattle.news_journal.specs.declared.log.Journal.{Journal}
use Rattle.news_pair.specs.Pair.{side_head, six, IsBare, AreSegments, packed_in, Follows, PairFinds}
use Rattle.news_pair.specs.declared.pair.Pair.{Pair}

abbrev pub log_of : {D : Type 0} → Pair D → Journal D
log_of p = p.log

abbrev pub log_disk : {D : Type 0} → Pair D → D
log_disk p = p.log.disk

abbrev pub side_disk : {D : Type 0} → Pair D → D
side_disk p = p.side

-- the header of the log of this store, with this base, in some edition
pub record IsRoomHead (head : List ℕ) (store : Bytes) (base : ℕ) : Type 0 where
  pub edition : ℕ
  pub is_edition : IsEdition edition
  pub is : head ≡ room_head edition (six base) store
  pub small : base < 2 ^ 48
  pub store_is : length store ≡ 16

-- a file of segments, with its closed gate
pub record HasSegments (store : Bytes) (seen : List ℕ) (may_leave : List ℕ → Type 0) (end : ℕ) (segments : List Bytes) : Type 0 where
  pub fit : AllFit segments
  pub are : AreSegments 0 segments
  pub place : end ≡ length (side_head store ++ records segments)
  pub small : end < 2 ^ 30
  pub shut : IsShut (side_head store ++ records segments) seen may_leave

-- the place of a side's closed gate, or 0 where it stands for no segment
abbrev pub SideStands : Bytes → List ℕ → (List ℕ → Type 0) → ℕ → Type 0
SideStands store seen may_leave end = ((end ≡ 0) × IsBare seen) ⊎ ((segments : List Bytes) × HasSegments store seen may_leave end segments)

module _ {D : Type 0} (disk : DiskMeaning D) where
  -- the payloads of the list: the side's before the log's base, and the log's
  abbrev pub pair_list : Pair D → List Bytes
  pair_list p = take p.base (packed_in p.store (disk.seen p.side)) ++ list_of disk p.log

  -- a log and a side that hold this list
  pub record HoldsList (log : Journal D) (side : D) (store : Bytes) (base packed end : ℕ) (h : List Bytes) : Type 0 where
    pub log_is : Logs disk log (list_of disk log)
    pub head : IsRoomHead log.head store base
    pub few : packed < 2 ^ 48
    pub told : disk.tells side
    pub synced : Only (disk.seen side) (disk.may_leave side)
    pub side_is : SideStands store (disk.seen side) (disk.may_leave side) end
    pub bare : end ≡ 0 → base ≡ 0
    pub count : packed ≡ length (packed_in store (disk.seen side))
    pub follows : Follows base (packed_in store (disk.seen side)) (list_of disk log) h

  abbrev pub Pairs : Pair D → List Bytes → Type 0
  Pairs p h = HoldsList p.log p.side p.store p.base p.packed p.end h

  -- what opening after a crash might have found, where the log was left as it could be at some moment since t, and the side as it can be now
  abbrev pub pair_since : Bytes → D → D → ℕ → Option (List Bytes) → Type 0
  pair_since store log side t found = (c : List ℕ) × disk.left_since log t c × ((s : List ℕ) × disk.may_leave side s × PairFinds store c s found)

  -- and where the side was left so
  abbrev pub pair_since_side : Bytes → D → D → ℕ → Option (List Bytes) → Type 0
  pair_since_side store log side t found = (s : List ℕ) × disk.left_since side t s × ((c : List ℕ) × disk.may_leave log c × PairFinds store c s found)

  -- over a call on the log, opening after a crash finds what it might have found before, or this list
  abbrev pub LogStays : Bytes → List Bytes → D → D → D → Type 0
  LogStays store h side log log' =
      Elapses (disk.moment log) (disk.moment log') (pair_since store log side) (pair_since store log' side) (λ (found : Option (List Bytes)). found ≡ Some h)

  -- and over a call on the side
  abbrev pub SideStays : Bytes → List Bytes → D → D → D → Type 0
  SideStays store h log side side' =
      Elapses (disk.moment side) (disk.moment side') (pair_since_side store log side) (pair_since_side store log side') (λ (found : Option (List Bytes)). found ≡ Some h)

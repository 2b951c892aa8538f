-- What `pack` does to a log and its side.
use Rattle.std.specs.Prelude.{◌≡◌, ◌⊎◌, ◌≤◌, ℕ, List, [], ◌++◌, length, drop, map, All, codes, decimal, Option, Some, None}
use Rattle.news_types.specs.declared.entry.Entry.{Entry}
use Rattle.news_types.specs.Names.{Bytes}
use Rattle.news_types.specs.History.{History}
use Rattle.byte_formats.specs.Lawful.{IsBytes}
use Rattle.entry_codec.specs.Spelling.{entry_bytes}
use Rattle.entry_codec.specs.Formed.{IsEntry}
use Rattle.news_io.specs.Disk.{DiskMeaning}
use Rattle.news_io.specs.Outside.{Meanings, Outside, Files, FilesTell, MayLeave, MayBe, store_faults}
use Rattle.news_journal.specs.Log.{room_head, opened, records}
use Rattle.news_pair.specs.Filling.{Fills}
use Rattle.program_run.specs.Looked.{Opened}
use Rattle.program_run.specs.Opens.{OpenTo, OpenAlike, AreBytes, SideHolds, IsBare, AreSegments, side_head, edition_of, base_bytes, payloads}
use Rattle.program_run.specs.Damage.{Finders}
use Rattle.program_run.specs.Refused.{NotOpened}
use Rattle.program_run.specs.Telling.{IsTold, Unread, StoreCounts}
use Rattle.room_reports.specs.Written.{IsStopped}
use Rattle.run_status.specs.declared.status.Status.{Status}
use Rattle.run_status.specs.declared.status.Status.TheVariants as status

-- how many entries a list has that was packed, as a line
abbrev pub packed_line : ℕ → Bytes
packed_line count = codes "{\"answer\":\"packed\",\"entries\":" ++ decimal count ++ codes "}\n"

-- ---- what of the list the side has room for

-- where the closed gate of a side stands, or of one that is to be made, and the payloads before it
abbrev pub SideEnds : Bytes → List ℕ → ℕ → List Bytes → Type 0
SideEnds store side gate packed = (IsBare side × (gate ≡ 64) × (packed ≡ []))
    ⊎ ((segments : List Bytes) × (opened (side_head store) side ≡ Some segments) × AreSegments 0 segments packed
    × (gate ≡ length (side_head store ++ records segments)))

-- the entries of the list that the side does not have go into it, segment by segment: all, or not the next segment, which
-- does not fit
pub record GoesIn (store : Bytes) (side : List ℕ) (list : History) (full : Option (ℕ × ℕ)) : Type 0 where
  pub gate : ℕ
  pub packed : List Bytes
  pub side_is : SideEnds store side gate packed
  pub behind : List Entry
  pub each : All IsEntry behind
  pub are : map entry_bytes behind ≡ drop (length packed) (payloads list)
  pub fills : Fills gate (length packed) behind full

-- ---- a crash at some moment

module _ {D : Type 0} (disk : DiskMeaning D) where
  -- the log as a crash may leave it now, and the side as one since a moment may have
  abbrev pub SideSince : D → D → ℕ → Files → Type 0
  SideSince log side since files = disk.may_leave log files.0 × disk.left_since side since files.1

  -- and the other way round
  abbrev pub LogSince : D → D → ℕ → Files → Type 0
  LogSince log side since files = disk.left_since log since files.0 × disk.may_leave side files.1

  module _ (store : Bytes) (list : History) where
    -- over a call, a crash since an earlier moment leaves files that open to the list, or as some do that one could leave
    -- before the call
    pub record Keeps (moment moment' : ℕ) (left left' : ℕ → Files → Type 0) : Type 0 where
      pub later : moment ≤ moment'
      pub each : (since : ℕ) (files : Files) → since ≤ moment → left' since files → AreBytes files
          → OpenTo store files list ⊎ ((was : Files) × left since was × OpenAlike store was files)

    -- From these disks to those, one call behind the other, each of which writes to one of the files and keeps the list.
    -- Two disks have no clock in common, so the order of their writes is that of the calls.
    pub data Calls (log side : D) : D → D → Type 0 where
      unwritten : Calls log side log side
      to_side : {log' side' next : D} → Calls log side log' side'
          → Keeps (disk.moment side') (disk.moment next) (SideSince log' side') (SideSince log' next) → Calls log side log' next
      to_log : {log' side' next : D} → Calls log side log' side'
          → Keeps (disk.moment log') (disk.moment next) (LogSince log' side') (LogSince next side') → Calls log side next side'

-- ---- the command

-- a log of this store without a record
abbrev pub HasNoRecord : Bytes → List ℕ → Type 0
HasNoRecord store log = opened (room_head (edition_of log) (base_bytes log) store) log ≡ Some []

module _ {D S O C L : Type 0} (m : Meanings D S O C L) (before after : Outside D S O C L) (number : ℕ) where
  -- the files opened to the list of a store, and were written while they kept it
  pub record WasKept (store : Bytes) (list : History) (log side : D) : Type 0 where
    pub opened : Opened m before log side store list
    pub calls : FilesTell m before → Calls m.disk store list log side after.log after.side
    pub kept : FilesTell m before → (files : Files) → MayLeave m after files → AreBytes files → OpenTo store files list

  -- the side has taken the whole list, and the log has no record of it
  pub record Packed : Type 0 where
    pub store : Bytes
    pub list : History
    pub log : D
    pub side : D
    pub was : WasKept store list log side
    pub now : FilesTell m before → (files : Files) → MayBe m after files → AreBytes files → OpenTo store files list
    pub taken : FilesTell m before → IsBytes (m.disk.seen after.side)
        → SideHolds store (m.disk.seen after.side) (payloads list)
    pub emptied : FilesTell m before → HasNoRecord store (m.disk.seen after.log)
    pub room : FilesTell m before → IsBytes (m.disk.seen side) → GoesIn store (m.disk.seen side) list None
    pub calm : store_faults m after ≡ store_faults m before
    -- how many entries it has was told
    pub count : ℕ
    pub counted : FilesTell m before → count ≡ length list
    pub told : IsTold m.sink (packed_line count) before.output after.output number

  -- a full side is told with its bytes in use and the length of the segment; damage, never of files that tell
  abbrev pub CauseOf : Bytes → History → List ℕ → Status → Type 0
  CauseOf store list side status.Store = Unit {0}
  CauseOf store list side status.Memory = Unit {0}
  CauseOf store list side status.Full =
      FilesTell m before → IsBytes side → (numbers : ℕ × ℕ) × GoesIn store side list (Some numbers)
  CauseOf store list side (status.Damaged at found) = FilesTell m before → ⊥
  CauseOf store list side why = ⊥

  -- it could not be packed, and why
  pub record NotPacked : Type 0 where
    pub store : Bytes
    pub list : History
    pub log : D
    pub side : D
    pub was : WasKept store list log side
    pub why : Status
    pub cause : CauseOf store list (m.disk.seen side) why
    pub later : store_faults m before ≤ store_faults m after
    pub counts : StoreCounts (store_faults m before) (store_faults m after) why
    pub told : IsStopped m.sink why before.output after.output number

-- so, or the files do not serve
abbrev pub IsPacked : {D S O C L : Type 0} → Finders → Meanings D S O C L → Outside D S O C L → Outside D S O C L → ℕ → Type 0
IsPacked find m before after number = Unread before after
    × (NotOpened find m before after number ⊎ (Packed m before after number ⊎ NotPacked m before after number))

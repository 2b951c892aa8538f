-- What the files of a pair open to, while it stands for a list and at each moment of a run of calls that keeps the list.
use Rattle.std.proofs.Common.{◌≡◌, ◌⊎◌, inl, inr, ℕ, ◌+◌, Bool, true, false, List, [], ◌∷◌, ◌++◌, Option, Some, None, refl, sym, ◌∙◌, ap, subst, arith}
use Rattle.news_types.specs.Names.{Bytes}
use Rattle.news_types.specs.History.{History}
use Rattle.news_types.specs.Doubt as doubt
use Rattle.news_types.specs.declared.entry.Entry.{Entry}
use Rattle.entry_codec.specs.Spelling.{entry_bytes}
use Rattle.news_io.specs.Disk.{DiskMeaning}
use Rattle.news_io.specs.Left.{IsLeft}
use Rattle.news_io.specs.Moments.{Elapses}
use Rattle.news_journal.specs.Calls.{append_calls}
use Rattle.news_pair.specs.Keeper.{pair_of}
use Rattle.news_pair.specs.Law.{finds_one}
use Rattle.news_pair.specs.Pair.{PairOpens, PairFinds}
use Rattle.news_pair.specs.Stands.{log_disk, side_disk, pair_list, Pairs, LogStays, SideStays, pair_since}
use Rattle.news_pair.specs.Steps.{Stays}
use Rattle.news_pair.specs.Steps.Stays.{as_they_are, side_written, log_written}
use Rattle.news_pair.specs.declared.pair.Pair.{Pair}
use Rattle.news_pair.proofs.Finding.{pair_found, outcome_pairs}
use Rattle.news_room.specs.Log.{IsStored}
use Rattle.news_room.specs.Stands.{Tells, in_doubt}
use Rattle.news_room.specs.declared.room.Room.{Room}
use Rattle.store_files.specs.Files.{Files, OpenTo, MayLeave, MayBe, FilesHold, CrashKeeps}
use Rattle.store_files.specs.Store.{Opens, IsOpenRoom}

pub calls_shut : (ajar : Bool) → append_calls ajar ≡ 4 → ajar ≡ true → ⊥
calls_shut false quiet is = absurd (cc is)
calls_shut true quiet is = absurd (omega (arith, quiet))

module _ {D : Type 0} (disk : DiskMeaning D) where
  -- a pair that tells a list of a store
  module _ (p : Pair D) (store : Bytes) (h : History) (tells : Tells (pair_of disk) p store h) where
    pub pairs : Pairs disk p (doubt.payloads entry_bytes h)
    pairs = subst (λ (l : List Bytes). Pairs disk p l) tells.list_is tells.tells_it

    pub opens_beside : (files : Files) (l : List Bytes) → PairOpens p.store files.0 files.1 l → PairOpens store files.0 files.1 l
    opens_beside files l o = subst (λ (s : Bytes). PairOpens s files.0 files.1 l) tells.label_is o

    -- the list, or the list with an entry in doubt
    pub left_now : (files : Files) → IsStored h → MayBe disk (log_disk p) (side_disk p) files → IsLeft (OpenTo store) h (λ (e : Entry). (pair_of disk).doubts p (entry_bytes e) × IsStored (e ∷ h)) files
    left_now files kept may = elim (outcome_pairs disk p (doubt.payloads entry_bytes h) pairs files.0 files.1 may.0 may.1) [
      | inl same ↦ inl (record { pair = opens_beside files (doubt.payloads entry_bytes h) same; kept = kept })
      | inr more ↦
          let next = tells.follow more.0 more.1 in
          inr (
            next.0,
            (subst ((pair_of disk).doubts p) next.1 more.1, next.2),
            record { pair = subst (λ (x : Bytes). PairOpens store files.0 files.1 (doubt.payloads entry_bytes h ++ x ∷ [])) next.1 (opens_beside files (doubt.payloads entry_bytes h ++ more.0 ∷ []) more.2); kept = next.2 },
          )
    ]

    -- where nothing is in doubt
    pub holds_now : IsStored h → (pair_of disk).most_calls p ≡ 4 → FilesHold disk (log_disk p) (side_disk p) store h
    holds_now kept quiet files may = elim (left_now files kept may) [
      | inl same ↦ same
      | inr more ↦ let d = more.1.0 in absurd (calls_shut p.log.ajar quiet d.is_ajar)
    ]

  -- ---- a run of calls, each of which keeps the list

  module _ (store : Bytes) (h : List Bytes) where
    -- each outcome of a crash opens to it
    abbrev Keeps : D → D → Type 0
    Keeps log side = (c s : List ℕ) → disk.may_leave log c → disk.may_leave side s → PairOpens store c s h

    is_list : (c s : List ℕ) (found : Option (List Bytes)) → PairFinds store c s found → found ≡ Some h → PairOpens store c s h
    is_list c s found finds is = subst (PairFinds store c s) is finds

    log_keeps : (log side next : D) → Keeps log side → LogStays disk store h side log next → Keeps next side
    log_keeps log side next keeps stays c s left left' =
        let f = pair_found store c s in
        let now = disk.counts_now next (disk.moment log) c stays.later left in
        is_list c s f.0 f.1
        (elim (stays.nothing_else (disk.moment log) f.0 (omega arith) (c, now, (s, left', f.1))) [
          | inl was ↦ finds_one store was.0 was.2.0 h f.0 (keeps was.0 was.2.0 (disk.only_now log was.0 was.1) was.2.1) was.2.2
          | inr same ↦ same
        ])

    side_keeps : (log side next : D) → Keeps log side → SideStays disk store h log side next → Keeps log next
    side_keeps log side next keeps stays c s left left' =
        let f = pair_found store c s in
        let now = disk.counts_now next (disk.moment side) s stays.later left' in
        is_list c s f.0 f.1
        (elim (stays.nothing_else (disk.moment side) f.0 (omega arith) (s, now, (c, left, f.1))) [
          | inl was ↦ finds_one store was.2.0 was.0 h f.0 (keeps was.2.0 was.0 was.2.1 (disk.only_now side was.0 was.1)) was.2.2
          | inr same ↦ same
        ])

    pub stays_keeps : (log side log' side' : D) → Keeps log side → Stays disk store h log side log' side' → Keeps log' side'
    stays_keeps log side log' side' keeps as_they_are = keeps
    stays_keeps log side log' side' keeps (side_written before step) = side_keeps _ _ _ (stays_keeps log side _ _ keeps before) step
    stays_keeps log side log' side' keeps (log_written before step) = log_keeps _ _ _ (stays_keeps log side _ _ keeps before) step

  -- ---- a room that was opened

  module _ (log side : D) (r : Room (Pair D)) (o : IsOpenRoom disk log side r) (told : disk.tells log) (told' : disk.tells side) where
    pub room_tells : Tells (pair_of disk) r.keeper o.store o.history
    room_tells = (o.holds true (λ is. (told, told'))).stands.told refl

    pub room_kept : IsStored o.history
    room_kept = (o.holds true (λ is. (told, told'))).stands.kept

    pub room_holds : FilesHold disk (log_disk r.keeper) (side_disk r.keeper) o.store o.history
    room_holds = holds_now r.keeper o.store o.history room_tells room_kept o.quiet

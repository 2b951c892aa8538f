-- What `pack` did, by what was said of it before.
use Rattle.std.proofs.Common.{◌≡◌, inl, inr, ℕ, List, [], drop, Option, Some, None, refl, sym, subst}
use Rattle.news_types.specs.Names.{Bytes}
use Rattle.news_types.specs.Doubt as doubt
use Rattle.byte_formats.specs.Lawful.{IsBytes}
use Rattle.entry_codec.specs.Spelling.{entry_bytes}
use Rattle.news_io.specs.Outside.{Meanings, Outside, FilesTell, store_faults}
use Rattle.news_journal.specs.Log.{room_head, opened}
use Rattle.news_pair.specs.Filling.{Filled, IsFullExactly, first_gate}
use Rattle.news_pair.specs.Pair.{PairOpens}
use Rattle.news_pair.specs.PackFaults.{FaultCounts, IsDamage}
use Rattle.news_pair.specs.Stands.{log_disk, side_disk, Pairs}
use Rattle.news_pair.specs.Steps.{Stays}
use Rattle.news_pair.specs.declared.pack_fault.PackFault.{PackFault}
use Rattle.news_pair.specs.declared.pack_fault.PackFault.TheVariants as fault
use Rattle.news_pair.specs.declared.pair.Pair.{Pair}
use Rattle.news_room.specs.declared.room.Room.{Room}
use Rattle.newsdesk_cli.specs.Command as old
use Rattle.store_files.specs.Files as files
use Rattle.store_files.specs.Store.{IsOpenRoom}
use Rattle.store_files.specs.Trouble.{status_of, trouble_of_pack}
use Rattle.store_files.proofs.Holding.{pairs, room_tells, room_kept}
use Rattle.program_run.specs.Opens.{SideHolds, edition_of, base_bytes, payloads}
use Rattle.program_run.specs.Packed.{GoesIn, Calls, WasKept, Packed, CauseOf, NotPacked, IsPacked, packed_line}
use Rattle.program_run.specs.Telling.{Unread, StoreCounts}
use Rattle.program_run.specs.Finding.{the_finders}
use Rattle.program_run.proofs.Alike.{new_opens}
use Rattle.program_run.proofs.Looked.{opened_room}
use Rattle.program_run.proofs.Packing.{calls, goes_in, emptied, taken}
use Rattle.program_run.proofs.Refusing.{not_opened}
use Rattle.program_run.proofs.Telling.{is_told, is_stopped}

counts_of : (before now : ℕ) (why : PackFault) → FaultCounts before now why → StoreCounts before now (status_of (trouble_of_pack why))
counts_of before now fault.DiskFault counts = counts.fault tt
counts_of before now (fault.Full size count) counts = counts.calm (λ is. is)
counts_of before now (fault.Damaged at found) counts = counts.calm (λ is. is)
counts_of before now fault.Memory counts = counts.calm (λ is. is)

module _ {D S O C L : Type 0} (m : Meanings D S O C L) (before after : Outside D S O C L) (number : ℕ) where
  -- a room's files while they were packed
  module _ (room : Room (Pair D)) (o : IsOpenRoom m.disk before.log before.side room) where
    abbrev Log : D
    Log = log_disk room.keeper

    abbrev Side : D
    Side = side_disk room.keeper

    abbrev Listed : List Bytes
    Listed = doubt.payloads entry_bytes o.history

    of_room : FilesTell m before → Pairs m.disk room.keeper Listed
    of_room tell = pairs m.disk room.keeper o.store o.history (room_tells m.disk before.log before.side room o tell.log tell.side)

    store_is : FilesTell m before → room.keeper.store ≡ o.store
    store_is tell = (room_tells m.disk before.log before.side room o tell.log tell.side).label_is

    was_kept : (log side : D) → log ≡ after.log → side ≡ after.side → (FilesTell m before → Stays m.disk o.store Listed Log Side log side) → (FilesTell m before → files.CrashKeeps m.disk after.log after.side o.store o.history)
        → WasKept m before after number o.store o.history Log Side
    was_kept log side same same_side stays keeps = record {
      opened = opened_room m before room o;
      calls = λ tell.
          let so = calls m.disk o.store o.long o.history (room_kept m.disk before.log before.side room o tell.log tell.side) (stays tell) in
          subst (λ (s : D). Calls m.disk o.store o.history Log Side after.log s) same_side (subst (λ (l : D). Calls m.disk o.store o.history Log Side l side) same so);
      kept = λ tell found may bytes. new_opens o.store o.long found o.history bytes (keeps tell found may);
    }

    room_for : FilesTell m before → IsBytes (m.disk.seen Side) → (full : Option (ℕ × ℕ)) → Filled (first_gate room.keeper.end) room.keeper.packed (drop room.keeper.packed Listed) full → GoesIn o.store (m.disk.seen Side) o.history full
    room_for tell bytes full filled = goes_in m.disk o.store o.long o.history room.keeper (store_is tell) (of_room tell) bytes full filled

  module _ (did : old.HasPacked m.disk m.sink before.log after.log before.side after.side before.output after.output number) where
    abbrev opening : IsOpenRoom m.disk before.log before.side did.room
    opening = did.opened

    abbrev Entries : List Bytes
    Entries = doubt.payloads entry_bytes opening.history

    -- the packed pair, as a read gives it
    reads : FilesTell m before → PairOpens opening.store (m.disk.seen (log_disk did.pair)) (m.disk.seen (side_disk did.pair)) Entries
    reads tell =
        let both = did.files tell.log tell.side (m.disk.seen after.log, m.disk.seen after.side) (inl refl, inl refl) in
        subst (λ (s : D). PairOpens opening.store (m.disk.seen (log_disk did.pair)) (m.disk.seen s) Entries) did.same_side
        (subst (λ (l : D). PairOpens opening.store (m.disk.seen l) (m.disk.seen after.side) Entries) did.same both.pair)

    abbrev IsEmpty : D → Type 0
    IsEmpty log = opened (room_head (edition_of (m.disk.seen log)) (base_bytes (m.disk.seen log)) opening.store) (m.disk.seen log) ≡ Some []

    abbrev HasAll : D → Type 0
    HasAll side = IsBytes (m.disk.seen side) → SideHolds opening.store (m.disk.seen side) (payloads opening.history)

    packed : Packed m before after number
    packed = record {
      store = opening.store;
      list = opening.history;
      log = log_disk did.room.keeper;
      side = side_disk did.room.keeper;
      was = was_kept did.room opening (log_disk did.pair) (side_disk did.pair) (sym did.same) (sym did.same_side)
          (λ tell. let packs = did.packs tell.log tell.side in packs.crash)
          (λ tell found may. did.files tell.log tell.side found (inr may.0, inr may.1));
      now = λ tell found may bytes. new_opens opening.store opening.long found opening.history bytes (did.files tell.log tell.side found may);
      taken = λ tell.
          let packs = did.packs tell.log tell.side in
          subst HasAll (sym did.same_side) (taken m.disk opening.store opening.long opening.history did.pair packs.list packs.emptied (reads tell));
      emptied = λ tell.
          let packs = did.packs tell.log tell.side in
          subst IsEmpty (sym did.same) (emptied m.disk opening.store opening.long opening.history did.pair packs.list packs.emptied (reads tell));
      room = λ tell bytes. let packs = did.packs tell.log tell.side in room_for did.room opening tell bytes None packs.fits;
      calm = did.calm;
      count = did.count;
      counted = λ tell. did.counted tell.log tell.side;
      told = is_told m.sink (packed_line did.count) before.output after.output number did.told;
    }

  module _ (did : old.HasNotPacked m.disk m.sink before.log after.log before.side after.side before.output after.output number) where
    abbrev began : IsOpenRoom m.disk before.log before.side did.room
    began = did.opened

    cause_of : (why : PackFault) → (FilesTell m before → IsDamage why → ⊥)
        → (FilesTell m before → IsFullExactly (first_gate did.room.keeper.end) did.room.keeper.packed (drop did.room.keeper.packed (doubt.payloads entry_bytes began.history)) why)
        → CauseOf m before after number began.store began.history (m.disk.seen (side_disk did.room.keeper)) (status_of (trouble_of_pack why))
    cause_of fault.DiskFault whole full = tt
    cause_of (fault.Full size count) whole full = λ tell bytes. ((size, count), room_for did.room began tell bytes (Some (size, count)) (full tell))
    cause_of (fault.Damaged at found) whole full = λ tell. whole tell tt
    cause_of fault.Memory whole full = tt

    not_packed : NotPacked m before after number
    not_packed = record {
      store = began.store;
      list = began.history;
      log = log_disk did.room.keeper;
      side = side_disk did.room.keeper;
      was = was_kept did.room began after.log after.side refl refl (λ tell. let packs = did.packs_not tell.log tell.side in packs.crash) (λ tell. did.files tell.log tell.side);
      why = status_of (trouble_of_pack did.why);
      cause = cause_of did.why (λ tell. let packs = did.packs_not tell.log tell.side in packs.whole) (λ tell. let packs = did.packs_not tell.log tell.side in packs.full);
      later = did.counts.later;
      counts = counts_of (store_faults m before) (store_faults m after) did.why did.counts;
      told = is_stopped m.sink [] before.output after.output number (trouble_of_pack did.why) did.stopped;
    }

  pub is_packed : Unread before after → old.IsPack m.disk m.sink before.log after.log before.side after.side before.output after.output number → IsPacked the_finders m before after number
  is_packed unread (inl refused) = (unread, inl (not_opened m before after number refused unread.input unread.clock unread.links))
  is_packed unread (inr (inl did)) = (unread, inr (inl (packed did)))
  is_packed unread (inr (inr did)) = (unread, inr (inr (not_packed did)))

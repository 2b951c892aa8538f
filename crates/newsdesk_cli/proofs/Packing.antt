-- What packing the pair of an open room leaves.
use Rattle.std.proofs.Common.{◌≡◌, ◌∙◌, inl, inr, ℕ, ◌+◌, true, List, [], ◌∷◌, length, length-append, drop, Option, None, arith, refl, sym, ap, subst}
use Rattle.news_types.specs.Names.{Bytes}
use Rattle.news_types.specs.Doubt.{payloads}
use Rattle.news_types.specs.History.{History}
use Rattle.entry_codec.specs.Spelling.{entry_bytes}
use Rattle.news_io.specs.Disk.{DiskMeaning}
use Rattle.news_pair.specs.declared.pair.Pair.{Pair}
use Rattle.news_pair.specs.declared.pack_fault.PackFault.{PackFault}
use Rattle.news_pair.specs.Filling.{Filled, IsFullExactly, first_gate}
use Rattle.news_pair.specs.Keeper.{pair_of}
use Rattle.news_pair.specs.PackFaults.{FaultCounts, IsDamage}
use Rattle.news_pair.specs.declared.pack_fault.PackFault.TheVariants as fault
use Rattle.news_pair.specs.Packed.{IsPacked}
use Rattle.news_pair.specs.Damage.{Place}
use Rattle.news_pair.specs.Packing.{pack_damage, IsPackDamage}
use Rattle.news_pair.specs.Law.{list_is}
use Rattle.news_pair.specs.Stands.{log_disk, side_disk, Pairs}
use Rattle.news_pair.specs.Steps.{Stays}
use Rattle.news_room.specs.Stands.{Tells}
use Rattle.news_room.specs.declared.room.Room.{Room}
use Rattle.newsdesk_cli.specs.Packing.{Packs, PacksNot}
use Rattle.store_files.specs.Files.{FilesHold, CrashKeeps}
use Rattle.store_files.specs.Store.{IsOpenRoom}
use Rattle.store_files.proofs.Holding.{calls_shut, holds_now, stays_keeps, room_kept, room_holds}
use Rattle.store_files.proofs.Serving.{can_be_packed}

length-payloads : (h : History) → length (payloads entry_bytes h) ≡ length h
length-payloads [] = refl
length-payloads (e ∷ h) = omega (arith, length-append (payloads entry_bytes h) (entry_bytes e ∷ []), length-payloads h)

no_damage : (found : Option Place) (why : PackFault) → found ≡ None → IsPackDamage found why → IsDamage why → ⊥
no_damage found (fault.Damaged at byte) none damage is = absurd (cc (sym none ∙ damage))
no_damage found fault.DiskFault none damage is = is
no_damage found (fault.Full size count) none damage is = is
no_damage found fault.Memory none damage is = is

module _ {D : Type 0} (disk : DiskMeaning D) (log side : D) (r : Room (Pair D)) (o : IsOpenRoom disk log side r) (k : Pair D) (same : k ≡ r.keeper) where
  abbrev Listed : List Bytes
  Listed = payloads entry_bytes o.history

  tells : disk.tells log → disk.tells side → Tells (pair_of disk) r.keeper o.store o.history
  tells told told' = (o.holds true (λ is. (told, told'))).stands.told refl

  -- the pair holds the list of the room
  pairs : disk.tells log → disk.tells side → Pairs disk k Listed
  pairs told told' =
      let t = tells told told' in
      subst (λ (p : Pair D). Pairs disk p Listed) (sym same) (subst (λ (h : List Bytes). Pairs disk r.keeper h) t.list_is t.tells_it)

  store_is : disk.tells log → disk.tells side → k.store ≡ o.store
  store_is told told' = ap (λ (p : Pair D). p.store) same ∙ (tells told told').label_is

  pub faults_are : (pair_of disk).faults k ≡ disk.faults log + disk.faults side
  faults_are = ap (pair_of disk).faults same ∙ o.calm

  -- a log that a room has opened is whole
  undamaged : (why : PackFault) → disk.tells log → disk.tells side → IsPackDamage (pack_damage (disk.seen (log_disk k))) why → IsDamage why → ⊥
  undamaged why told told' damage is =
      let both = room_holds disk log side r o told told' (disk.seen (log_disk r.keeper), disk.seen (side_disk r.keeper)) (inl refl, inl refl) in
      let none = can_be_packed (disk.seen (log_disk r.keeper)) (disk.seen (side_disk r.keeper)) o.store o.history o.long both in
      no_damage (pack_damage (disk.seen (log_disk k))) why (ap (λ (p : Pair D). pack_damage (disk.seen (log_disk p))) same ∙ none) damage is

  -- a pair that was packed
  pub packed_holds : (p : Pair D) → p.store ≡ k.store → (pair_of disk).most_calls p ≡ 4 → ((h : List Bytes) → Pairs disk k h → Pairs disk p h) → disk.tells log → disk.tells side → FilesHold disk (log_disk p) (side_disk p) o.store o.history
  packed_holds p stored quiet list told told' =
      let held = list Listed (pairs told told') in
      let all = list_is disk p Listed held in
      let of_store = stored ∙ store_is told told' in
      holds_now disk p o.store o.history
      (record {
        tells_it = subst (λ (l : List Bytes). Pairs disk p l) (sym all) held;
        label_is = of_store;
        list_is = all;
        follow = λ payload d. absurd (calls_shut p.log.ajar quiet d.is_ajar);
      })
      (room_kept disk log side r o told told') quiet

  -- and one that was not
  pub unpacked_keeps : (log' side' : D) → ((h : List Bytes) → Pairs disk k h → Stays disk k.store h (log_disk k) (side_disk k) log' side') → disk.tells log → disk.tells side → CrashKeeps disk log' side' o.store o.history
  unpacked_keeps log' side' crash told told' files may =
      let stays = subst (λ (p : Pair D). Stays disk o.store Listed (log_disk p) (side_disk p) log' side') same (subst (λ (store : Bytes). Stays disk store Listed (log_disk k) (side_disk k) log' side') (store_is told told') (crash Listed (pairs told told'))) in
      record {
        pair = stays_keeps disk o.store Listed (log_disk r.keeper) (side_disk r.keeper) log' side' (λ c s left left'. (room_holds disk log side r o told told' (c, s) (inr left, inr left')).pair) stays files.0 files.1 may.0 may.1;
        kept = room_kept disk log side r o told told';
      }

  pub counted : (n : ℕ) → ((h : List Bytes) → Pairs disk k h → n ≡ length h) → disk.tells log → disk.tells side → n ≡ length o.history
  counted n count told told' = count Listed (pairs told told') ∙ length-payloads o.history

  pub packs : (p : Pair D) → ((h : List Bytes) → Pairs disk k h → Pairs disk p h) → ((h : List Bytes) → Pairs disk k h → IsPacked disk p h)
      → ((h : List Bytes) → Pairs disk k h → Stays disk k.store h (log_disk k) (side_disk k) (log_disk p) (side_disk p))
      → ((h : List Bytes) → Pairs disk k h → pack_damage (disk.seen (log_disk k)) ≡ None)
      → ((h : List Bytes) → Pairs disk k h → Filled (first_gate k.end) k.packed (drop k.packed h) None)
      → disk.tells log → disk.tells side → Packs disk o.store Listed r.keeper p
  packs p list emptied crash whole fits told told' =
      let all = pairs told told' in
      subst (λ (old : Pair D). Packs disk o.store Listed old p) same
      (record {
        list = list Listed all;
        emptied = emptied Listed all;
        crash = subst (λ (store : Bytes). Stays disk store Listed (log_disk k) (side_disk k) (log_disk p) (side_disk p)) (store_is told told') (crash Listed all);
        whole = whole Listed all;
        fits = fits Listed all;
      })

  pub packs_not : (log' side' : D) (why : PackFault) → ((h : List Bytes) → Pairs disk k h → Stays disk k.store h (log_disk k) (side_disk k) log' side')
      → ((h : List Bytes) → Pairs disk k h → IsPackDamage (pack_damage (disk.seen (log_disk k))) why)
      → ((h : List Bytes) → Pairs disk k h → IsFullExactly (first_gate k.end) k.packed (drop k.packed h) why)
      → disk.tells log → disk.tells side → PacksNot disk o.store Listed r.keeper log' side' why
  packs_not log' side' why crash damage full told told' =
      let all = pairs told told' in
      subst (λ (old : Pair D). PacksNot disk o.store Listed old log' side' why) same
      (record {
        crash = subst (λ (store : Bytes). Stays disk store Listed (log_disk k) (side_disk k) log' side') (store_is told told') (crash Listed all);
        whole = undamaged why told told' (damage Listed all);
        full = full Listed all;
      })

  pub pack_counts : (now : ℕ) (why : PackFault) → FaultCounts ((pair_of disk).faults k) now why → FaultCounts (disk.faults log + disk.faults side) now why
  pack_counts now why counts = subst (λ (n : ℕ). FaultCounts n now why) faults_are counts

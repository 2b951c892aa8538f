-- The files of a room, which are read once more.
use Rattle.std.proofs.Common.{◌≡◌, ◌⊎◌, inl, inr, ℕ, ◌+◌, List, [], ◌∷◌, ◌++◌, length, Option, refl, sym, ◌∙◌, ap, subst}
use Rattle.std.specs.Prelude.{Result, Ok, Err, IfOk, IfErr}
use Rattle.news_types.specs.Names.{Bytes}
use Rattle.news_types.specs.History.{History}
use Rattle.news_types.specs.Doubt as doubt
use Rattle.entry_codec.specs.Spelling.{entry_bytes}
use Rattle.news_io.specs.Disk.{DiskMeaning, DiskGains}
use Rattle.news_io.specs.declared.record.Record.{Record}
use Rattle.news_io.proofs.Runs.{elapses_weaker, elapses_then}
use Rattle.news_journal.specs.Log.{records}
use Rattle.news_journal.specs.Opened.{Still, AreFew, payloads}
use Rattle.news_journal.specs.declared.header.Header.{Header}
use Rattle.news_journal.specs.declared.header.Header.TheVariants as header
use Rattle.news_pair.specs.Pair.{PairOpens}
use Rattle.news_pair.specs.Damage.{pair_damage, IsPairDamage}
use Rattle.news_pair.specs.Faults.{FaultCounts}
use Rattle.news_pair.specs.Opened.{OpensAs, OpensStill}
use Rattle.news_pair.specs.Stands.{log_disk, side_disk, Pairs}
use Rattle.news_pair.specs.Keeper.{pair_of}
use Rattle.news_pair.specs.Law.{opens_one}
use Rattle.news_pair.specs.declared.pair.Pair.{Pair}
use Rattle.news_pair.specs.declared.fault.PairFault.{PairFault}
use Rattle.news_pair.specs.declared.fault.PairFault.TheVariants as pair_fault
use Rattle.news_pair.specs.declared.opening.OpenedPair.{OpenedPair}
use Rattle.news_pair.proofs.WereRead.{one_store}
use Rattle.news_room.specs.Log.{IsStored}
use Rattle.news_room.specs.Stands.{Tells}
use Rattle.news_room.specs.declared.room.Room.{Room}
use Rattle.news_room.proofs.Lists.{same_list}
use Rattle.room_standby.specs.Holds.{HasNoEntry}
use Rattle.store_files.specs.Files.{FilesHold}
use Rattle.store_files.specs.Store.{Opens, Cause, IsNotOfBytes, IsRefused, IsOpenRoom, Reopens, TroubleCounts}
use Rattle.store_files.specs.Trouble.{trouble_of_pair}
use Rattle.store_files.specs.declared.trouble.Trouble.{Trouble}
use Rattle.store_files.specs.declared.trouble.Trouble.TheVariants as trouble
use Rattle.store_files.proofs.Holding.{pairs, holds_now, room_tells, room_kept, room_holds}
use Rattle.store_files.proofs.Listing.{member}
use Rattle.store_files.proofs.Serving.{whole, served}
use Rattle.store_files.proofs.Stores.{fault_counts, still_then}
use Rattle.standby_files.specs.Listing.{IsListOf, IsNoList, IsListed}
use Rattle.standby_files.specs.declared.listing.Listed.{Listed}

-- by what was answered
pub if_ok : {A E : Type 0} (P Q : A → Type 0) (r : Result A E) → ((x : A) → P x → Q x) → IfOk r P → IfOk r Q
if_ok P Q (Ok x) f p = f x p
if_ok P Q (Err e) f p = tt

pub if_err : {A E : Type 0} (P Q : E → Type 0) (r : Result A E) → ((e : E) → P e → Q e) → IfErr r P → IfErr r Q
if_err P Q (Ok x) f p = tt
if_err P Q (Err e) f p = f e p

same_room : (u v : Bytes) → header.Room u ≡ header.Room v → u ≡ v
same_room u v is = cc

-- one list, and one store
module _ (log side store : List ℕ) (h : History) (long : length store ≡ 16) (o : Opens log side store h) where
  pub store_of : (store' : Bytes) (l : List Bytes) → length store' ≡ 16 → PairOpens store' log side l → store' ≡ store
  store_of store' l long' opens = one_store log store' store opens.tail o.pair.tail long' long opens.log_is o.pair.log_is

  pub list_of : (store' : Bytes) (l : List Bytes) → length store' ≡ 16 → PairOpens store' log side l → l ≡ doubt.payloads entry_bytes h
  list_of store' l long' opens = opens_one store log side l (doubt.payloads entry_bytes h) (subst (λ (s : Bytes). PairOpens s log side l) (store_of store' l long' opens) opens) o.pair

  -- what opens to it beside each outcome of a side opens still
  pub still_opens : (M : List ℕ → Type 0) (c : List ℕ) → ((s : List ℕ) → M s → Opens c s store h) → OpensStill log side M c
  still_opens M c opens = λ s left store' long' l is.
      let now = opens s left in
      subst (λ (t : Bytes). PairOpens t c s l) (sym (store_of store' l long' is)) (subst (λ (k : List Bytes). PairOpens store c s k) (sym (list_of store' l long' is)) now.pair)

-- each record of a list is of an entry
split_at : (before : List Record) (here : Record) (after : List Record) → payloads (before ++ here ∷ after) ≡ payloads before ++ here.bytes ∷ payloads after
split_at [] here after = refl
split_at (r ∷ before) here after = ap (λ (l : List Bytes). r.bytes ∷ l) (split_at before here after)

no_bad : (h : History) (rs : List Record) (at : ℕ) (found : Option ℕ) → IsStored h → payloads rs ≡ doubt.payloads entry_bytes h → HasNoEntry rs at found → ⊥
no_bad h rs at found kept are bad =
    let m = member h (payloads bad.front) bad.bad.bytes (payloads bad.rest) kept (sym are ∙ ap payloads bad.is ∙ split_at bad.front bad.bad bad.rest) in
    let kept = m.kept in
    bad.here (m.entry, kept.formed.0, sym m.entry_is)

module _ {D : Type 0} (disk : DiskMeaning D) (log side : D) (r : Room (Pair D)) (o : IsOpenRoom disk log side r) where
  abbrev mid : D
  mid = log_disk r.keeper

  abbrev mid' : D
  mid' = side_disk r.keeper

  counts : disk.faults mid + disk.faults mid' ≡ disk.faults log + disk.faults side
  counts = o.calm

  module _ (told : disk.tells log) (told' : disk.tells side) where
    holds : FilesHold disk mid mid' o.store o.history
    holds = room_holds disk log side r o told told'

    both : Pairs disk r.keeper (doubt.payloads entry_bytes o.history)
    both = pairs disk r.keeper o.store o.history (room_tells disk log side r o told told')

    tells_mid : disk.tells mid
    tells_mid = let l = both.log_is in l.told

    tells_mid' : disk.tells mid'
    tells_mid' = both.told

    kept : IsStored o.history
    kept = room_kept disk log side r o told told'

    seen_now : Opens (disk.seen mid) (disk.seen mid') o.store o.history
    seen_now = holds (disk.seen mid, disk.seen mid') (inl refl, inl refl)

    -- behind the second reading
    module _ (log' side' : D) (still : Still disk mid' side') (gains : DiskGains disk mid log' (λ c. disk.may_leave mid c ⊎ OpensStill (disk.seen mid) (disk.seen mid') (disk.may_leave side') c)) where
      all_gains : DiskGains disk log log' (λ c. disk.may_leave log c ⊎ ((s : List ℕ) → disk.may_leave side' s → Opens c s o.store o.history))
      all_gains =
          elapses_then _ _ _ _ _ _ _
          (elapses_weaker _ _ _ _ _ _ (o.crash told told') (λ c gained. elim gained [ inl left ↦ inl left | inr opens ↦ inr (λ s left. opens s (still.crash s left)) ]))
          (elapses_weaker _ _ _ _ _ _ gains (λ c gained. elim gained [
            | inl left ↦ inr (λ s left'. holds (c, s) (inr left, inr (still.crash s left')))
            | inr opens ↦ inr (λ s left. record { pair = opens s left o.store o.long (doubt.payloads entry_bytes o.history) seen_now.pair; kept = kept })
          ]))

      all_reopens : Reopens disk log side log' side'
      all_reopens = elapses_weaker _ _ _ _ _ _ all_gains (λ c gained. elim gained [
        | inl left ↦ inl left
        | inr opens ↦ inr (still_opens (disk.seen log) (disk.seen side) o.store o.history o.long (o.bytes told told') (disk.may_leave side') c opens)
      ])

  -- ---- a pair that could not be opened

  never_wrong : (f : PairFault) → trouble_of_pair f ≡ trouble.WrongStore → ⊥
  never_wrong pair_fault.DiskFault is = cc is
  never_wrong (pair_fault.Damaged at found) is = cc is
  never_wrong (pair_fault.DamagedSide at found) is = cc is
  never_wrong pair_fault.Memory is = cc is

  fault_cause : (f : PairFault) → disk.tells log → disk.tells side → (disk.tells mid → disk.tells mid' → IsPairDamage (pair_damage (disk.seen mid) (disk.seen mid')) f) → Cause (disk.seen log) (disk.seen side) (trouble_of_pair f)
  fault_cause pair_fault.DiskFault told told' damage = tt
  fault_cause (pair_fault.Damaged at found) told told' damage =
      absurd (cc (sym (damage (tells_mid told told') (tells_mid' told told')) ∙ whole (disk.seen mid) (disk.seen mid') o.store o.history o.long (seen_now told told')))
  fault_cause (pair_fault.DamagedSide at found) told told' damage =
      absurd (cc (sym (damage (tells_mid told told') (tells_mid' told told')) ∙ whole (disk.seen mid) (disk.seen mid') o.store o.history o.long (seen_now told told')))
  fault_cause pair_fault.Memory told told' damage = tt

  -- what was answered where they could not be read as a pair
  pub record Unread (mid mid' log' side' : D) (f : PairFault) : Type 0 where
    pub damage : disk.tells mid → disk.tells mid' → IsPairDamage (pair_damage (disk.seen mid) (disk.seen mid')) f
    pub count : FaultCounts (disk.faults mid + disk.faults mid') (disk.faults log' + disk.faults side') f
    pub still : disk.tells mid' → Still disk mid' side'
    pub gains : disk.tells mid → disk.tells mid' → DiskGains disk mid log' (λ c. disk.may_leave mid c ⊎ OpensStill (disk.seen mid) (disk.seen mid') (disk.may_leave side') c)

  pub not_read : (log' side' : D) (f : PairFault) (t : Trouble) → t ≡ trouble_of_pair f → Unread mid mid' log' side' f → IsRefused disk log side log' side' t
  not_read log' side' f t is u = record {
    cause = λ told told'. subst (Cause (disk.seen log) (disk.seen side)) (sym is) (fault_cause f told told' u.damage);
    count = subst (λ (x : Trouble). TroubleCounts (disk.faults log + disk.faults side) (disk.faults log' + disk.faults side') x) (sym is)
        (subst (λ (n : ℕ). TroubleCounts n (disk.faults log' + disk.faults side') (trouble_of_pair f)) counts (fault_counts (disk.faults mid + disk.faults mid') (disk.faults log' + disk.faults side') f u.count));
    wrong = λ wrong told told'. absurd (never_wrong f (sym is ∙ wrong));
    crash = λ told told'. all_reopens told told' log' side' (u.still (tells_mid' told told')) (u.gains (tells_mid told told') (tells_mid' told told'));
    still = λ told'. let first = o.still told' in still_then disk side mid' side' first (u.still (first.told told'));
  }

  -- ---- a pair that was opened

  -- what was answered where they could
  pub record Reread (mid mid' : D) (opened : OpenedPair D) : Type 0 where
    pub opens : disk.tells mid → disk.tells mid' → OpensAs opened.header opened.records (disk.seen mid) (disk.seen mid')
    pub few : AreFew opened.records
    pub label : opened.header ≡ header.Room ((pair_of disk).label opened.pair)
    pub tells : disk.tells mid → disk.tells mid' → (pair_of disk).tells opened.pair
    pub list : disk.tells mid → disk.tells mid' → (pair_of disk).list opened.pair ≡ payloads opened.records
    pub doubts : (x : List ℕ) → (pair_of disk).doubts opened.pair x → ⊥
    pub quiet : (pair_of disk).most_calls opened.pair ≡ 4
    pub used : (pair_of disk).used opened.pair ≡ 65 + length (records (payloads opened.records))
    pub gains : disk.tells mid → disk.tells mid' → DiskGains disk mid (log_disk opened.pair) (λ c. disk.may_leave mid c ⊎ OpensStill (disk.seen mid) (disk.seen mid') (disk.may_leave (side_disk opened.pair)) c)
    pub still : disk.tells mid' → Still disk mid' (side_disk opened.pair)
    pub calm : (pair_of disk).faults opened.pair ≡ disk.faults mid + disk.faults mid'

  module _ (opened : OpenedPair D) (a : Reread mid mid' opened) where
    -- by a header that is a room's, of the store with this identifier
    module _ (store : Bytes) (long : length store ≡ 16) (is : opened.header ≡ header.Room store) (told : disk.tells log) (told' : disk.tells side) where
      opens_so : PairOpens store (disk.seen mid) (disk.seen mid') (payloads opened.records)
      opens_so = subst (λ (h : Header). OpensAs h opened.records (disk.seen mid) (disk.seen mid')) is (a.opens (tells_mid told told') (tells_mid' told told'))

      same_store : store ≡ o.store
      same_store = store_of (disk.seen mid) (disk.seen mid') o.store o.history o.long (seen_now told told') store (payloads opened.records) long opens_so

      are_all : payloads opened.records ≡ doubt.payloads entry_bytes o.history
      are_all = list_of (disk.seen mid) (disk.seen mid') o.store o.history o.long (seen_now told told') store (payloads opened.records) long opens_so

    pub is_listed : (l : Listed D) → IsListOf opened l → IsListed disk log side l
    is_listed l of = subst (IsListed disk log side) (sym whole_is) (record {
      room = r;
      opened = o;
      label = same_room _ _ (sym a.label ∙ of.header_is);
      long = of.long;
      list = of.list;
      are = of.are;
      few = a.few;
      used = a.used;
      quiet = a.quiet;
      calm = a.calm ∙ counts;
      store_is = λ told told'. same_store l.store of.long of.header_is told told';
      list_is = λ told told'. lists_are told told';
      tells = λ told told'. a.tells (tells_mid told told') (tells_mid' told told');
      told = λ told told'. a.list (tells_mid told told') (tells_mid' told told');
      files = λ told told'. holds_now disk opened.pair o.store o.history (pair_tells told told') (kept told told') a.quiet;
      crash = λ told told'. all_gains told told' (log_disk opened.pair) (side_disk opened.pair) (a.still (tells_mid' told told')) (a.gains (tells_mid told told') (tells_mid' told told'));
      still = λ told'. let first = o.still told' in still_then disk side mid' (side_disk opened.pair) first (a.still (first.told told'));
    })
      where
        whole_is : l ≡ record { pair = opened.pair; store = l.store; records = opened.records }
        whole_is = λ i. record { pair = of.pair_is i; store = l.store; records = of.records_are i }

        lists_are : (told : disk.tells log) (told' : disk.tells side) → of.list ≡ o.history
        lists_are told told' =
            let mine = of.are in
            let theirs = kept told told' in
            same_list of.list o.history mine.entries theirs.formed (sym mine.are ∙ are_all l.store of.long of.header_is told told')

        pair_tells : (told : disk.tells log) (told' : disk.tells side) → Tells (pair_of disk) opened.pair o.store o.history
        pair_tells told told' = record {
          tells_it = a.tells (tells_mid told told') (tells_mid' told told');
          label_is = same_room _ _ (sym a.label ∙ of.header_is) ∙ same_store l.store of.long of.header_is told told';
          list_is = a.list (tells_mid told told') (tells_mid' told told') ∙ are_all l.store of.long of.header_is told told';
          follow = λ payload d. absurd (a.doubts payload d);
        }

    -- ---- one of its records is of no entry

    label_long : (told : disk.tells log) (told' : disk.tells side) → length ((pair_of disk).label opened.pair) ≡ 16
    label_long told told' =
        let here = a.tells (tells_mid told told') (tells_mid' told told') in
        let head = here.head in
        head.store_is

    bad_none : (at : ℕ) (found : Option ℕ) → HasNoEntry opened.records at found → disk.tells log → disk.tells side → ⊥
    bad_none at found bad told told' =
        no_bad o.history opened.records at found (kept told told') (are_all ((pair_of disk).label opened.pair) (label_long told told') a.label told told') bad

    list_cause : (t : Trouble) (h : Header) → opened.header ≡ h → IsNoList h opened.records t → disk.tells log → disk.tells side → Cause (disk.seen log) (disk.seen side) t
    list_cause t (header.Receiver name) is none told told' = absurd (subst (λ (h : Header). OpensAs h opened.records (disk.seen mid) (disk.seen mid')) is (a.opens (tells_mid told told') (tells_mid' told told')))
    list_cause (trouble.Damaged at found) (header.Room store) is none told told' = absurd (bad_none at found none.first told told')
    list_cause (trouble.DamagedSide at found) (header.Room store) is none told told' = absurd (bad_none at found none.first told told')
    list_cause trouble.Memory (header.Room store) is none told told' = tt
    list_cause trouble.WrongStore (header.Room store) is none told told' = absurd none
    list_cause trouble.Store (header.Room store) is none told told' = absurd none
    list_cause trouble.Full (header.Room store) is none told told' = absurd none

    list_counts : (before now : ℕ) (t : Trouble) (h : Header) → now ≡ before → IsNoList h opened.records t → TroubleCounts before now t
    list_counts before now t (header.Receiver name) same none = subst (TroubleCounts before now) (sym none) same
    list_counts before now (trouble.Damaged at found) (header.Room store) same none = same
    list_counts before now (trouble.DamagedSide at found) (header.Room store) same none = same
    list_counts before now trouble.Memory (header.Room store) same none = same
    list_counts before now trouble.WrongStore (header.Room store) same none = absurd none
    list_counts before now trouble.Store (header.Room store) same none = absurd none
    list_counts before now trouble.Full (header.Room store) same none = absurd none

    pub not_listed : (log' side' : D) (t : Trouble) → log' ≡ log_disk opened.pair → side' ≡ side_disk opened.pair → IsNoList opened.header opened.records t → IsRefused disk log side log' side' t
    not_listed log' side' t same same' none = subst (λ (d : D). IsRefused disk log side d side' t) (sym same) (subst (λ (d : D). IsRefused disk log side (log_disk opened.pair) d t) (sym same') (record {
      cause = λ told told'. list_cause t opened.header refl none told told';
      count = list_counts (disk.faults log + disk.faults side) ((pair_of disk).faults opened.pair) t opened.header (a.calm ∙ counts) none;
      wrong = λ wrong told told'.
          absurd (subst IsNotOfBytes wrong (served (disk.seen log) (disk.seen side) o.store o.history o.long (o.bytes told told') t (list_cause t opened.header refl none told told')));
      crash = λ told told'. all_reopens told told' (log_disk opened.pair) (side_disk opened.pair) (a.still (tells_mid' told told')) (a.gains (tells_mid told told') (tells_mid' told told'));
      still = λ told'. let first = o.still told' in still_then disk side mid' (side_disk opened.pair) first (a.still (first.told told'));
    }))

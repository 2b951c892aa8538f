-- A log and its side that are opened as a room, or refused.
use Rattle.std.proofs.Common.{◌≡◌, ◌⊎◌, inl, inr, ℕ, ◌+◌, ◌<◌, ◌^◌, List, [], ◌∷◌, ◌++◌, length, map, None, true, false, refl, sym, ◌∙◌, ap, subst, arith, length-append}
use Rattle.std.specs.Prelude.{Result, Ok, Err, IfOk, IfErr, All}
use Rattle.std.specs.Int.{w32, to_be_bytes}
use Rattle.news_types.specs.Names.{Bytes}
use Rattle.news_types.specs.History.{History}
use Rattle.news_types.specs.Doubt as doubt
use Rattle.entry_codec.specs.Spelling.{entry_bytes}
use Rattle.news_io.specs.Disk.{DiskMeaning, DiskGains}
use Rattle.news_io.specs.declared.record.Record.{Record}
use Rattle.news_io.proofs.Runs.{elapses_same, elapses_weaker, elapses_then}
use Rattle.news_journal.specs.Log.{records}
use Rattle.news_journal.specs.Read.{records_push, length-be}
use Rattle.news_journal.specs.Opened.{Still, payloads}
use Rattle.news_journal.specs.declared.header.Header.{Header}
use Rattle.news_journal.specs.declared.header.Header.TheVariants as header
use Rattle.news_pair.specs.Pair.{PairOpens}
use Rattle.news_pair.specs.Damage.{pair_damage, IsPairDamage}
use Rattle.news_pair.specs.Faults.{FaultCounts}
use Rattle.news_pair.specs.Opened.{OpensAs, OpensStill}
use Rattle.news_pair.specs.Placed.{pair_records}
use Rattle.news_pair.specs.Stands.{log_disk, side_disk}
use Rattle.news_pair.specs.Keeper.{pair_of}
use Rattle.news_pair.specs.declared.pair.Pair.{Pair}
use Rattle.news_pair.specs.declared.fault.PairFault.{PairFault}
use Rattle.news_pair.specs.declared.fault.PairFault.TheVariants as pair_fault
use Rattle.news_pair.specs.declared.opening.OpenedPair.{OpenedPair}
use Rattle.news_room.specs.Log.{OpensTo, sizes}
use Rattle.news_room.specs.Opening.{IsFault, HasBadRecord, IsOpened, bytes_of}
use Rattle.news_room.specs.declared.answers.RoomFault.{RoomFault}
use Rattle.news_room.specs.declared.answers.RoomFault.TheVariants as room_fault
use Rattle.news_room.specs.declared.room.Room.{Room}
use Rattle.store_files.specs.Kinds.{IsKind, IsOther}
use Rattle.store_files.specs.declared.kinds.LogKind.TheVariants.{Room as of_room}
use Rattle.store_files.proofs.Counts.{rose_right}
use Rattle.store_files.specs.Store.{Opens, Cause, SideCause, TroubleCounts, IsNoRoom, IsRoomOf, Reopens, IsRefused, IsOpenRoom, IsOpenListed, IsListedOf}
use Rattle.store_files.specs.Trouble.{trouble_of_pair, trouble_of_room}
use Rattle.store_files.specs.declared.trouble.Trouble.{Trouble}
use Rattle.store_files.specs.declared.trouble.Trouble.TheVariants as trouble

-- ---- bytes in use

sizes_are : (h : History) → length (records (doubt.payloads entry_bytes h)) ≡ sizes h
sizes_are [] = refl
sizes_are (e ∷ h) =
    let frame = to_be_bytes w32 (length (entry_bytes e)) in
    omega (arith, sizes_are h, ap length (records_push (doubt.payloads entry_bytes h) (entry_bytes e)), length-append (records (doubt.payloads entry_bytes h)) (1 ∷ frame ++ entry_bytes e), length-append frame (entry_bytes e), length-be (length (entry_bytes e)))

-- ---- a pair without a room

pub not_room : (h : Header) (rs : List Record) → ((store : Bytes) → h ≡ header.Room store → ⊥) → IsNoRoom h rs trouble.WrongStore
not_room (header.Receiver name) rs not = refl
not_room (header.Room store) rs not = absurd (not store refl)

damaged_room : (h : Header) (store : Bytes) (rs : List Record) (f : RoomFault) → h ≡ header.Room store → length store ≡ 16 → IsFault rs f → IsNoRoom h rs (trouble_of_room f)
damaged_room h store rs (room_fault.Damaged at found) is long d = subst (λ (x : Header). IsNoRoom x rs (trouble.Damaged at found)) (sym is) (long, d)
damaged_room h store rs (room_fault.DamagedSide at found) is long d = subst (λ (x : Header). IsNoRoom x rs (trouble.DamagedSide at found)) (sym is) (long, d)
damaged_room h store rs room_fault.Memory is long d = subst (λ (x : Header). IsNoRoom x rs trouble.Memory) (sym is) tt

same_store : (u v : Bytes) → header.Room u ≡ header.Room v → u ≡ v
same_store u v is = cc

no_room_cause : (h : Header) (rs : List Record) (log side : List ℕ) (t : Trouble) → rs ≡ pair_records log side → OpensAs h rs log side → pair_damage log side ≡ None → (IsOther log side → ⊥) → IsNoRoom h rs t → Cause log side t
no_room_cause (header.Receiver name) rs log side t are opens whole other is = absurd opens
no_room_cause (header.Room store) rs log side (trouble.Damaged at found) are opens whole other d =
    (inr (record { whole = whole; store = store; long = d.0; pair = subst (λ (l : List Record). PairOpens store log side (payloads l)) are opens; damage = subst (λ (l : List Record). HasBadRecord l false at found) are d.1 }), other)
no_room_cause (header.Room store) rs log side (trouble.DamagedSide at found) are opens whole other d =
    (inr (record { whole = whole; store = store; long = d.0; pair = subst (λ (l : List Record). PairOpens store log side (payloads l)) are opens; damage = subst (λ (l : List Record). HasBadRecord l true at found) are d.1 }), other)
no_room_cause (header.Room store) rs log side trouble.Memory are opens whole other d = tt
no_room_cause (header.Room store) rs log side trouble.WrongStore are opens whole other d = absurd d
no_room_cause (header.Room store) rs log side trouble.Store are opens whole other d = absurd d
no_room_cause (header.Room store) rs log side trouble.Full are opens whole other d = absurd d

no_room_counts : (h : Header) (rs : List Record) (before now : ℕ) (t : Trouble) → now ≡ before → IsNoRoom h rs t → TroubleCounts before now t
no_room_counts (header.Receiver name) rs before now t same is = subst (TroubleCounts before now) (sym is) same
no_room_counts (header.Room store) rs before now (trouble.Damaged at found) same d = same
no_room_counts (header.Room store) rs before now (trouble.DamagedSide at found) same d = same
no_room_counts (header.Room store) rs before now trouble.Memory same d = same
no_room_counts (header.Room store) rs before now trouble.WrongStore same d = absurd d
no_room_counts (header.Room store) rs before now trouble.Store same d = absurd d
no_room_counts (header.Room store) rs before now trouble.Full same d = absurd d

pub fault_cause : (log side : List ℕ) (f : PairFault) → IsPairDamage (pair_damage log side) f → (IsOther log side → ⊥) → Cause log side (trouble_of_pair f)
fault_cause log side pair_fault.DiskFault d other = tt
fault_cause log side (pair_fault.Damaged at found) d other = (inl d, other)
fault_cause log side (pair_fault.DamagedSide at found) d other = (inl d, other)
fault_cause log side pair_fault.Memory d other = tt

pub fault_counts : (before now : ℕ) (f : PairFault) → FaultCounts before now f → TroubleCounts before now (trouble_of_pair f)
fault_counts before now pair_fault.DiskFault c = c.fault tt
fault_counts before now (pair_fault.Damaged at found) c = c.calm (λ z. z)
fault_counts before now (pair_fault.DamagedSide at found) c = c.calm (λ z. z)
fault_counts before now pair_fault.Memory c = c.calm (λ z. z)

-- ---- what a room is opened from

pub early : (rs xs : List Record) → xs ≡ rs → All (λ (r : Record). r.at < 2 ^ 30) rs → All (λ (r : Record). r.at < 4294967296) xs
early rs xs same at = subst (λ (l : List Record). All (λ (r : Record). r.at < 4294967296) l) (sym same) (λ k d within. let low = at k d within in omega (arith, low))

module _ {D : Type 0} (opened : OpenedPair D) (store : Bytes) (rs : List Record) (header_is : opened.header ≡ header.Room store) (same : rs ≡ opened.records) where
  pub is_room : (disk : DiskMeaning D) (r : Room (Pair D)) → length store ≡ 16 → IsOpened (pair_of disk) opened.pair store rs r → IsRoomOf disk opened r
  is_room disk r long o = record { store = store; long = long; header_is = header_is; room = subst (λ (l : List Record). IsOpened (pair_of disk) opened.pair store l r) same o }

  pub no_room : (p : Pair D) (f : RoomFault) (both : D × D) (t : Trouble) → length store ≡ 16 → ◌≡◌ {A = D × D} both (log_disk p, side_disk p) → t ≡ trouble_of_room f → p ≡ opened.pair → IsFault rs f
      → (both.0 ≡ log_disk opened.pair) × (both.1 ≡ side_disk opened.pair) × IsNoRoom opened.header opened.records t
  no_room p f both t long disks_are trouble_is same_pair fault =
      (ap (λ (d : D × D). d.0) disks_are ∙ ap log_disk same_pair, ap (λ (d : D × D). d.1) disks_are ∙ ap side_disk same_pair, subst (IsNoRoom opened.header opened.records) (sym trouble_is) (damaged_room opened.header store opened.records f header_is long (subst (λ (l : List Record). IsFault l f) same fault)))

-- ---- files that were opened

opens_along : (store : Bytes) (log log' side side' : List ℕ) (h : List Bytes) → log' ≡ log → side' ≡ side → PairOpens store log side h → PairOpens store log' side' h
opens_along store log log' side side' h same same' o =
    subst (λ (l : List ℕ). PairOpens store l side' h) (sym same) (subst (λ (l : List ℕ). PairOpens store log l h) (sym same') o)

still_along : (log log' side side' : List ℕ) (M : List ℕ → Type 0) (c : List ℕ) → log' ≡ log → side' ≡ side → OpensStill log' side' M c → OpensStill log side M c
still_along log log' side side' M c same same' opens = λ s left store long h o. opens s left store long h (opens_along store log log' side side' h same same' o)

module _ {D : Type 0} (disk : DiskMeaning D) where
  abbrev Same : D → D → Type 0
  Same old new = Still disk old new

  pub still_then : (old mid new : D) → Same old mid → Same mid new → Same old new
  still_then old mid new a b = record {
    told = λ t. b.told (a.told t);
    seen_same = b.seen_same ∙ a.seen_same;
    crash = λ c h. a.crash c (b.crash c h);
    time = elapses_then _ _ _ _ _ _ _ a.time (elapses_weaker _ _ _ _ _ _ b.time a.crash);
  }

  pub still_reopens : (log side log' side' : D) → Same log log' → Reopens disk log side log' side'
  still_reopens log side log' side' still = elapses_weaker _ _ _ _ _ _ still.time (λ c left. inl left)

  pub still_same : (d : D) → Same d d
  still_same d = record { told = λ t. t; seen_same = refl; crash = λ c h. h; time = elapses_same (disk.moment d) (disk.left_since d) (disk.may_leave d) }

  -- refused by the headers alone
  pub kind_refused : (log side log' side' : D) (t : Trouble) → (disk.tells log → disk.tells side → Cause (disk.seen log) (disk.seen side) t)
      → TroubleCounts (disk.faults log + disk.faults side) (disk.faults log' + disk.faults side') t → Same log log' → Same side side' → IsRefused disk log side log' side' t
  kind_refused log side log' side' t cause count still still' = record {
    cause = cause;
    count = count;
    wrong = λ is told told'. still;
    crash = λ told told'. still_reopens log side log' side' still;
    still = λ told'. still';
  }

  -- by the side's
  module _ (log side log' side' : D) (store : Bytes) (calm : disk.faults log' ≡ disk.faults log) (still : Same log log') (still' : Same side side') (kind : disk.tells log → IsKind (disk.seen log) (of_room store)) where
    side_cause : (t : Trouble) → (disk.tells side → SideCause store (disk.seen side) t) → disk.tells log → disk.tells side → Cause (disk.seen log) (disk.seen side) t
    side_cause trouble.WrongStore cause told told' = let is = kind told in inr (store, is.1, cause told')
    side_cause trouble.Store cause told told' = tt
    side_cause (trouble.Damaged at found) cause told told' = absurd (cause told')
    side_cause (trouble.DamagedSide at found) cause told told' = absurd (cause told')
    side_cause trouble.Full cause told told' = absurd (cause told')
    side_cause trouble.Memory cause told told' = tt

    side_count : (t : Trouble) → TroubleCounts (disk.faults side) (disk.faults side') t → TroubleCounts (disk.faults log + disk.faults side) (disk.faults log' + disk.faults side') t
    side_count trouble.WrongStore count = omega (arith, calm, count)
    side_count trouble.Store count = rose_right (disk.faults log) (disk.faults log') (disk.faults side) (disk.faults side') (omega (arith, calm)) count
    side_count (trouble.Damaged at found) count = omega (arith, calm, count)
    side_count (trouble.DamagedSide at found) count = omega (arith, calm, count)
    side_count trouble.Full count = omega (arith, calm, count)
    side_count trouble.Memory count = omega (arith, calm, count)

    pub side_refused : (r : Result (Unit {0}) Trouble) → (disk.tells side → IfErr r (SideCause store (disk.seen side))) → IfErr r (TroubleCounts (disk.faults side) (disk.faults side')) → IfErr r (IsRefused disk log side log' side')
    side_refused (Ok u) cause count = tt
    side_refused (Err t) cause count = kind_refused log side log' side' t (side_cause t cause) (side_count t count) still still'

  -- behind calls that changed nothing
  module _ (log mid side mid' : D) (still : Same log mid) (still' : Same side mid') (calm : disk.faults mid + disk.faults mid' ≡ disk.faults log + disk.faults side) where
    reopens_behind : (log' side' : D) → Reopens disk mid mid' log' side' → Reopens disk log side log' side'
    reopens_behind log' side' after =
        elapses_then _ _ _ _ _ _ _ (elapses_weaker _ _ _ _ _ _ still.time (λ c left. inl left))
        (elapses_weaker _ _ _ _ _ _ after (λ c gained. elim gained [
          | inl left ↦ inl (still.crash c left)
          | inr opens ↦ inr (still_along (disk.seen log) (disk.seen mid) (disk.seen side) (disk.seen mid') (disk.may_leave side') c still.seen_same still'.seen_same opens)
        ]))

    module _ (kind : disk.tells log → disk.tells side → IsOther (disk.seen log) (disk.seen side) → ⊥) where
      cause_behind : (t : Trouble) → disk.tells log → disk.tells side
          → (disk.tells mid → disk.tells mid' → (IsOther (disk.seen mid) (disk.seen mid') → ⊥) → Cause (disk.seen mid) (disk.seen mid') t) → Cause (disk.seen log) (disk.seen side) t
      cause_behind t told told' cause =
          subst (λ (l : List ℕ). Cause l (disk.seen side) t) still.seen_same (subst (λ (l : List ℕ). Cause (disk.seen mid) l t) still'.seen_same
          (cause (still.told told) (still'.told told')
          (λ other. kind told told' (subst (λ (l : List ℕ). IsOther l (disk.seen side)) still.seen_same (subst (λ (l : List ℕ). IsOther (disk.seen mid) l) still'.seen_same other)))))

      refused_behind : (log' side' : D) (t : Trouble)
          → (disk.tells mid → disk.tells mid' → (IsOther (disk.seen mid) (disk.seen mid') → ⊥) → Cause (disk.seen mid) (disk.seen mid') t)
          → TroubleCounts (disk.faults mid + disk.faults mid') (disk.faults log' + disk.faults side') t
          → (disk.tells mid → disk.tells mid' → Reopens disk mid mid' log' side') → (disk.tells mid' → Same mid' side') → IsRefused disk log side log' side' t
      refused_behind log' side' t cause count crash after = record {
        cause = λ told told'. cause_behind t told told' cause;
        count = subst (λ (n : ℕ). TroubleCounts n (disk.faults log' + disk.faults side') t) calm count;
        wrong = λ is told told'. absurd (kind told told' (subst (Cause (disk.seen log) (disk.seen side)) is (cause_behind t told told' cause)));
        crash = λ told told'. reopens_behind log' side' (crash (still.told told) (still'.told told'));
        still = λ told'. still_then side mid' side' still' (after (still'.told told'));
      }

      pub err_behind : {T : Type 0} (r : Result T (D × D × Trouble))
          → (disk.tells mid → disk.tells mid' → (IsOther (disk.seen mid) (disk.seen mid') → ⊥) → IfErr r (λ e. Cause (disk.seen mid) (disk.seen mid') e.2))
          → IfErr r (λ e. TroubleCounts (disk.faults mid + disk.faults mid') (disk.faults e.0 + disk.faults e.1) e.2)
          → (disk.tells mid → disk.tells mid' → IfErr r (λ e. Reopens disk mid mid' e.0 e.1)) → (disk.tells mid' → IfErr r (λ e. Same mid' e.1))
          → IfErr r (λ e. IsRefused disk log side e.0 e.1 e.2)
      err_behind (Ok r) cause count crash after = tt
      err_behind (Err e) cause count crash after = refused_behind e.0 e.1 e.2 cause count crash after

    room_behind : (r : Room (Pair D)) → IsOpenRoom disk mid mid' r → IsOpenRoom disk log side r
    room_behind r o = record {
      store = o.store;
      long = o.long;
      history = o.history;
      bytes = λ told told'.
          let opens = o.bytes (still.told told) (still'.told told') in
          record { pair = opens_along o.store (disk.seen mid) (disk.seen log) (disk.seen mid') (disk.seen side) (doubt.payloads entry_bytes o.history) (sym still.seen_same) (sym still'.seen_same) opens.pair; kept = opens.kept };
      whole = λ told told'. ap (λ (l : List ℕ). pair_damage l (disk.seen side)) (sym still.seen_same) ∙ ap (pair_damage (disk.seen mid)) (sym still'.seen_same) ∙ o.whole (still.told told) (still'.told told');
      holds = λ told only. o.holds told (λ is. let both = only is in (still.told both.0, still'.told both.1));
      quiet = o.quiet;
      calm = o.calm ∙ calm;
      crash = λ told told'.
          elapses_then _ _ _ _ _ _ _ (elapses_weaker _ _ _ _ _ _ still.time (λ c left. inl left))
          (elapses_weaker _ _ _ _ _ _ (o.crash (still.told told) (still'.told told')) (λ c gained. elim gained [ inl left ↦ inl (still.crash c left) | inr opens ↦ inr opens ]));
      still = λ told'. still_then side mid' (side_disk r.keeper) still' (o.still (still'.told told'));
    }

    listed_behind : (r : Room (Pair D)) (records : List Record) → IsOpenListed disk mid mid' r records → IsOpenListed disk log side r records
    unfolding room_behind
    listed_behind r records o = record { room = room_behind r o.room; few = o.few; places = o.places; opens = o.opens }

    pub opened_behind : (r : Result (Room (Pair D) × List Record) (D × D × Trouble)) → IfOk r (λ l. IsOpenListed disk mid mid' l.0 l.1) → IfOk r (λ l. IsOpenListed disk log side l.0 l.1)
    opened_behind (Ok l) o = listed_behind l.0 l.1 o
    opened_behind (Err e) o = tt

  module _ (log side : D) (opened : OpenedPair D) where
    -- where the pair has no room
    abbrev IsNone : D × D × Trouble → Type 0
    IsNone e = (e.0 ≡ log_disk opened.pair) × (e.1 ≡ side_disk opened.pair) × IsNoRoom opened.header opened.records e.2

    pub err_cause : {T : Type 0} (r : Result T (D × D × Trouble)) → opened.records ≡ pair_records (disk.seen log) (disk.seen side) → OpensAs opened.header opened.records (disk.seen log) (disk.seen side) → pair_damage (disk.seen log) (disk.seen side) ≡ None
        → (IsOther (disk.seen log) (disk.seen side) → ⊥) → IfErr r IsNone → IfErr r (λ e. Cause (disk.seen log) (disk.seen side) e.2)
    err_cause (Ok r) are opens whole other none = tt
    err_cause (Err e) are opens whole other none = no_room_cause opened.header opened.records (disk.seen log) (disk.seen side) e.2 are opens whole other none.2

    pub err_counts : {T : Type 0} (r : Result T (D × D × Trouble)) → disk.faults (log_disk opened.pair) + disk.faults (side_disk opened.pair) ≡ disk.faults log + disk.faults side
        → IfErr r IsNone → IfErr r (λ e. TroubleCounts (disk.faults log + disk.faults side) (disk.faults e.0 + disk.faults e.1) e.2)
    err_counts (Ok r) calm none = tt
    err_counts (Err e) calm none =
        no_room_counts opened.header opened.records (disk.faults log + disk.faults side) (disk.faults e.0 + disk.faults e.1) e.2
        (ap (λ (d : D). disk.faults d + disk.faults e.1) none.0 ∙ ap (λ (d : D). disk.faults (log_disk opened.pair) + disk.faults d) none.1 ∙ calm) none.2

    pub err_crash : {T : Type 0} (r : Result T (D × D × Trouble)) → Reopens disk log side (log_disk opened.pair) (side_disk opened.pair)
        → IfErr r IsNone → IfErr r (λ e. Reopens disk log side e.0 e.1)
    err_crash (Ok r) crash none = tt
    err_crash (Err e) crash none =
        subst (λ (d : D). Reopens disk log side d e.1) (sym none.0) (subst (λ (d : D). Reopens disk log side (log_disk opened.pair) d) (sym none.1) crash)

    pub err_still : {T : Type 0} (r : Result T (D × D × Trouble)) → Same side (side_disk opened.pair) → IfErr r IsNone → IfErr r (λ e. Same side e.1)
    err_still (Ok r) still none = tt
    err_still (Err e) still none = subst (λ (d : D). Same side d) (sym none.1) still

    -- what opening the pair says of its room
    module _ (opens : disk.tells log → disk.tells side → OpensAs opened.header opened.records (disk.seen log) (disk.seen side))
        (whole : disk.tells log → disk.tells side → pair_damage (disk.seen log) (disk.seen side) ≡ None)
        (label : opened.header ≡ header.Room ((pair_of disk).label opened.pair))
        (tells_it : disk.tells log → disk.tells side → (pair_of disk).tells opened.pair)
        (list_is : disk.tells log → disk.tells side → (pair_of disk).list opened.pair ≡ payloads opened.records)
        (none : (x : List ℕ) → (pair_of disk).doubts opened.pair x → ⊥)
        (quiet : (pair_of disk).most_calls opened.pair ≡ 4)
        (uses : (pair_of disk).used opened.pair ≡ 65 + length (records (payloads opened.records)))
        (crash : disk.tells log → disk.tells side → Reopens disk log side (log_disk opened.pair) (side_disk opened.pair))
        (still : disk.tells side → Same side (side_disk opened.pair))
        (calm : (pair_of disk).faults opened.pair ≡ disk.faults log + disk.faults side) where
      module _ (r : Room (Pair D)) (o : IsRoomOf disk opened r) where
        room_opens : disk.tells log → disk.tells side → PairOpens o.store (disk.seen log) (disk.seen side) (doubt.payloads entry_bytes o.room.history)
        room_opens told told' =
            subst (PairOpens o.store (disk.seen log) (disk.seen side)) o.room.opens.is
            (subst (λ (x : Header). OpensAs x opened.records (disk.seen log) (disk.seen side)) o.header_is (opens told told'))

        room_of_pair : IsOpenRoom disk log side r
        room_of_pair = record {
          store = o.store;
          long = o.long;
          history = o.room.history;
          bytes = λ told told'. record { pair = room_opens told told'; kept = o.room.opens.kept };
          whole = whole;
          holds = λ told only. record {
            stands = o.room.stands told (λ is. let both = only is in record { tells_it = tells_it both.0 both.1; label_is = same_store _ _ (sym label ∙ o.header_is); list_is = list_is both.0 both.1 ∙ o.room.opens.is; follow = λ payload d. absurd (none payload d) });
            uses = ap (pair_of disk).used o.room.keeper_is ∙ uses ∙ ap (λ (l : List Bytes). 65 + length (records l)) o.room.opens.is ∙ ap (λ (n : ℕ). 65 + n) (sizes_are o.room.history);
          };
          quiet = ap (pair_of disk).most_calls o.room.keeper_is ∙ quiet;
          calm = ap (pair_of disk).faults o.room.keeper_is ∙ calm;
          crash = λ told told'.
              let all = room_opens told told' in
              subst (λ (p : Pair D). DiskGains disk log (log_disk p) (λ c. disk.may_leave log c ⊎ ((s : List ℕ) → disk.may_leave (side_disk p) s → Opens c s o.store o.room.history))) (sym o.room.keeper_is)
              (elapses_weaker _ _ _ _ _ _ (crash told told') (λ c gained. elim gained [
                | inl left ↦ inl left
                | inr again ↦ inr (λ s left. record { pair = again s left o.store o.long (doubt.payloads entry_bytes o.room.history) all; kept = o.room.opens.kept })
              ]));
          still = λ told'. subst (λ (p : Pair D). Same side (side_disk p)) (sym o.room.keeper_is) (still told');
        }

      listed_of_pair : (r : Room (Pair D)) (rs : List Record) → IsListedOf disk opened r rs → IsOpenListed disk log side r rs
      unfolding room_of_pair
      listed_of_pair r rs o = record {
        room = room_of_pair r o.room;
        few = o.few;
        places = o.places;
        opens = subst (λ (l : List Record). OpensTo (map bytes_of l) o.room.room.history) (sym o.records_are) o.room.room.opens;
      }

      pub opened_room : (r : Result (Room (Pair D) × List Record) (D × D × Trouble)) → IfOk r (λ l. IsListedOf disk opened l.0 l.1) → IfOk r (λ l. IsOpenListed disk log side l.0 l.1)
      opened_room (Ok l) o = listed_of_pair l.0 l.1 o
      opened_room (Err e) o = tt

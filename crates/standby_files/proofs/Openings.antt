-- Two files that are opened as the store of a standby, or refused.
use Rattle.std.proofs.Common.{◌≡◌, ◌⊎◌, inl, inr, ℕ, ◌+◌, List, [], ◌∷◌, ◌++◌, length, Some, refl, sym, ◌∙◌, ap, subst, arith, append-nil, length-append}
use Rattle.std.specs.Prelude.{replicate}
use Rattle.news_types.specs.Names.{Bytes}
use Rattle.news_types.specs.History.{History}
use Rattle.news_types.specs.Doubt.{payloads}
use Rattle.entry_codec.specs.Spelling.{entry_bytes}
use Rattle.news_io.specs.Disk.{DiskMeaning, DiskGains, LeavesOnly}
use Rattle.news_io.specs.Faults.{Rose}
use Rattle.news_io.proofs.Runs.{goes_on}
use Rattle.news_journal.specs.Created.{IsInTheMaking}
use Rattle.news_journal.specs.Log.{room_head, header_bytes, opened}
use Rattle.news_journal.specs.Opened.{Still}
use Rattle.news_journal.specs.Read.{opened_closed}
use Rattle.news_journal.specs.declared.header.Header.TheVariants as header
use Rattle.news_pair.specs.Pair.{side_head, edition_of, base_bytes, base_of, six, number, packed_in, PairOpens}
use Rattle.news_pair.specs.Law.{opened_long, opens_one, edition_there, base_there, number_six}
use Rattle.news_pair.specs.Stands.{log_disk, side_disk}
use Rattle.news_pair.specs.declared.pair.Pair.{Pair}
use Rattle.room_standby.specs.declared.standby.Standby.{Standby}
use Rattle.store_files.specs.Store.{Opens, IsNotOfBytes, TroubleCounts}
use Rattle.store_files.specs.Store as files
use Rattle.store_files.specs.declared.trouble.Trouble.{Trouble}
use Rattle.store_files.specs.declared.trouble.Trouble.TheVariants as trouble
use Rattle.store_files.proofs.Headers.{same_store}
use Rattle.store_files.proofs.Serving.{served}
use Rattle.store_files.proofs.Stores.{still_then}
use Rattle.standby_files.specs.Kinds.{OwnCause, IsOwnRefused, IsOwnStandby}
use Rattle.standby_files.specs.Opening.{Gives, IsOtherStore, Cause, OpensAgain, MayGain, IsRefused, IsOpenStandby}
use Rattle.standby_files.proofs.Own.{opens_of}

-- ---- what files give is one

pub no_log : (side store : List ℕ) (l : List Bytes) → PairOpens store [] side l → ⊥
no_log side store l o = let more = opened_long (room_head (edition_of []) (base_bytes []) store) [] o.tail o.log_is in omega (arith, more)

pub one_gives : (store log side : List ℕ) (a b : List Bytes) → Gives store log side a → Gives store log side b → a ≡ b
one_gives store log side a b (inl x) (inl y) = x.2 ∙ sym y.2
one_gives store log side a b (inl x) (inr y) = let o = y.1 in absurd (no_log side store (payloads entry_bytes y.0) (subst (λ (l : List ℕ). PairOpens store l side (payloads entry_bytes y.0)) x.0 o.pair))
one_gives store log side a b (inr x) (inl y) = let o = x.1 in absurd (no_log side store (payloads entry_bytes x.0) (subst (λ (l : List ℕ). PairOpens store l side (payloads entry_bytes x.0)) y.0 o.pair))
one_gives store log side a b (inr x) (inr y) =
    let o = x.1 in
    let o' = y.1 in
    x.2 ∙ opens_one store log side (payloads entry_bytes x.0) (payloads entry_bytes y.0) o.pair o'.pair ∙ sym y.2

-- ---- behind calls that did not change what the files hold

-- the files that are opened next, from those that were given: a list that they hold is one that those gave
pub record Before {D : Type 0} (disk : DiskMeaning D) (store : Bytes) (log side mid mid' : D) : Type 0 where
  pub told : disk.tells log → disk.tells side → disk.tells mid
  pub side_still : Still disk side mid'
  pub calm : disk.faults mid + disk.faults mid' ≡ disk.faults log + disk.faults side
  pub forward : disk.tells log → disk.tells side → (held : List Bytes) → Gives store (disk.seen log) (disk.seen side) held → (h : History) × Opens (disk.seen mid) (disk.seen mid') store h × (held ≡ payloads entry_bytes h)
  pub back : disk.tells log → disk.tells side → (h : History) → Opens (disk.seen mid) (disk.seen mid') store h → Gives store (disk.seen log) (disk.seen side) (payloads entry_bytes h)
  pub crash : disk.tells log → disk.tells side → LeavesOnly disk log mid (λ c. disk.may_leave log c ⊎ ((disk.seen log ≡ []) × IsInTheMaking (header.Room store) c))
  -- what refuses those refuses these
  pub cause : disk.tells log → disk.tells side → (t : Trouble) → OwnCause disk store mid mid' t → Cause store (disk.seen log) (disk.seen side) t
  pub wrong : disk.tells log → disk.tells side → (log' : D) → OwnCause disk store mid mid' trouble.WrongStore → Still disk mid log' ⊎ IsOtherStore store (disk.seen mid) → Still disk log log'

module _ {D : Type 0} (disk : DiskMeaning D) (store : Bytes) (long : length store ≡ 16) (log side mid mid' : D) (before : Before disk store log side mid mid') where
  may_mid : disk.tells log → disk.tells side → (c : List ℕ) → disk.may_leave mid c → disk.may_leave log c ⊎ ((disk.seen log ≡ []) × IsInTheMaking (header.Room store) c)
  may_mid told told' c may = let time = before.crash told told' in time.each c (disk.counts_now mid (disk.moment log) c time.later may)

  leaves_then : disk.tells log → disk.tells side → (log' side' : D) (P : List ℕ → Type 0) → DiskGains disk mid log' (λ c. disk.may_leave mid c ⊎ P c) → ((c : List ℕ) → P c → OpensAgain disk store log side side' c)
      → LeavesOnly disk log log' (MayGain disk store log side side')
  leaves_then told told' log' side' P gains again =
      goes_on disk log mid log' (λ c. disk.may_leave log c ⊎ ((disk.seen log ≡ []) × IsInTheMaking (header.Room store) c)) (λ c. disk.may_leave mid c ⊎ P c) (MayGain disk store log side side') (before.crash told told') gains
      (λ c was. wider c side' was)
      (λ c gained. elim gained [ inl may ↦ wider c side' (may_mid told told' c may) | inr opens ↦ inr (inr (again c opens)) ])
    where
      wider : (c : List ℕ) (side' : D) → disk.may_leave log c ⊎ ((disk.seen log ≡ []) × IsInTheMaking (header.Room store) c) → MayGain disk store log side side' c
      wider c side' (inl may) = inl may
      wider c side' (inr making) = inr (inl making)

  pub refused_behind : (log' side' : D) (t : Trouble) → IsOwnRefused disk store mid mid' log' side' t → IsRefused disk store log side log' side' t
  refused_behind log' side' t r = record {
    cause = λ told told'. before.cause told told' t (r.cause (before.told told told') (before.side_still.told told'));
    count = subst (λ (n : ℕ). TroubleCounts n (disk.faults log' + disk.faults side') t) before.calm r.count;
    wrong = λ is told told'. before.wrong told told' log' (subst (OwnCause disk store mid mid') is (r.cause (before.told told told') (before.side_still.told told'))) (r.wrong is (before.told told told') (before.side_still.told told'));
    crash = λ told told'. leaves_then told told' log' side' _ (r.crash (before.told told told') (before.side_still.told told'))
        (λ c opens held gives s left. let f = before.forward told told' held gives in let o = f.1 in subst (λ (l : List Bytes). PairOpens store c s l) (sym f.2) (opens s left store long (payloads entry_bytes f.0) o.pair));
    still = λ told'. still_then disk side mid' side' before.side_still (r.still (before.side_still.told told'));
  }

  pub opened_behind : (s : Standby (Pair D)) → IsOwnStandby disk store mid mid' s → IsOpenStandby disk store log side s
  opened_behind s o = record {
    held = payloads entry_bytes o.list;
    gives = λ told told'. before.back told told' o.list (o.opens (before.told told told') (before.side_still.told told'));
    stands = λ told only. o.stands told (λ is. let both = only is in (before.told both.0 both.1, before.side_still.told both.1));
    label = o.label;
    quiet = o.quiet;
    used = o.used;
    calm = o.calm ∙ before.calm;
    keeps = λ told told' both may. let opens = o.files (before.told told told') (before.side_still.told told') both may in opens.pair;
    crash = λ told told'. leaves_then told told' (log_disk s.keeper) (side_disk s.keeper) _ (o.crash (before.told told told') (before.side_still.told told'))
        (λ c opens held gives s' left.
        let mine = before.back told told' o.list (o.opens (before.told told told') (before.side_still.told told')) in
        let now = opens s' left in
        subst (λ (l : List Bytes). PairOpens store c s' l) (one_gives store (disk.seen log) (disk.seen side) (payloads entry_bytes o.list) held mine gives) now.pair);
    still = λ told'. still_then disk side mid' (side_disk s.keeper) before.side_still (o.still (before.side_still.told told'));
  }

-- ---- files that were only read

not_other : (store log : List ℕ) → (log ≡ [] → ⊥) → (IsOtherStore store log → ⊥) → (side : List ℕ) (t : Trouble) → files.Cause log side t → (t ≡ trouble.WrongStore → ⊥) → Cause store log side t
not_other store log some own side trouble.WrongStore cause not = absurd (not refl)
not_other store log some own side trouble.Store cause not = tt
not_other store log some own side (trouble.Damaged at found) cause not = (some, own, cause)
not_other store log some own side (trouble.DamagedSide at found) cause not = (some, own, cause)
not_other store log some own side trouble.Full cause not = (some, own, cause)
not_other store log some own side trouble.Memory cause not = tt

module _ {D : Type 0} (disk : DiskMeaning D) (store : Bytes) where
  own_cause : (log side mid mid' : D) → disk.seen mid ≡ disk.seen log → disk.seen mid' ≡ disk.seen side → (disk.seen log ≡ [] → ⊥) → (IsOtherStore store (disk.seen log) → ⊥) → (t : Trouble) → OwnCause disk store mid mid' t
      → Cause store (disk.seen log) (disk.seen side) t
  own_cause log side mid mid' same same' some own trouble.WrongStore (inl cause) = inr (inr (some, subst (λ (l : List ℕ). files.Cause l (disk.seen side) trouble.WrongStore) same (subst (λ (l : List ℕ). files.Cause (disk.seen mid) l trouble.WrongStore) same' cause)))
  own_cause log side mid mid' same same' some own trouble.WrongStore (inr other) = inl (subst (IsOtherStore store) same other)
  own_cause log side mid mid' same same' some own trouble.Store cause = tt
  own_cause log side mid mid' same same' some own (trouble.Damaged at found) cause =
      (some, own, subst (λ (l : List ℕ). files.Cause l (disk.seen side) (trouble.Damaged at found)) same (subst (λ (l : List ℕ). files.Cause (disk.seen mid) l (trouble.Damaged at found)) same' cause))
  own_cause log side mid mid' same same' some own (trouble.DamagedSide at found) cause =
      (some, own, subst (λ (l : List ℕ). files.Cause l (disk.seen side) (trouble.DamagedSide at found)) same (subst (λ (l : List ℕ). files.Cause (disk.seen mid) l (trouble.DamagedSide at found)) same' cause))
  own_cause log side mid mid' same same' some own trouble.Full cause =
      (some, own, subst (λ (l : List ℕ). files.Cause l (disk.seen side) trouble.Full) same (subst (λ (l : List ℕ). files.Cause (disk.seen mid) l trouble.Full) same' cause))
  own_cause log side mid mid' same same' some own trouble.Memory cause = tt

  opens_along : (log side log' side' : List ℕ) (h : History) → log' ≡ log → side' ≡ side → Opens log' side' store h → Opens log side store h
  opens_along log side log' side' h same same' o = subst (λ (l : List ℕ). Opens l side store h) same (subst (λ (l : List ℕ). Opens log' l store h) same' o)

  still_leaves : (P : List ℕ → Type 0) (log mid : D) → Still disk log mid → LeavesOnly disk log mid (λ c. disk.may_leave log c ⊎ P c)
  still_leaves P log mid still = record {
    later = still.time.later;
    each = λ c left. elim (still.time.nothing_else (disk.moment log) c (omega arith) left) [ inl was ↦ inl (disk.only_now log c was) | inr may ↦ inl may ];
    before = λ t c le left. elim (still.time.nothing_else t c le left) [ inl was ↦ inl was | inr may ↦ inr (inl may) ];
  }

  -- where the log is not empty, and no other store's by its header
  pub before_own : (log side mid mid' : D) → Still disk log mid → Still disk side mid' → disk.faults mid + disk.faults mid' ≡ disk.faults log + disk.faults side
      → (disk.tells log → disk.tells side → (disk.seen log ≡ [] → ⊥) × (IsOtherStore store (disk.seen log) → ⊥)) → Before disk store log side mid mid'
  before_own log side mid mid' still still' calm kind = record {
    told = λ told told'. still.told told;
    side_still = still';
    calm = calm;
    forward = λ told told' held gives. elim gives [
      | inl empty ↦ absurd ((kind told told').0 empty.0)
      | inr list ↦ (list.0, opens_along (disk.seen mid) (disk.seen mid') (disk.seen log) (disk.seen side) list.0 (sym still.seen_same) (sym still'.seen_same) list.1, list.2)
    ];
    back = λ told told' h o. inr (h, opens_along (disk.seen log) (disk.seen side) (disk.seen mid) (disk.seen mid') h still.seen_same still'.seen_same o, refl);
    crash = λ told told'. still_leaves (λ c. (disk.seen log ≡ []) × IsInTheMaking (header.Room store) c) log mid still;
    cause = λ told told' t cause. own_cause log side mid mid' still.seen_same still'.seen_same (kind told told').0 (kind told told').1 t cause;
    wrong = λ told told' log' cause left. elim left [
      | inl same ↦ still_then disk log mid log' still same
      | inr other ↦ absurd ((kind told told').1 (subst (IsOtherStore store) still.seen_same other))
    ];
  }

  -- ---- what is refused by lengths and a header alone

  pub kind_refused : (log side mid mid' : D) (t : Trouble) → Still disk log mid → Still disk side mid' → (disk.tells log → disk.tells side → Cause store (disk.seen log) (disk.seen side) t)
      → TroubleCounts (disk.faults log + disk.faults side) (disk.faults mid + disk.faults mid') t → IsRefused disk store log side mid mid' t
  kind_refused log side mid mid' t still still' cause count = record {
    cause = cause;
    count = count;
    wrong = λ is told told'. still;
    crash = λ told told'. still_leaves (λ c. ((disk.seen log ≡ []) × IsInTheMaking (header.Room store) c) ⊎ OpensAgain disk store log side mid' c) log mid still;
    still = λ told'. still';
  }

-- ---- a store in the making

module _ (store : Bytes) (long : length store ≡ 16) where
  abbrev made : List ℕ
  made = header_bytes (header.Room store) ++ 0 ∷ []

  head_long : length (header_bytes (header.Room store)) ≡ 64
  unfolding room_head
  head_long = omega (arith, long, length-append store (replicate 32 0))

  made_opens : opened (header_bytes (header.Room store)) made ≡ Some []
  made_opens = ap (λ (l : List ℕ). opened (header_bytes (header.Room store)) (l ++ 0 ∷ [])) (sym (append-nil (header_bytes (header.Room store))))
      ∙ opened_closed (header_bytes (header.Room store)) [] 0 [] tt (omega (arith, head_long, length-append (header_bytes (header.Room store)) [])) (omega arith)

  edition_made : edition_of made ≡ 2
  edition_made = edition_there 2 (replicate 6 0) store (0 ∷ [])

  base_made : base_bytes made ≡ replicate 6 0
  base_made = base_there 2 (replicate 6 0) store (0 ∷ []) refl

  six_none : six 0 ≡ replicate 6 0
  unfolding six
  six_none = refl

  none_before : base_of made ≡ 0
  none_before = ap number (base_made ∙ sym six_none) ∙ number_six 0 (omega arith)

  nothing_packed : packed_in store [] ≡ []
  unfolding opened side_head
  nothing_packed = refl

  made_pair : PairOpens store made [] []
  made_pair = record {
    side_is = inl (inl (omega arith));
    bare = λ b. none_before;
    edition = inr edition_made;
    tail = [];
    log_is = ap (λ (e : ℕ). opened (room_head e (base_bytes made) store) made) edition_made ∙ ap (λ (l : List ℕ). opened (room_head 2 l store) made) base_made ∙ made_opens;
    joined = sym nothing_packed;
  }

  made_list : Opens made [] store []
  made_list = record { pair = made_pair; kept = record { legal = tt; formed = tt } }

  none_other : IsOtherStore store made → ⊥
  none_other other = other.other (same_store other.owner store made other.of (opens_of made [] store [] long made_list))

  no_cause : (t : Trouble) → files.Cause made [] t → IsNotOfBytes t
  no_cause t cause = served made [] store [] long made_list t cause

  module _ {D : Type 0} (disk : DiskMeaning D) where
    -- of two empty files the log was made, whose bytes are these now
    module _ (log side mid mid' new : D) (now : disk.tells log → disk.tells side → disk.seen new ≡ made) (side_now : disk.tells log → disk.tells side → disk.seen mid' ≡ []) where
      now_opens : disk.tells log → disk.tells side → Opens (disk.seen new) (disk.seen mid') store []
      now_opens told told' = opens_along disk store (disk.seen new) (disk.seen mid') made [] [] (sym (now told told')) (sym (side_now told told')) made_list

      made_cause : disk.tells log → disk.tells side → (t : Trouble) → OwnCause disk store new mid' t → IsNotOfBytes t
      made_cause told told' trouble.WrongStore (inl cause) = served (disk.seen new) (disk.seen mid') store [] long (now_opens told told') trouble.WrongStore cause
      made_cause told told' trouble.WrongStore (inr other) = none_other (subst (IsOtherStore store) (now told told') other)
      made_cause told told' trouble.Store cause = tt
      made_cause told told' (trouble.Damaged at found) cause = served (disk.seen new) (disk.seen mid') store [] long (now_opens told told') (trouble.Damaged at found) cause
      made_cause told told' (trouble.DamagedSide at found) cause = served (disk.seen new) (disk.seen mid') store [] long (now_opens told told') (trouble.DamagedSide at found) cause
      made_cause told told' trouble.Full cause = served (disk.seen new) (disk.seen mid') store [] long (now_opens told told') trouble.Full cause
      made_cause told told' trouble.Memory cause = tt

    not_of_bytes : (log side : List ℕ) (t : Trouble) → IsNotOfBytes t → Cause store log side t
    not_of_bytes log side trouble.WrongStore none = absurd none
    not_of_bytes log side trouble.Store none = tt
    not_of_bytes log side (trouble.Damaged at found) none = absurd none
    not_of_bytes log side (trouble.DamagedSide at found) none = absurd none
    not_of_bytes log side trouble.Full none = absurd none
    not_of_bytes log side trouble.Memory none = tt

    -- a log that was read, and then written
    making_leaves : (log mid new : D) → disk.seen log ≡ [] → Still disk log mid → LeavesOnly disk mid new (IsInTheMaking (header.Room store))
        → LeavesOnly disk log new (λ c. disk.may_leave log c ⊎ ((disk.seen log ≡ []) × IsInTheMaking (header.Room store) c))
    making_leaves log mid new empty still making =
        let first = still_leaves disk store (λ c. (disk.seen log ≡ []) × IsInTheMaking (header.Room store) c) log mid still in
        record {
          later = omega (arith, first.later, making.later);
          each = λ c left. elim (making.before (disk.moment log) c first.later left) [ inl was ↦ first.each c was | inr now ↦ inr (empty, now) ];
          before = λ t c le left. elim (making.before t c (omega (arith, le, first.later)) left) [ inl was ↦ first.before t c le was | inr now ↦ inr (inr (empty, now)) ];
        }

    pub before_made : (log side mid mid' new : D) → Still disk log mid → Still disk side mid' → (disk.tells log → disk.tells side → (disk.seen log ≡ []) × (disk.seen side ≡ [])) → (disk.tells mid → disk.seen mid ≡ [] → disk.tells new)
        → disk.faults new + disk.faults mid' ≡ disk.faults log + disk.faults side → (disk.tells mid → disk.seen mid ≡ [] → disk.seen new ≡ made) → (disk.tells mid → disk.seen mid ≡ [] → LeavesOnly disk mid new (IsInTheMaking (header.Room store)))
        → Before disk store log side new mid'
    before_made log side mid mid' new still still' kind tells calm bytes making =
        let none : disk.tells log → disk.tells side → disk.seen mid ≡ [] = λ told told'. still.seen_same ∙ (kind told told').0 in
        let now : disk.tells log → disk.tells side → disk.seen new ≡ made = λ told told'. bytes (still.told told) (none told told') in
        let side_now : disk.tells log → disk.tells side → disk.seen mid' ≡ [] = λ told told'. still'.seen_same ∙ (kind told told').1 in
        record {
          told = λ told told'. tells (still.told told) (none told told');
          side_still = still';
          calm = calm;
          forward = λ told told' held gives. ([], now_opens log side mid mid' new now side_now told told', one_gives store (disk.seen log) (disk.seen side) held [] gives (inl ((kind told told').0, (kind told told').1, refl)));
          back = λ told told' h o.
              let here = now_opens log side mid mid' new now side_now told told' in
              inl ((kind told told').0, (kind told told').1, opens_one store (disk.seen new) (disk.seen mid') (payloads entry_bytes h) [] o.pair here.pair);
          crash = λ told told'. making_leaves log mid new (kind told told').0 still (making (still.told told) (none told told'));
          cause = λ told told' t cause. not_of_bytes (disk.seen log) (disk.seen side) t (made_cause log side mid mid' new now side_now told told' t cause);
          wrong = λ told told' log' cause left. absurd (made_cause log side mid mid' new now side_now told told' trouble.WrongStore cause);
        }

    -- the log could not be made
    pub unmade_refused : (log side mid mid' log' : D) (t : Trouble) → t ≡ trouble.Store → Still disk log mid → Still disk side mid' → (disk.tells log → disk.tells side → (disk.seen log ≡ []) × (disk.seen side ≡ []))
        → Rose (disk.faults log + disk.faults side) (disk.faults log' + disk.faults mid') → (disk.tells mid → disk.seen mid ≡ [] → LeavesOnly disk mid log' (IsInTheMaking (header.Room store)))
        → IsRefused disk store log side log' mid' t
    unmade_refused log side mid mid' log' t is still still' kind rose making = subst (IsRefused disk store log side log' mid') (sym is) (record {
      cause = λ told told'. tt;
      count = rose;
      wrong = λ wrong told told'. absurd (cc wrong);
      crash = λ told told'.
          let all = making_leaves log mid log' (kind told told').0 still (making (still.told told) (still.seen_same ∙ (kind told told').0)) in
          record {
            later = all.later;
            each = λ c left. wider log side mid' c (all.each c left);
            before = λ t c le left. elim (all.before t c le left) [ inl was ↦ inl was | inr now ↦ inr (wider log side mid' c now) ];
          };
      still = λ told'. still';
    })
      where
        wider : (log side side' : D) (c : List ℕ) → disk.may_leave log c ⊎ ((disk.seen log ≡ []) × IsInTheMaking (header.Room store) c) → MayGain disk store log side side' c
        wider log side side' c (inl may) = inl may
        wider log side side' c (inr making) = inr (inl making)

-- ---- the last steps

pub other_is : (store log side : List ℕ) → IsOtherStore store log ⊎ ((log ≡ []) × (side ≡ [] → ⊥)) → Cause store log side trouble.WrongStore
other_is store log side (inl other) = inl other
other_is store log side (inr empty) = inr (inl empty)

pub calm_made : (log side mid mid' new : ℕ) → mid + mid' ≡ log + side → new ≡ mid → new + mid' ≡ log + side
calm_made log side mid mid' new calm same = omega (arith, calm, same)

pub rose_made : (log side mid mid' new : ℕ) → mid + mid' ≡ log + side → Rose mid new → Rose (log + side) (new + mid')
rose_made log side mid mid' new calm (inl more) = inl (omega (arith, calm, more))
rose_made log side mid mid' new calm (inr last) = inr (omega (arith, last))

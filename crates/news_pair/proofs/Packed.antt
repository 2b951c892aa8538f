-- What the parts of packing leave of a pair.
use Rattle.std.proofs.Common.{◌≡◌, ◌⊎◌, inl, inr, ℕ, ◌+◌, ◌<◌, ◌^◌, List, [], ◌∷◌, ◌++◌, length, take, drop, false, Option, Some, refl, sym, ◌∙◌, ap, subst, arith, append_assoc, length-append, take-append-drop}
use Rattle.std.proofs.lemmas.List.{append-nil, take-take, drop-take, take_all, drop_all}
use Rattle.news_types.specs.Names.{Bytes}
use Rattle.news_io.specs.Disk.{DiskMeaning, Only}
use Rattle.news_io.specs.Keeper.{Leaves}
use Rattle.news_journal.specs.Log.{room_head, opened, records, AllFit}
use Rattle.news_journal.specs.Stands.{IsShut, Logs, list_of, listed}
use Rattle.news_journal.specs.Read.{opened_closed}
use Rattle.news_journal.specs.Law.{outcome_opens, list_is}
use Rattle.news_pair.specs.Segments.{segment_in}
use Rattle.news_pair.specs.Pair.{side_head, six, IsBare, IsSideFile, IsSideInTheMaking, AreSegments, entries_of, packed_by, packed_in, Follows, HasNoRecord, PairFinds}
use Rattle.news_pair.specs.Stands.{HoldsList, SideStands, HasSegments}
use Rattle.news_pair.specs.Law.{length-six, not_bare, segments_open, length-side, side_so, follows_joined, opens_as, opens_beside, finds_one}
use Rattle.news_journal.specs.declared.log.Journal.{Journal}
use Rattle.news_pair.proofs.Emptied.{length-room, bare_packed, no_record_list, all_packed, emptied_shut}
use Rattle.news_pair.proofs.Journals.{closed_logs}

-- a log whose gate is closed, with its first record
pub record HasFirst (head : List ℕ) (p : List Bytes) (seen : List ℕ) (may_leave : List ℕ → Type 0) : Type 0 where
  pub first : Bytes
  pub others : List Bytes
  pub are : p ≡ first ∷ others
  pub fit : AllFit (first ∷ others)
  pub small : length (head ++ records (first ∷ others)) < 2 ^ 30
  pub shut : IsShut (head ++ records (first ∷ others)) seen may_leave

pub end_bare : (store seen : List ℕ) (m : List ℕ → Type 0) (end : ℕ) → length store ≡ 16 → SideStands store seen m end → end ≡ 0 → IsBare seen
end_bare store seen m end long (inl bare) is = bare.1
end_bare store seen m end long (inr has) is = absurd (omega (arith, has.1.place, is, length-append (side_head store) (records has.0), length-side store long))

first_of_list : (p : List Bytes) → 0 < length p → (x : Bytes) × (q : List Bytes) × (p ≡ x ∷ q)
first_of_list [] some = absurd (omega arith)
first_of_list (x ∷ q) some = (x, q, refl)

-- a side in the making has no entries
in_the_making : (store s : List ℕ) → length store ≡ 16 → IsSideInTheMaking store s → (IsBare s ⊎ IsSideFile store s) × (packed_in store s ≡ [])
in_the_making store s long (inl bare) = (inl bare, bare_packed store s long bare)
in_the_making store s long (inr made) = (inr (record { segments = []; is = opens; are = tt }), ap (λ (o : Option (List Bytes)). packed_by (listed o)) opens)
  where
    opens : opened (side_head store) s ≡ Some []
    opens =
        let head = side_head store in
        ap (opened head) (made.1 ∙ ap (λ (l : List ℕ). l ++ 0 ∷ made.0) (sym (append-nil head)))
        ∙ opened_closed head [] 0 made.0 tt (omega (arith, length-side store long, length-append head [])) (λ no. absurd (cc no))

-- ---- one segment more

pub by_head : (h h' c : List ℕ) (ps qs : List Bytes) → h ≡ h' → (opened h c ≡ Some ps) ⊎ (opened h c ≡ Some qs) → (opened h' c ≡ Some ps) ⊎ (opened h' c ≡ Some qs)
by_head h h' c ps qs same either = subst (λ (l : List ℕ). (opened l c ≡ Some ps) ⊎ (opened l c ≡ Some qs)) same either

-- one payload is in doubt
pub doubted : (ps : List Bytes) (D : Bytes → Type 0) (p : Bytes) → ((x : Bytes) → D x → x ≡ p) → (found : Option (List Bytes)) → Leaves ps D found → (found ≡ Some ps) ⊎ (found ≡ Some (ps ++ p ∷ []))
doubted ps D p one found (inl is) = inl is
doubted ps D p one found (inr more) = inr (more.2 ∙ ap (λ (x : Bytes). Some (ps ++ x ∷ [])) (one more.0 more.1))

pub are_push : (n : ℕ) (segs : List Bytes) (p : Bytes) (es : List Bytes) → AreSegments n segs → segment_in p ≡ Some (n + length (packed_by segs), es) → AreSegments n (segs ++ p ∷ [])
are_push n [] p es are is = (es, is ∙ ap (λ (k : ℕ). Some (k, es)) (omega arith), tt)
are_push n (q ∷ segs) p es are is =
    let size : length (packed_by (q ∷ segs)) ≡ length are.0 + length (packed_by segs) =
    ap (λ (o : Option (ℕ × List Bytes)). length (entries_of o ++ packed_by segs)) are.1 ∙ length-append are.0 (packed_by segs) in
    let sum : n + length (packed_by (q ∷ segs)) ≡ (n + length are.0) + length (packed_by segs) = omega (arith, size) in
    (are.0, are.1, are_push (n + length are.0) segs p es are.2 (is ∙ ap (λ (k : ℕ). Some (k, es)) sum))

packed_push : (segs : List Bytes) (p : Bytes) → packed_by (segs ++ p ∷ []) ≡ packed_by segs ++ entries_of (segment_in p)
packed_push [] p = append-nil (entries_of (segment_in p))
packed_push (q ∷ segs) p = ap (λ (l : List Bytes). entries_of (segment_in q) ++ l) (packed_push segs p) ∙ sym (append_assoc (entries_of (segment_in q)) (packed_by segs) (entries_of (segment_in p)))

pub packed_more : (segs : List Bytes) (p : Bytes) (n : ℕ) (es : List Bytes) → segment_in p ≡ Some (n, es) → packed_by (segs ++ p ∷ []) ≡ packed_by segs ++ es
packed_more segs p n es is = packed_push segs p ∙ ap (λ (o : Option (ℕ × List Bytes)). packed_by segs ++ entries_of o) is

take_parts : (a b : ℕ) (l : List Bytes) → take (a + b) l ≡ take a l ++ take b (drop a l)
take_parts a b l =
    sym (take-append-drop a (take (a + b) l))
    ∙ ap (λ (x : List Bytes). x ++ drop a (take (a + b) l)) (take-take a (a + b) l (omega arith))
    ∙ ap (λ (x : List Bytes). take a l ++ x) (drop-take a b l)

pub follows_more : (b k : ℕ) (g p h es : List Bytes) → Follows b g p h → length es ≡ k → take k (drop (length g) h) ≡ es → Follows b (g ++ es) p h
follows_more b k g p h es f size is = record {
  within = omega (arith, f.within, length-append g es);
  front =
      let long : length (g ++ es) ≡ length g + k = length-append g es ∙ ap (λ (n : ℕ). length g + n) size in
      ap (λ (n : ℕ). take n h) long ∙ take_parts (length g) k h ∙ ap (λ (x : List Bytes). x ++ take k (drop (length g) h)) f.front ∙ ap (λ (x : List Bytes). g ++ x) is;
  count = f.count;
  behind = f.behind;
}

pub has_segments : (store seen : List ℕ) (m : List ℕ → Type 0) (end : ℕ) → SideStands store seen m end → 0 < end → (segments : List Bytes) × HasSegments store seen m end segments
has_segments store seen m end (inl bare) some = absurd (omega (arith, bare.0))
has_segments store seen m end (inr has) some = has

module _ {D : Type 0} (disk : DiskMeaning D) (log : Journal D) (side : D) (store : Bytes) (base packed end : ℕ) (h : List Bytes) (pairs : HoldsList disk log side store base packed end h) where
  pub has_first : log.ajar ≡ false → 0 < length (list_of disk log) → HasFirst (room_head pairs.head.edition (six base) store) (list_of disk log) (disk.seen log.disk) (disk.may_leave log.disk)
  has_first shut some =
      let f = first_of_list (list_of disk log) some in
      record {
        first = f.0;
        others = f.1;
        are = f.2;
        fit = subst AllFit f.2 pairs.log_is.fit;
        small = subst (λ (l : List ℕ). length l < 2 ^ 30) whole (subst (λ (n : ℕ). n < 2 ^ 30) pairs.log_is.gate pairs.log_is.small);
        shut = subst (λ (l : List ℕ). IsShut l (disk.seen log.disk) (disk.may_leave log.disk)) whole (pairs.log_is.shut shut);
      }
    where
      whole : log.head ++ records (list_of disk log) ≡ room_head pairs.head.edition (six base) store ++ records ((first_of_list (list_of disk log) some).0 ∷ (first_of_list (list_of disk log) some).1)
      whole = ap (λ (l : List ℕ). l ++ records (list_of disk log)) pairs.head.is ∙ ap (λ (p : List Bytes). room_head pairs.head.edition (six base) store ++ records p) (first_of_list (list_of disk log) some).2

  list_packed : length h ≡ packed → h ≡ packed_in store (disk.seen side)
  list_packed all = all_packed base (packed_in store (disk.seen side)) (list_of disk log) h pairs.follows (all ∙ pairs.count)

  has_file : length h ≡ packed → 0 < length (list_of disk log) → IsBare (disk.seen side) → ⊥
  has_file all some bare = omega (arith, ap length (list_packed all), ap length (bare_packed store (disk.seen side) pairs.head.store_is bare), pairs.follows.count, some)

  -- the log with its records, or without one
  pub empty_finds : length h ≡ packed → 0 < length (list_of disk log) → (p : List Bytes) → list_of disk log ≡ p → (c s : List ℕ) → (opened (room_head pairs.head.edition (six base) store) c ≡ Some p) ⊎ HasNoRecord store c → disk.may_leave side s
      → (found : Option (List Bytes)) → PairFinds store c s found → found ≡ Some h
  empty_finds all some p are c s (inl is) left found finds =
      finds_one store c s h found
      (opens_as store log.head c base (list_of disk log) pairs.head (ap (λ (l : List ℕ). opened l c) pairs.head.is ∙ is ∙ ap (λ (l : List Bytes). Some l) (sym are)) s (disk.seen side) (disk.may_leave side) end h pairs.side_is pairs.bare (pairs.synced s left) pairs.follows) finds
  empty_finds all some p are c s (inr none) left found finds =
      let same = pairs.synced s left in
      finds_one store c s h found
      (no_record_list store c pairs.head.store_is none s h (subst (λ (l : List ℕ). IsBare l ⊎ IsSideFile store l) (sym same) (side_so store (disk.seen side) (disk.may_leave side) end pairs.side_is))
      (λ b. has_file all some (subst IsBare same b)) (ap (packed_in store) same ∙ sym (list_packed all))) finds

  -- and then it is empty
  pub empty_holds : length h ≡ packed → 0 < length (list_of disk log) → (j : Journal D) (d : D) (tail : List ℕ) → j.disk ≡ d → j.head ≡ room_head pairs.head.edition (six packed) store → j.gate ≡ 64 → j.ajar ≡ false → disk.tells d
      → disk.seen d ≡ room_head pairs.head.edition (six packed) store ++ 0 ∷ tail → Only (disk.seen d) (disk.may_leave d) → HoldsList disk j side store packed packed end h
  empty_holds all some j d tail disk_is head_is gate_is ajar_is told is only = record {
    log_is = subst (Logs disk j) (sym nothing) logs;
    head = record { edition = pairs.head.edition; is_edition = pairs.head.is_edition; is = head_is; small = pairs.few; store_is = pairs.head.store_is };
    few = pairs.few;
    told = pairs.told;
    synced = pairs.synced;
    side_is = pairs.side_is;
    bare = λ b. absurd (has_file all some (end_bare store (disk.seen side) (disk.may_leave side) end pairs.head.store_is pairs.side_is b));
    count = pairs.count;
    follows = record {
      within = omega (arith, pairs.count);
      front = take_all (length (packed_in store (disk.seen side))) h (omega (arith, all, pairs.count)) ∙ list_packed all;
      count = omega (arith, all, ap length nothing);
      behind = drop_all packed h (omega (arith, all)) ∙ sym nothing;
    };
  }
    where
      logs : Logs disk j []
      logs =
          let head = room_head pairs.head.edition (six packed) store in
          closed_logs disk j d head 64 disk_is head_is gate_is ajar_is [] told tt (sym (length-room pairs.head.edition (six packed) store (length-six packed) pairs.head.store_is) ∙ ap length (sym (append-nil head))) (omega arith) (emptied_shut head (disk.seen d) tail 0 (disk.may_leave d) is (λ no. absurd (cc no)) only)

      nothing : list_of disk j ≡ []
      nothing = list_is disk j [] logs

  -- each outcome of the log opens to its records
  pub log_opens : log.ajar ≡ false → (c : List ℕ) → disk.may_leave log.disk c → opened log.head c ≡ Some (list_of disk log)
  log_opens shut c left = elim (outcome_opens disk log (list_of disk log) pairs.log_is c (inr left)) [
    | inl is ↦ is
    | inr more ↦ absurd (cc (more.1.is_ajar, shut))
  ]

  -- a side with as many entries as these, which are the list's first
  pub side_finds : log.ajar ≡ false → (c s : List ℕ) → disk.may_leave log.disk c → IsBare s ⊎ IsSideFile store s → (IsBare s → base ≡ 0) → Follows base (packed_in store s) (list_of disk log) h
      → (found : Option (List Bytes)) → PairFinds store c s found → found ≡ Some h
  side_finds shut c s left side bare follows found finds =
      finds_one store c s h found (opens_beside store log.head c base (list_of disk log) pairs.head (log_opens shut c left) s h side bare (follows_joined base (packed_in store s) (list_of disk log) h follows)) finds

  -- a side in the making
  none_packed : end ≡ 0 → packed_in store (disk.seen side) ≡ []
  none_packed none = bare_packed store (disk.seen side) pairs.head.store_is (end_bare store (disk.seen side) (disk.may_leave side) end pairs.head.store_is pairs.side_is none)

  pub making_finds : log.ajar ≡ false → end ≡ 0 → (c s : List ℕ) → disk.may_leave log.disk c → IsSideInTheMaking store s → (found : Option (List Bytes)) → PairFinds store c s found → found ≡ Some h
  making_finds shut none c s left making found finds =
      let m = in_the_making store s pairs.head.store_is making in
      side_finds shut c s left m.0 (λ b. pairs.bare none) (subst (λ (g : List Bytes). Follows base g (list_of disk log) h) (none_packed none ∙ sym m.1) pairs.follows) found finds

  pub making_holds : end ≡ 0 → (side' : D) (rest : List ℕ) → disk.tells side' → disk.seen side' ≡ side_head store ++ 0 ∷ rest → Only (disk.seen side') (disk.may_leave side') → HoldsList disk log side' store base packed 64 h
  making_holds none side' rest told is only = record {
    log_is = pairs.log_is;
    head = pairs.head;
    few = pairs.few;
    told = told;
    synced = only;
    side_is = inr ([], record { fit = tt; are = tt; place = sym (length-side store pairs.head.store_is) ∙ ap length (sym (append-nil (side_head store))); small = omega arith; shut = emptied_shut (side_head store) (disk.seen side') rest 0 (disk.may_leave side') is (λ no. absurd (cc no)) only });
    bare = λ no. absurd (omega (arith, no));
    count = pairs.count ∙ ap length (none_packed none) ∙ ap length (sym made.1);
    follows = subst (λ (g : List Bytes). Follows base g (list_of disk log) h) (none_packed none ∙ sym made.1) pairs.follows;
  }
    where
      made : (IsBare (disk.seen side') ⊎ IsSideFile store (disk.seen side')) × (packed_in store (disk.seen side') ≡ [])
      made = in_the_making store (disk.seen side') pairs.head.store_is (inr (rest, is))

  -- the side with one segment more, which holds the next entries of the list
  module _ (segments : List Bytes) (has : HasSegments store (disk.seen side) (disk.may_leave side) end segments) (payload : Bytes) (es : List Bytes) (count : ℕ) (segment : segment_in payload ≡ Some (packed, es)) (size : length es ≡ count) (next : take count (drop packed h) ≡ es) where
    packed_is : packed_in store (disk.seen side) ≡ packed_by segments
    packed_is = ap (λ (o : Option (List Bytes)). packed_by (listed o)) (segments_open store (disk.seen side) (disk.may_leave side) end segments has)

    so_many : packed ≡ length (packed_by segments)
    so_many = pairs.count ∙ ap length packed_is

    are_more : AreSegments 0 (segments ++ payload ∷ [])
    are_more = are_push 0 segments payload es has.are (segment ∙ ap (λ (n : ℕ). Some (n, es)) (omega (arith, so_many)))

    follows_by : Follows base (packed_by segments) (list_of disk log) h
    follows_by = subst (λ (g : List Bytes). Follows base g (list_of disk log) h) packed_is pairs.follows

    follows_then : Follows base (packed_by (segments ++ payload ∷ [])) (list_of disk log) h
    follows_then =
        subst (λ (g : List Bytes). Follows base g (list_of disk log) h) (sym (packed_more segments payload packed es segment))
        (follows_more base count (packed_by segments) (list_of disk log) h es follows_by size (ap (λ (n : ℕ). take count (drop n h)) (sym so_many) ∙ next))

    pub segment_finds : log.ajar ≡ false → (c s : List ℕ) → disk.may_leave log.disk c → (opened (side_head store) s ≡ Some segments) ⊎ (opened (side_head store) s ≡ Some (segments ++ payload ∷ []))
        → (found : Option (List Bytes)) → PairFinds store c s found → found ≡ Some h
    segment_finds shut c s left (inl is) found finds =
        side_finds shut c s left (inr (record { segments = segments; is = is; are = has.are })) (λ b. absurd (not_bare store s segments pairs.head.store_is is b))
        (subst (λ (o : Option (List Bytes)). Follows base (packed_by (listed o)) (list_of disk log) h) (sym is) follows_by) found finds
    segment_finds shut c s left (inr is) found finds =
        side_finds shut c s left (inr (record { segments = segments ++ payload ∷ []; is = is; are = are_more })) (λ b. absurd (not_bare store s (segments ++ payload ∷ []) pairs.head.store_is is b))
        (subst (λ (o : Option (List Bytes)). Follows base (packed_by (listed o)) (list_of disk log) h) (sym is) follows_then) found finds

    pub segment_holds : (j : Journal D) → Logs disk j (segments ++ payload ∷ []) → j.head ≡ side_head store → j.ajar ≡ false → Only (disk.seen j.disk) (disk.may_leave j.disk) → (packed' end' : ℕ) → packed' ≡ packed + count → packed' < 2 ^ 48 → end' ≡ j.gate
        → (d : D) → d ≡ j.disk → HoldsList disk log d store base packed' end' h
    segment_holds j logs head shut only packed' end' sum few end_is d same = subst (λ (x : D). HoldsList disk log x store base packed' end' h) (sym same) (subst (λ (n : ℕ). HoldsList disk log j.disk store base packed' n h) (sym end_is) holds)
      where
        whole : j.head ++ records (segments ++ payload ∷ []) ≡ side_head store ++ records (segments ++ payload ∷ [])
        whole = ap (λ (l : List ℕ). l ++ records (segments ++ payload ∷ [])) head

        stands : HasSegments store (disk.seen j.disk) (disk.may_leave j.disk) j.gate (segments ++ payload ∷ [])
        stands = record {
          fit = logs.fit;
          are = are_more;
          place = logs.gate ∙ ap length whole;
          small = logs.small;
          shut = subst (λ (l : List ℕ). IsShut l (disk.seen j.disk) (disk.may_leave j.disk)) whole (logs.shut shut);
        }

        now : packed_in store (disk.seen j.disk) ≡ packed_by (segments ++ payload ∷ [])
        now = ap (λ (o : Option (List Bytes)). packed_by (listed o)) (segments_open store (disk.seen j.disk) (disk.may_leave j.disk) j.gate (segments ++ payload ∷ []) stands)

        holds : HoldsList disk log j.disk store base packed' j.gate h
        holds = record {
          log_is = pairs.log_is;
          head = pairs.head;
          few = few;
          told = logs.told;
          synced = only;
          side_is = inr (segments ++ payload ∷ [], stands);
          bare = λ none. absurd (omega (arith, none, stands.place, length-append (side_head store) (records (segments ++ payload ∷ [])), length-side store pairs.head.store_is));
          count = omega (arith, sum, so_many, size, ap length now, ap length (packed_more segments payload packed es segment), length-append (packed_by segments) es);
          follows = subst (λ (g : List Bytes). Follows base g (list_of disk log) h) (sym now) follows_then;
        }

  -- the side as a journal of its segments
  pub side_logs : (segments : List Bytes) → HasSegments store (disk.seen side) (disk.may_leave side) end segments → (j : Journal D) → j.disk ≡ side → j.head ≡ side_head store → j.gate ≡ end → j.ajar ≡ false → Logs disk j segments
  side_logs segments has j disk_is head_is gate_is ajar_is =
      closed_logs disk j side (side_head store) end disk_is head_is gate_is ajar_is segments pairs.told has.fit has.place has.small has.shut

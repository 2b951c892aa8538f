-- A list that was packed, said of the bytes of its files.
use Rattle.std.proofs.Common.{◌≡◌, inl, inr, ℕ, ◌<◌, List, [], ◌∷◌, ◌++◌, length, drop, Bool, cond, Option, Some, None, refl, sym, ap, ◌∙◌, subst, arith, length-append}
use Rattle.std.proofs.lemmas.Bool.{ne_eqb}
use Rattle.news_types.specs.Names.{Bytes}
use Rattle.news_types.specs.Doubt as doubt
use Rattle.news_types.specs.History.{History}
use Rattle.byte_formats.specs.Lawful.{IsBytes}
use Rattle.entry_codec.specs.Spelling.{entry_bytes}
use Rattle.news_io.specs.Disk.{DiskMeaning}
use Rattle.news_io.specs.Outside.{Files}
use Rattle.news_journal.specs.Law.{outcome_opens}
use Rattle.news_journal.specs.Log.{room_head, opened, records}
use Rattle.news_journal.specs.Stands.{listed, list_of}
use Rattle.news_pair.specs.Filling.{Fills, Filled, first_gate}
use Rattle.news_pair.specs.Law.{opens_one, opens_so, pair_opens, follows_push, segments_open, not_bare, length-side}
use Rattle.news_pair.specs.Packed.{IsPacked}
use Rattle.news_pair.specs.Pair as pair
use Rattle.news_pair.specs.Pair.{packed_by, packed_in, PairOpens, PairFinds}
use Rattle.news_pair.specs.Stands.{HasSegments, SideStands, Pairs, LogStays, SideStays}
use Rattle.news_pair.specs.Steps as steps
use Rattle.news_pair.specs.Steps.Stays.{as_they_are, side_written, log_written}
use Rattle.news_pair.specs.declared.pair.Pair.{Pair}
use Rattle.news_pair.proofs.Finding.{pair_found}
use Rattle.news_pair.proofs.WereRead.{one_store}
use Rattle.news_room.specs.Log.{IsStored}
use Rattle.program_run.specs.Opens.{OpenTo, AreBytes, AreSegments, SideHolds, side_head, edition_of, base_bytes, payloads}
use Rattle.program_run.specs.Packed.{SideEnds, GoesIn, SideSince, LogSince, Keeps, Calls, HasNoRecord}
use Rattle.program_run.specs.Packed.Calls.{unwritten, to_side, to_log}
use Rattle.program_run.proofs.Alike.{new_opens, alike_found}
use Rattle.program_run.proofs.Opening.{opened_bytes, segments_spelled, side_holds}

side_head_is : (store : Bytes) → side_head store ≡ pair.side_head store
unfolding side_head pair.side_head
side_head_is store = refl

-- a side that stands for no segment has none
bare_packed : (store side : List ℕ) → length store ≡ 16 → pair.IsBare side → packed_in store side ≡ []
bare_packed store side long bare = by_list (opened (pair.side_head store) side) refl
  where
    by_list : (o : Option (List Bytes)) → opened (pair.side_head store) side ≡ o → packed_in store side ≡ []
    by_list None is = ap (λ (o : Option (List Bytes)). packed_by (listed o)) is
    by_list (Some ps) is = absurd (not_bare store side ps long is bare)

gate_is : (end : ℕ) → 0 < end → first_gate end ≡ end
gate_is end some = ap (λ (b : Bool). cond b 64 end) (ne_eqb end 0 (λ is. omega (arith, some, is)))

module _ {D : Type 0} (disk : DiskMeaning D) (store : Bytes) (long : length store ≡ 16) (list : History) where
  abbrev Listed : List Bytes
  Listed = doubt.payloads entry_bytes list

  -- ---- calls

  module _ (stored : IsStored list) where
    of_found : (files : Files) (found : Option (List Bytes)) → PairFinds store files.0 files.1 found → found ≡ Some Listed → AreBytes files → OpenTo store files list
    of_found files found finds is bytes = new_opens store long files list bytes (record { pair = subst (PairFinds store files.0 files.1) is finds; kept = stored })

    side_keeps : (log side next : D) → SideStays disk store Listed log side next
        → Keeps disk store list (disk.moment side) (disk.moment next) (SideSince disk log side) (SideSince disk log next)
    side_keeps log side next stays = record {
      later = stays.later;
      each = λ t files le left bytes.
          let f = pair_found store files.0 files.1 in
          elim (stays.nothing_else t f.0 le (files.1, left.1, (files.0, left.0, f.1))) [
            | inl was ↦ inr ((was.2.0, was.0), (was.2.1, was.1), alike_found store long (was.2.0, was.0) files f.0 was.2.2 f.1)
            | inr same ↦ inl (of_found files f.0 f.1 same bytes)
          ];
    }

    log_keeps : (side log next : D) → LogStays disk store Listed side log next
        → Keeps disk store list (disk.moment log) (disk.moment next) (LogSince disk log side) (LogSince disk next side)
    log_keeps side log next stays = record {
      later = stays.later;
      each = λ t files le left bytes.
          let f = pair_found store files.0 files.1 in
          elim (stays.nothing_else t f.0 le (files.0, left.0, (files.1, left.1, f.1))) [
            | inl was ↦ inr ((was.0, was.2.0), (was.1, was.2.1), alike_found store long (was.0, was.2.0) files f.0 was.2.2 f.1)
            | inr same ↦ inl (of_found files f.0 f.1 same bytes)
          ];
    }

    pub calls : {log side log' side' : D} → steps.Stays disk store Listed log side log' side' → Calls disk store list log side log' side'
    calls as_they_are = unwritten
    calls (side_written {log' = log'} {side' = side'} {next = next} before step) = to_side (calls before) (side_keeps log' side' next step)
    calls (log_written {log' = log'} {side' = side'} {next = next} before step) = to_log (calls before) (log_keeps side' log' next step)

  -- ---- what the side has room for

  module _ (seen : List ℕ) (may_leave : List ℕ → Type 0) (end : ℕ) (bytes : IsBytes seen) where
    has_segments : (segments : List Bytes) → HasSegments store seen may_leave end segments → SideEnds store seen (first_gate end) (packed_in store seen)
    has_segments segments has =
        let opens : opened (pair.side_head store) seen ≡ Some segments = segments_open store seen may_leave end segments has in
        let packed : packed_in store seen ≡ packed_by segments = ap (λ (o : Option (List Bytes)). packed_by (listed o)) opens in
        let spelled = segments_spelled 0 segments (opened_bytes (pair.side_head store) seen segments bytes opens) has.are in
        let some : 0 < end = omega (arith, has.place, length-append (pair.side_head store) (records segments), length-side store long) in
        inr (
          segments,
          ap (λ (h : List ℕ). opened h seen) (side_head_is store) ∙ opens,
          subst (λ (p : List Bytes). AreSegments 0 segments p) (sym packed) spelled,
          gate_is end some ∙ has.place ∙ ap (λ (h : List ℕ). length (h ++ records segments)) (sym (side_head_is store)),
        )

    ends : SideStands store seen may_leave end → SideEnds store seen (first_gate end) (packed_in store seen)
    ends (inl bare) = inl (bare.1, ap first_gate bare.0, bare_packed store seen long bare.1)
    ends (inr has) = has_segments has.0 has.1

  pub goes_in : (p : Pair D) → p.store ≡ store → Pairs disk p Listed → IsBytes (disk.seen p.side) → (full : Option (ℕ × ℕ)) → Filled (first_gate p.end) p.packed (drop p.packed Listed) full → GoesIn store (disk.seen p.side) list full
  goes_in p same pairs bytes full filled =
      let seen = disk.seen p.side in
      let count : p.packed ≡ length (packed_in store seen) = pairs.count ∙ ap (λ (s : Bytes). length (packed_in s seen)) same in
      record {
        gate = first_gate p.end;
        packed = packed_in store seen;
        side_is = ends seen (disk.may_leave p.side) p.end bytes (subst (λ (s : Bytes). SideStands s seen (disk.may_leave p.side) p.end) same pairs.side_is);
        behind = filled.entries;
        each = filled.each;
        are = filled.are ∙ ap (λ (n : ℕ). drop n Listed) count;
        fills = subst (λ (n : ℕ). Fills (first_gate p.end) n filled.entries full) count filled.fills;
      }

  -- ---- a pair that was packed

  module _ (p : Pair D) (pairs : Pairs disk p Listed) (packed : IsPacked disk p Listed) (holds : PairOpens store (disk.seen p.log.disk) (disk.seen p.side) Listed) where
    abbrev Log : List ℕ
    Log = disk.seen p.log.disk

    abbrev Side : List ℕ
    Side = disk.seen p.side

    -- its store, by a list to which the log opens under its header
    store_by : (tail all : List Bytes) → opened p.log.head Log ≡ Some tail → PairOpens p.store Log Side all → p.store ≡ store
    store_by tail all is opens = one_store Log p.store store opens.tail holds.tail pairs.head.store_is long opens.log_is holds.log_is

    abbrev Empty : Type 0
    Empty = HasNoRecord store Log

    nothing_more : (all : List Bytes) (x : Bytes) → all ≡ all ++ x ∷ [] → ⊥
    nothing_more all x is = omega (arith, ap length is, length-append all (x ∷ []))

    pub emptied : Empty
    emptied = elim (outcome_opens disk p.log (list_of disk p.log) pairs.log_is Log (inl refl)) [
      | inl is ↦
          let opens = pair_opens disk p Listed pairs Log Side (list_of disk p.log) Listed refl is pairs.follows in
          let same = store_by (list_of disk p.log) Listed is opens in
          let none : opened p.log.head Log ≡ Some [] = is ∙ ap (λ (l : List Bytes). Some l) packed.log in
          subst (λ (s : Bytes). opened (room_head (edition_of Log) (base_bytes Log) s) Log ≡ Some []) same (opens_so p.store p.log.head Log p.base [] pairs.head none)
      | inr more ↦
          let grown = follows_push p.base (packed_in p.store Side) (list_of disk p.log) Listed more.0 pairs.follows in
          let opens = pair_opens disk p Listed pairs Log Side (list_of disk p.log ++ more.0 ∷ []) (Listed ++ more.0 ∷ []) refl more.2 grown in
          let same = store_by (list_of disk p.log ++ more.0 ∷ []) (Listed ++ more.0 ∷ []) more.2 opens in
          let there = subst (λ (s : Bytes). PairOpens s Log Side (Listed ++ more.0 ∷ [])) same opens in
          absurd (nothing_more Listed more.0 (opens_one store Log Side Listed (Listed ++ more.0 ∷ []) holds there))
    ]

    pub same_store : p.store ≡ store
    same_store = elim (outcome_opens disk p.log (list_of disk p.log) pairs.log_is Log (inl refl)) [
      | inl is ↦ store_by (list_of disk p.log) Listed is (pair_opens disk p Listed pairs Log Side (list_of disk p.log) Listed refl is pairs.follows)
      | inr more ↦
          let grown = follows_push p.base (packed_in p.store Side) (list_of disk p.log) Listed more.0 pairs.follows in
          store_by (list_of disk p.log ++ more.0 ∷ []) (Listed ++ more.0 ∷ []) more.2 (pair_opens disk p Listed pairs Log Side (list_of disk p.log ++ more.0 ∷ []) (Listed ++ more.0 ∷ []) refl more.2 grown)
    ]

    -- the side has the whole list
    pub taken : IsBytes Side → SideHolds store Side (payloads list)
    taken bytes = subst (SideHolds store Side) (ap (λ (s : Bytes). packed_in s Side) (sym same_store) ∙ packed.side) (side_holds store long Side bytes holds.side_is)

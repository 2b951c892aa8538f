-- What the two files of a store were read as.
use Rattle.std.proofs.Common.{◌≡◌, ◌≢◌, ◌⊎◌, inl, inr, ℕ, zero, suc, ◌+◌, ◌-◌, ◌≤◌, ◌<◌, ◌^◌, List, [], ◌∷◌, ◌++◌, length, get_or, take, drop, cond, eqb, ◌||◌, Option, Some, None, Bool, true, false, Err, refl, sym, ◌∙◌, ap, subst, arith, append_assoc, length-append, length-take, length-drop, take-append-drop}
use Rattle.std.specs.Prelude.{not, nat_lt, slice_index, replicate, IfSome}
use Rattle.std.specs.Option.{option_or}
use Rattle.std.specs.Int.{w32, to_be_bytes}
use Rattle.std.proofs.lemmas.Bool.{cases_lt}
use Rattle.std.proofs.lemmas.Bool.Decides.{nat_tests}
use Rattle.std.proofs.lemmas.List.{append-nil, take_all, drop_all, take_at, drop-append-le}
use Rattle.news_types.specs.Names.{Bytes}
use Rattle.news_io.specs.Disk.{DiskMeaning, Only}
use Rattle.news_io.specs.declared.record.Record.{Record}
use Rattle.news_journal.specs.Log.{room_head, reading, records, opened}
use Rattle.news_journal.specs.Read.{opened_closed}
use Rattle.news_journal.specs.Damage.{header_damage, damage_of}
use Rattle.news_journal.specs.Opened.{payloads, places, HoldsRecords, RecordsAs, IsDamage}
use Rattle.news_journal.specs.Stands.{IsShut, Logs, list_of, listed}
use Rattle.news_journal.specs.Law.{list_is}
use Rattle.news_journal.specs.declared.log.Journal.{Journal}
use Rattle.news_journal.specs.declared.log.OpenFault.{OpenFault}
use Rattle.news_journal.specs.declared.log.OpenFault.TheVariants as log
use Rattle.news_journal.specs.declared.header.Header.{Header}
use Rattle.news_journal.specs.declared.header.Header.TheVariants.{Room}
use Rattle.news_pair.specs.Pair.{side_head, edition_of, base_bytes, base_of, six, IsBare, AreSegments, packed_by, packed_in, Follows, Joined, IsSideFile, HasNoRecord, PairOpens}
use Rattle.news_pair.specs.Stands.{IsRoomHead, SideStands, HoldsList}
use Rattle.news_pair.specs.Law.{length-six, follows_list, side_so, bare_end, opens_beside, opened_begins, opened_long, opens_one}
use Rattle.std.specs.Prelude.{slice_get}
use Rattle.news_pair.specs.Pair.{number}
use Rattle.news_pair.specs.Law.{base_there, number_six}
use Rattle.news_pair.specs.Damage.{Framed, on_side, list_damage, pair_damage, store_of, held, records_in, is_bare, beside, difference, side_damage, log_damage, other_kind, on_log, IsPairDamage}
use Rattle.news_pair.specs.Faults.{fault_of}
use Rattle.news_pair.specs.Opened.{RoomHeadAs, IsRecordFile, Meets, MeetsOrEmpty, SideAs, BareBase, segments_of, end_of, IsLoaded, OpensAs}
use Rattle.news_pair.specs.declared.fault.PairFault.{PairFault}
use Rattle.news_pair.specs.declared.fault.PairFault.TheVariants.{DiskFault, Damaged, DamagedSide, Memory}
use Rattle.news_pair.specs.declared.loaded.Loaded.{Loaded}
use Rattle.news_pair.specs.declared.side_reading.SideLog.{SideLog}
use Rattle.news_pair.proofs.Journals.{closed_logs, opened_gate, file_is, only_outcome}
use Rattle.news_pair.proofs.Judging.{or_none, or_first, or_later, judged_by}
use Rattle.news_pair.proofs.Rows.{length-payloads}
use Rattle.news_pair.proofs.Emptied.{length-room, store_there, bare_packed, no_record_list}
use Rattle.news_pair.proofs.Packed.{end_bare}

pub record_file : (head file : List ℕ) (gate : ℕ) (rs : List Record) → take 64 file ≡ head → HoldsRecords file gate rs → IsRecordFile head gate (payloads rs) file
record_file head file gate rs is holds = record {
  fit = holds.fit;
  place = opened_gate head file gate rs is holds;
  byte = holds.byte;
  closed = holds.closed;
  rest = holds.rest;
  is = file_is head file gate rs is holds;
}

pub records_are : (file : List ℕ) (gate : ℕ) (rs : List Record) → HoldsRecords file gate rs → records_in file ≡ places rs
unfolding records_in
records_are file gate rs holds = ap held holds.reads

-- ---- the side

first_kept : (n : ℕ) (file : List ℕ) → get_or (take (suc n) file) 0 0 ≡ get_or file 0 0
first_kept n [] = refl
first_kept n (b ∷ file) = refl

either : (a b c d : Bool) → a ≡ c → b ≡ d → (a || b) ≡ (c || d)
either a b c d p q = ap (λ (t : Bool). t || b) p ∙ ap (λ (t : Bool). c || t) q

-- the first 65 bytes show it
pub bare_front : (file : List ℕ) → is_bare (take 65 file) ≡ is_bare file
bare_front file = either (nat_lt (length (take 65 file)) 65) (not (eqb (slice_index (take 65 file) 0) 78)) (nat_lt (length file) 65) (not (eqb (slice_index file 0) 78)) size (ap (λ (n : ℕ). not (eqb n 78)) (first_kept 64 file))
  where
    by_length : (n m : ℕ) → n ≡ 65 → 65 ≤ m → nat_lt n 65 ≡ nat_lt m 65
    by_length n m a b = grind (arith, nat_tests)

    size : nat_lt (length (take 65 file)) 65 ≡ nat_lt (length file) 65
    size = elim (cases_lt (length file) 65) [
      | inl short ↦ ap (λ (l : List ℕ). nat_lt (length l) 65) (take_all 65 file (omega (arith, short)))
      | inr long ↦ by_length (length (take 65 file)) (length file) (omega (arith, length-take 65 file, long)) long
    ]

pub bare_is : (file : List ℕ) → is_bare file ≡ true → IsBare file
bare_is file is = by_test (nat_lt (length file) 65) (eqb (slice_index file 0) 78) refl refl is
  where
    by_test : (a b : Bool) → nat_lt (length file) 65 ≡ a → eqb (slice_index file 0) 78 ≡ b → (a || not b) ≡ true → IsBare file
    by_test true b short same t = inl (grind (arith, nat_tests))
    by_test false true long same t = absurd (cc t)
    by_test false false long same t = inr (let other : slice_index file 0 ≢ 78 = grind (arith, nat_tests) in other)

pub file_not_bare : (file : List ℕ) → is_bare file ≡ false → IsBare file → ⊥
file_not_bare file is (inl short) = let t : nat_lt (length file) 65 ≡ true = grind (arith, nat_tests) in absurd (cc (sym is ∙ ap (λ (b : Bool). b || not (eqb (slice_index file 0) 78)) t))
file_not_bare file is (inr other) = let t : eqb (slice_index file 0) 78 ≡ false = grind (arith, nat_tests) in by_first (nat_lt (length file) 65) (sym is ∙ ap (λ (b : Bool). nat_lt (length file) 65 || not b) t)
  where
    by_first : (b : Bool) → false ≡ (b || true) → ⊥
    by_first true e = absurd (cc e)
    by_first false e = absurd (cc e)

pub long_side : (file : List ℕ) → is_bare file ≡ false → 64 ≤ length file
long_side file is = elim (cases_lt (length file) 65) [ inl short ↦ absurd (file_not_bare file is (inl short)) | inr enough ↦ omega (arith, enough) ]

module _ (store file : List ℕ) where
  pub bare_whole : is_bare file ≡ true → side_damage store file ≡ None
  unfolding side_damage
  bare_whole is = rw is refl

  pub side_rows : is_bare file ≡ false → side_damage store file ≡ option_or (difference 0 (side_head store) file) (damage_of (reading (length file) 64 (drop 64 file)))
  unfolding side_damage
  side_rows is = rw is refl

  pub head_fault : (found : ℕ × Option ℕ) → is_bare file ≡ false → difference 0 (side_head store) file ≡ Some found → side_damage store file ≡ Some found
  head_fault found bare is = side_rows bare ∙ ap (λ o. option_or o (damage_of (reading (length file) 64 (drop 64 file)))) is

  pub side_fault : (e : OpenFault) → is_bare file ≡ false → difference 0 (side_head store) file ≡ None → RecordsAs file (Err e) → IsDamage (side_damage store file) e
  side_fault (log.Damaged at found) bare head is = side_rows bare ∙ ap (λ o. option_or o (damage_of (reading (length file) 64 (drop 64 file)))) head ∙ ap damage_of is
  side_fault log.DiskFault bare head is = tt
  side_fault log.Memory bare head is = tt

  pub side_whole : (gate : ℕ) (rs : List Record) → is_bare file ≡ false → difference 0 (side_head store) file ≡ None → HoldsRecords file gate rs → side_damage store file ≡ None
  side_whole gate rs bare head holds = side_rows bare ∙ or_none (difference 0 (side_head store) file) (damage_of (reading (length file) 64 (drop 64 file))) head (ap damage_of holds.reads)

pub bare_beside : (file : List ℕ) → is_bare file ≡ true → beside file ≡ None
bare_beside file is = ap (λ (t : Bool). cond t None (Some (records_in file))) is

pub file_beside : (file : List ℕ) (gate : ℕ) (rs : List Record) → is_bare file ≡ false → HoldsRecords file gate rs → beside file ≡ Some (places rs)
file_beside file gate rs is holds = ap (λ (t : Bool). cond t None (Some (records_in file))) is ∙ ap (λ l. Some l) (records_are file gate rs holds)

-- ---- the log

kind_kept : (file : List ℕ) → slice_index (take 64 file) 9 ≡ slice_index file 9
kind_kept [] = refl
kind_kept (a ∷ []) = refl
kind_kept (a ∷ b ∷ []) = refl
kind_kept (a ∷ b ∷ c ∷ []) = refl
kind_kept (a ∷ b ∷ c ∷ d ∷ []) = refl
kind_kept (a ∷ b ∷ c ∷ d ∷ e ∷ []) = refl
kind_kept (a ∷ b ∷ c ∷ d ∷ e ∷ f ∷ []) = refl
kind_kept (a ∷ b ∷ c ∷ d ∷ e ∷ f ∷ g ∷ []) = refl
kind_kept (a ∷ b ∷ c ∷ d ∷ e ∷ f ∷ g ∷ h ∷ []) = refl
kind_kept (a ∷ b ∷ c ∷ d ∷ e ∷ f ∷ g ∷ h ∷ i ∷ []) = refl
kind_kept (a ∷ b ∷ c ∷ d ∷ e ∷ f ∷ g ∷ h ∷ i ∷ j ∷ file) = refl

or_assoc : {A : Type 0} (a b c : Option A) → option_or a (option_or b c) ≡ option_or (option_or a b) c
or_assoc None b c = refl
or_assoc (Some x) b c = refl

-- the header's rows, and then those of the records
pub log_rows : (file : List ℕ) → log_damage file ≡ option_or (option_or (header_damage (take 64 file)) (other_kind (slice_index (take 64 file) 9))) (damage_of (reading (length file) 64 (drop 64 file)))
unfolding log_damage
log_rows file =
    ap (λ (n : ℕ). option_or (header_damage (take 64 file)) (option_or (other_kind n) (damage_of (reading (length file) 64 (drop 64 file))))) (sym (kind_kept file))
    ∙ or_assoc (header_damage (take 64 file)) (other_kind (slice_index (take 64 file) 9)) (damage_of (reading (length file) 64 (drop 64 file)))

pub room_fault : (file : List ℕ) (e : PairFault) → RoomHeadAs (take 64 file) (Err e) → IsPairDamage (on_log (log_damage file)) e
room_fault file (Damaged at found) is = ap on_log (log_rows file ∙ ap (λ o. option_or o (damage_of (reading (length file) 64 (drop 64 file)))) is)
room_fault file (DamagedSide at found) is = absurd is
room_fault file DiskFault is = absurd is
room_fault file Memory is = absurd is

pub log_fault : (file : List ℕ) (e : OpenFault) → option_or (header_damage (take 64 file)) (other_kind (slice_index (take 64 file) 9)) ≡ None → RecordsAs file (Err e) → IsPairDamage (on_log (log_damage file)) (fault_of e)
log_fault file (log.Damaged at found) head is = ap on_log (log_rows file ∙ ap (λ o. option_or o (damage_of (reading (length file) 64 (drop 64 file)))) head ∙ ap damage_of is)
log_fault file log.DiskFault head is = tt
log_fault file log.Memory head is = tt

pub log_whole : (file : List ℕ) (gate : ℕ) (rs : List Record) → option_or (header_damage (take 64 file)) (other_kind (slice_index (take 64 file) 9)) ≡ None → HoldsRecords file gate rs → on_log (log_damage file) ≡ None
log_whole file gate rs head holds = ap on_log (log_rows file ∙ ap (λ o. option_or o (damage_of (reading (length file) 64 (drop 64 file)))) head ∙ ap damage_of holds.reads)

-- ---- both

drop_nil : (n : ℕ) → drop {A = Bytes} n [] ≡ []
drop_nil zero = refl
drop_nil (suc n) = refl

meets_follows : (b : ℕ) (g p : List Bytes) → Meets b g p → Follows b g p (g ++ drop (length g - b) p)
meets_follows b g p m = record {
  within = m.within;
  front = take_at g (drop (length g - b) p) (length g) refl;
  count = omega (arith, length-append g (drop (length g - b) p), length-drop (length g - b) p, m.within, m.reaches);
  behind = drop-append-le b g (drop (length g - b) p) m.within ∙ ap (λ (l : List Bytes). l ++ drop (length g - b) p) (sym m.same) ∙ take-append-drop (length g - b) p;
}

pub meets_joined : (b : ℕ) (g p : List Bytes) → MeetsOrEmpty b g p → Joined b g p (g ++ drop (length g - b) p)
meets_joined b g [] m = ap (λ (l : List Bytes). g ++ l) (drop_nil (length g - b)) ∙ append-nil g
meets_joined b g (x ∷ p) m = meets_follows b g (x ∷ p) m

records_both : (xs ys : List Bytes) → length (records (xs ++ ys)) ≡ length (records xs) + length (records ys)
records_both [] ys = omega arith
records_both (x ∷ xs) ys =
    omega (arith, records_both xs ys, length-append (to_be_bytes w32 (length x)) (x ++ records (xs ++ ys)), length-append x (records (xs ++ ys)), length-append (to_be_bytes w32 (length x)) (x ++ records xs), length-append x (records xs))

pub meets_room : (b : ℕ) (g p : List Bytes) → MeetsOrEmpty b g p → length (records p) ≤ length (records (g ++ drop (length g - b) p))
meets_room b g [] m = omega arith
meets_room b g (x ∷ p) m =
    let whole = follows_list b g (x ∷ p) (g ++ drop (length g - b) (x ∷ p)) (meets_follows b g (x ∷ p) m) in
    omega (arith, ap (λ (l : List Bytes). length (records l)) whole, records_both (take b g) (x ∷ p))

pub payloads_both : (xs ys : List Record) → payloads (xs ++ ys) ≡ payloads xs ++ payloads ys
payloads_both [] ys = refl
payloads_both (x ∷ xs) ys = ap (λ (l : List Bytes). x.bytes ∷ l) (payloads_both xs ys)

pub payloads_behind : (n : ℕ) (rs : List Record) → payloads (drop n rs) ≡ drop n (payloads rs)
payloads_behind zero rs = refl
payloads_behind (suc n) [] = refl
payloads_behind (suc n) (r ∷ rs) = payloads_behind n rs

-- the records of the side, and those of the log that it lacks
pub gathered : (b skip : ℕ) (side log all : List Record) → all ≡ side ++ drop skip log → skip ≡ length side - b → payloads all ≡ payloads side ++ drop (length (payloads side) - b) (payloads log)
gathered b skip side log all are skip_is =
    let size : skip ≡ length (payloads side) - b = omega (arith, skip_is, length-payloads side) in
    ap (λ (l : List Record). payloads l) are ∙ payloads_both side (drop skip log)
    ∙ ap (λ (l : List Bytes). payloads side ++ l) (payloads_behind skip log ∙ ap (λ (n : ℕ). drop n (payloads log)) size)

-- ---- a log without a record

pub bare_log : (head : List ℕ) (gate : ℕ) (tail : List Bytes) (seen : List ℕ) (f : IsRecordFile head gate tail seen) → tail ≡ [] → seen ≡ head ++ f.byte ∷ f.rest
bare_log head gate tail seen f none =
    f.is ∙ ap (λ (l : List Bytes). (head ++ records l) ++ f.byte ∷ f.rest) none ∙ ap (λ (l : List ℕ). l ++ f.byte ∷ f.rest) (append-nil head)

pub with_head : (head now : List ℕ) (gate : ℕ) (tail : List Bytes) (seen seen' : List ℕ) (f : IsRecordFile head gate tail seen) → length now ≡ length head → tail ≡ [] → seen' ≡ now ++ f.byte ∷ f.rest → IsRecordFile now gate tail seen'
with_head head now gate tail seen seen' f long none is = record {
  fit = f.fit;
  place = omega (arith, f.place, length-append head (records tail), length-append now (records tail), long);
  byte = f.byte;
  closed = f.closed;
  rest = f.rest;
  is = is ∙ ap (λ (l : List ℕ). l ++ f.byte ∷ f.rest) (sym (append-nil now)) ∙ ap (λ (l : List Bytes). (now ++ records l) ++ f.byte ∷ f.rest) (sym none);
}

pub file_shut : (head : List ℕ) (gate : ℕ) (ps : List Bytes) (seen : List ℕ) (m : List ℕ → Type 0) → IsRecordFile head gate ps seen → Only seen m → IsShut (head ++ records ps) seen m
file_shut head gate ps seen m f only = record {
  gate = f.byte;
  closed = f.closed;
  each = λ c out. (f.rest, only_outcome seen m only c out ∙ f.is);
}

-- ---- what stands beside a log

pub side_stands : (store side : List ℕ) (found : Option SideLog) (end : ℕ) → SideAs store side found → AreSegments 0 (segments_of found) → end ≡ end_of found → IfSome found (λ o. o.gate < 2 ^ 30) → SideStands store side (λ (c : List ℕ). c ≡ side) end
side_stands store side None end is are end_is small = inl (end_is, is)
side_stands store side (Some found) end is are end_is small = inr (
  payloads found.records.items,
  record {
    fit = is.fit;
    are = are;
    place = end_is ∙ is.place;
    small = omega (arith, end_is, small);
    shut = file_shut (side_head store) found.gate (payloads found.records.items) side (λ (c : List ℕ). c ≡ side) is (λ c same. same);
  },
)

pub side_small : (found : Option SideLog) → IfSome found (λ o. o.gate ≡ 64 + length (records (payloads o.records.items))) → IfSome found (λ o. o.gate < 2 ^ 30) → length (records (segments_of found)) < 2 ^ 30
side_small None place small = omega arith
side_small (Some found) place small = omega (arith, place, small)

pub side_base : (found : Option SideLog) (base end : ℕ) → BareBase found base → end ≡ end_of found → IfSome found (λ o. 64 ≤ o.gate) → end ≡ 0 → base ≡ 0
side_base None base end is end_is some none = is
side_base (Some found) base end is end_is some none = absurd (omega (arith, end_is, some, none))

pub side_packed : (store side : List ℕ) (found : Option SideLog) → length store ≡ 16 → SideAs store side found → IfSome found (λ o. o.gate < 2 ^ 30) → packed_in store side ≡ packed_by (segments_of found)
side_packed store side None long is small = bare_packed store side long is
side_packed store side (Some found) long is small =
    ap (λ (o : Option (List Bytes)). packed_by (listed o))
    (ap (opened (side_head store)) is.is ∙ opened_closed (side_head store) (payloads found.records.items) is.byte is.rest is.fit (omega (arith, is.place, small)) is.closed)

-- the same in each outcome
pub stands_only : (store seen : List ℕ) (m : List ℕ → Type 0) (end : ℕ) → SideStands store seen (λ (c : List ℕ). c ≡ seen) end → Only seen m → SideStands store seen m end
stands_only store seen m end (inl bare) only = inl bare
stands_only store seen m end (inr has) only = inr (
  has.0,
  record {
    fit = has.1.fit;
    are = has.1.are;
    place = has.1.place;
    small = has.1.small;
    shut = record { gate = has.1.shut.gate; closed = has.1.shut.closed; each = λ c out. let from = has.1.shut.each seen (inl refl) in (from.0, only_outcome seen m only c out ∙ from.1) };
  },
)

pub settled_follows : (empty : Bool) (base now packed : ℕ) (g tail h : List Bytes) → (empty ≡ true → tail ≡ []) → (empty ≡ false → 0 < length tail) → (empty ≡ false → now ≡ base) → (empty ≡ true → now ≡ packed) → packed ≡ length g → Joined base g tail h → Follows now g tail h
settled_follows true base now packed g tail h none some full emptied size joined =
    let h_is : h ≡ g = subst (λ (p : List Bytes). Joined base g p h) (none refl) joined in
    record {
      within = omega (arith, emptied refl, size);
      front = take_all (length g) h (omega (arith, ap length h_is)) ∙ h_is;
      count = omega (arith, emptied refl, size, ap length h_is, ap length (none refl));
      behind = drop_all now h (omega (arith, emptied refl, size, ap length h_is)) ∙ sym (none refl);
    }
settled_follows false base now packed g tail h none some full emptied size joined = subst (λ (n : ℕ). Follows n g tail h) (sym (full refl)) (by_tail tail (some refl) joined)
  where
    by_tail : (p : List Bytes) → 0 < length p → Joined base g p h → Follows base g p h
    by_tail [] less j = absurd (omega arith)
    by_tail (x ∷ p) less j = j

pub settled_base : (empty : Bool) (base now packed end : ℕ) (store side : List ℕ) (m : List ℕ → Type 0) → length store ≡ 16 → SideStands store side m end → (end ≡ 0 → base ≡ 0) → packed ≡ length (packed_in store side) → (empty ≡ false → now ≡ base) → (empty ≡ true → now ≡ packed) → end ≡ 0 → now ≡ 0
settled_base false base now packed end store side m long stands bare size full emptied none = full refl ∙ bare none
settled_base true base now packed end store side m long stands bare size full emptied none = emptied refl ∙ size ∙ ap length (bare_packed store side long (end_bare store side m end long stands none))

-- ---- what was loaded

room_long : (edition : ℕ) (base : List ℕ) (store : Bytes) → length store ≡ 16 → 58 ≤ length (room_head edition base store)
unfolding room_head
room_long edition base store long = omega (arith, length-append base (store ++ replicate 32 0), length-append store (replicate 32 0), long)

-- the six bytes of a base are there
pub six_bytes : (log store : List ℕ) (t : List Bytes) → length store ≡ 16 → opened (room_head (edition_of log) (base_bytes log) store) log ≡ Some t → length (base_bytes log) ≡ 6
six_bytes log store t long is =
    let head = room_head (edition_of log) (base_bytes log) store in
    omega (arith, opened_long head log t is, room_long (edition_of log) (base_bytes log) store long, length-take 6 (drop 10 log), length-drop 10 log)

-- a log is of one store
pub one_store : (log : List ℕ) (store store' : Bytes) (t t' : List Bytes) → length store ≡ 16 → length store' ≡ 16 → opened (room_head (edition_of log) (base_bytes log) store) log ≡ Some t → opened (room_head (edition_of log) (base_bytes log) store') log ≡ Some t' → store ≡ store'
one_store log store store' t t' long long' is is' =
    let edition = edition_of log in
    let base = base_bytes log in
    let six_long : length base ≡ 6 = six_bytes log store t long is in
    let a = opened_begins (room_head edition base store) log t is in
    let b = opened_begins (room_head edition base store') log t' is' in
    sym (store_there edition base store six_long long a.0) ∙ ap (λ (l : List ℕ). take 16 (drop 16 l)) (sym a.1 ∙ b.1) ∙ store_there edition base store' six_long long' b.0

pub opens_still : (store store' : Bytes) (log side c s : List ℕ) (h h' : List Bytes) → length store ≡ 16 → length store' ≡ 16 → PairOpens store log side h → PairOpens store' log side h' → PairOpens store c s h → PairOpens store' c s h'
opens_still store store' log side c s h h' long long' o o' now =
    let same = one_store log store store' o.tail o'.tail long long' o.log_is o'.log_is in
    let list = opens_one store' log side h h' (subst (λ (x : Bytes). PairOpens x log side h) same o) o' in
    subst (PairOpens store' c s) list (subst (λ (x : Bytes). PairOpens x c s h) same now)

module _ (o : Loaded) (log side : List ℕ) (l : IsLoaded o log side) where
  pub loaded_is : PairOpens o.head.store log side (payloads o.gathered.records.items)
  loaded_is =
      let head = o.head.bytes in
      let store = o.head.store in
      let f = l.log_is in
      let m : List ℕ → Type 0 = λ (x : List ℕ). x ≡ side in
      let small = o.small in
      let is : opened head log ≡ Some l.tail = ap (opened head) f.is ∙ opened_closed head l.tail f.byte f.rest f.fit (omega (arith, f.place, small)) f.closed in
      opens_beside store head log o.head.base l.tail l.room is side (payloads o.gathered.records.items) (side_so store side m o.gathered.end l.stands) (λ b. l.bare (bare_end store side m o.gathered.end l.room.store_is l.stands b)) l.joined

  pub loaded_opens : (c s : List ℕ) → s ≡ side → (l.tail ≡ []) × (o.head.base ≢ o.gathered.packed) × HasNoRecord o.head.store c → PairOpens o.head.store c s (payloads o.gathered.records.items)
  loaded_opens c s same made =
      let store = o.head.store in
      let h = payloads o.gathered.records.items in
      let m : List ℕ → Type 0 = λ (x : List ℕ). x ≡ side in
      let list : h ≡ packed_in store side = subst (λ (p : List Bytes). Joined o.head.base (packed_in store side) p h) made.0 l.joined in
      no_record_list store c l.room.store_is made.2 s h (subst (λ (x : List ℕ). IsBare x ⊎ IsSideFile store x) (sym same) (side_so store side m o.gathered.end l.stands))
      (λ b. let bare = subst IsBare same b in made.1 (l.bare (bare_end store side m o.gathered.end l.room.store_is l.stands bare) ∙ sym (l.packed_is ∙ ap length (bare_packed store side l.room.store_is bare))))
      (ap (packed_in store) same ∙ sym list)

  pub loaded_holds : {D : Type 0} (disk : DiskMeaning D) (j : Journal D) (log' side' : D) (head' : List ℕ) (now : ℕ) → IsRoomHead head' o.head.store now → j.disk ≡ log' → j.head ≡ head' → j.gate ≡ o.gate → j.ajar ≡ false
      → disk.tells log' → disk.tells side' → disk.seen side' ≡ side → IsRecordFile head' o.gate l.tail (disk.seen log') → Only (disk.seen log') (disk.may_leave log') → Only (disk.seen side') (disk.may_leave side')
      → (o.empty ≡ false → now ≡ o.head.base) → (o.empty ≡ true → now ≡ o.gathered.packed) → HoldsList disk j side' o.head.store now o.gathered.packed o.gathered.end (payloads o.gathered.records.items)
  loaded_holds disk j log' side' head' now room disk_is head_is gate_is ajar_is told told' same f only only' full emptied = record {
    log_is = subst (Logs disk j) (sym list) logs;
    head = subst (λ (x : List ℕ). IsRoomHead x o.head.store now) (sym head_is) room;
    few = let few = o.few in omega (arith, few);
    told = told';
    synced = only';
    side_is = stands;
    bare = settled_base o.empty o.head.base now o.gathered.packed o.gathered.end o.head.store (disk.seen side') (disk.may_leave side') l.room.store_is stands l.bare size full emptied;
    count = size;
    follows = subst (λ (p : List Bytes). Follows now (packed_in o.head.store (disk.seen side')) p (payloads o.gathered.records.items)) (sym list)
        (settled_follows o.empty o.head.base now o.gathered.packed (packed_in o.head.store (disk.seen side')) l.tail (payloads o.gathered.records.items) l.empty_is l.full_is full emptied size
        (subst (λ (x : List ℕ). Joined o.head.base (packed_in o.head.store x) l.tail (payloads o.gathered.records.items)) (sym same) l.joined));
  }
    where
      logs : Logs disk j l.tail
      logs = closed_logs disk j log' head' o.gate disk_is head_is gate_is ajar_is l.tail told f.fit f.place o.small (file_shut head' o.gate l.tail (disk.seen log') (disk.may_leave log') f only)

      list : list_of disk j ≡ l.tail
      list = list_is disk j l.tail logs

      stands : SideStands o.head.store (disk.seen side') (disk.may_leave side') o.gathered.end
      stands = stands_only o.head.store (disk.seen side') (disk.may_leave side') o.gathered.end (subst (λ (x : List ℕ). SideStands o.head.store x (λ (c : List ℕ). c ≡ x) o.gathered.end) (sym same) l.stands) only'

      size : o.gathered.packed ≡ length (packed_in o.head.store (disk.seen side'))
      size = l.packed_is ∙ ap (λ (x : List ℕ). length (packed_in o.head.store x)) (sym same)

pub loaded_along : (o : Loaded) (log log' side side' : List ℕ) → log' ≡ log → side' ≡ side → IsLoaded o log side → IsLoaded o log' side'
loaded_along o log log' side side' a b l = subst (λ (x : List ℕ). IsLoaded o x side') (sym a) (subst (λ (x : List ℕ). IsLoaded o log x) (sym b) l)

pub opens_by : (header : Header) (rs rs' : List Record) (store : Bytes) (log side : List ℕ) → header ≡ Room store → rs ≡ rs' → PairOpens store log side (payloads rs') → OpensAs header rs log side
opens_by header rs rs' store log side is are opens =
    subst (λ (x : Header). OpensAs x rs log side) (sym is) (subst (λ (l : List Record). PairOpens store log side (payloads l)) (sym are) opens)

-- ---- what was made

pub six_zeros : six 0 ≡ replicate 6 0
unfolding six
six_zeros = refl

-- an empty side beside a log without a record
pub made_holds : {D : Type 0} (disk : DiskMeaning D) (j : Journal D) (side : D) (store : Bytes) → length store ≡ 16 → Logs disk j (list_of disk j) → list_of disk j ≡ [] → j.head ≡ room_head 2 (replicate 6 0) store
    → disk.tells side → disk.seen side ≡ [] → Only (disk.seen side) (disk.may_leave side) → HoldsList disk j side store 0 0 0 []
made_holds disk j side store long logs none head told empty only = record {
  log_is = logs;
  head = record { edition = 2; is_edition = inr refl; is = head ∙ ap (λ (b : List ℕ). room_head 2 b store) (sym six_zeros); small = omega arith; store_is = long };
  few = omega arith;
  told = told;
  synced = only;
  side_is = inl (refl, inl (omega (arith, ap length empty)));
  bare = λ is. is;
  count = sym (ap length packed);
  follows = record { within = omega arith; front = take_all (length (packed_in store (disk.seen side))) [] (omega arith) ∙ sym packed; count = omega (arith, ap length none); behind = sym none };
}
  where
    packed : packed_in store (disk.seen side) ≡ []
    packed = ap (packed_in store) empty ∙ bare_packed store [] long (inl (omega arith))

-- ---- the rows of both files

get_front : (front rest : List ℕ) (n : ℕ) → n < length front → slice_get (front ++ rest) n ≡ slice_get front n
get_front [] rest n less = absurd (omega arith)
get_front (x ∷ front) rest zero less = refl
get_front (x ∷ front) rest (suc n) less = get_front front rest n (omega arith)

module _ (head store : List ℕ) (base gate : ℕ) (ps : List Bytes) (log : List ℕ) (room : IsRoomHead head store base) (f : IsRecordFile head gate ps log) where
  begins : log ≡ head ++ (records ps ++ f.byte ∷ f.rest)
  begins = f.is ∙ append_assoc head (records ps) (f.byte ∷ f.rest)

  begins_so : log ≡ room_head room.edition (six base) store ++ (records ps ++ f.byte ∷ f.rest)
  begins_so = begins ∙ ap (λ (h : List ℕ). h ++ (records ps ++ f.byte ∷ f.rest)) room.is

  pub store_read : store_of log ≡ store
  store_read = ap store_of begins_so ∙ store_there room.edition (six base) store (length-six base) room.store_is (records ps ++ f.byte ∷ f.rest)

  pub base_read : base_of log ≡ base
  base_read = ap number (ap base_bytes begins_so ∙ base_there room.edition (six base) store (records ps ++ f.byte ∷ f.rest) (length-six base)) ∙ number_six base room.small

  pub byte_read : slice_get log 10 ≡ slice_get head 10
  byte_read =
      let size : length head ≡ 64 = ap length room.is ∙ length-room room.edition (six base) store (length-six base) room.store_is in
      ap (λ (l : List ℕ). slice_get l 10) begins ∙ get_front head (records ps ++ f.byte ∷ f.rest) 10 (omega (arith, size))

module _ (log side : List ℕ) where
  pub pair_first : (e : PairFault) → IsPairDamage (on_log (log_damage log)) e → IsPairDamage (pair_damage log side) e
  unfolding pair_damage
  pair_first e is = or_first (on_log (log_damage log)) _ e is

  pub pair_second : (store : Bytes) (e : PairFault) → store_of log ≡ store → on_log (log_damage log) ≡ None → IsPairDamage (on_side (side_damage store side)) e → IsPairDamage (pair_damage log side) e
  unfolding pair_damage
  pair_second store e same none is =
      or_later (on_log (log_damage log)) _ e none (or_first (on_side (side_damage (store_of log) side)) _ e (judged_by _ _ e (ap (λ (l : Bytes). on_side (side_damage l side)) same) is))

  module _ (store : Bytes) (base : ℕ) (byte : Option ℕ) (rs : List Framed) (found : Option (List Framed)) (same : store_of log ≡ store) (base_is : base_of log ≡ base) (byte_is : slice_get log 10 ≡ byte) (rs_are : records_in log ≡ rs) (found_is : beside side ≡ found) where
    pair_rows : pair_damage log side ≡ option_or (on_log (log_damage log)) (option_or (on_side (side_damage store side)) (list_damage base byte rs found))
    unfolding pair_damage
    pair_rows = λ i. option_or (on_log (log_damage log)) (option_or (on_side (side_damage (same i) side)) (list_damage (base_is i) (byte_is i) (rs_are i) (found_is i)))

    pub pair_third : (e : PairFault) → on_log (log_damage log) ≡ None → on_side (side_damage store side) ≡ None → IsPairDamage (list_damage base byte rs found) e → IsPairDamage (pair_damage log side) e
    pair_third e none none' is = judged_by _ _ e pair_rows (or_later (on_log (log_damage log)) _ e none (or_later (on_side (side_damage store side)) (list_damage base byte rs found) e none' is))

    pub pair_whole : on_log (log_damage log) ≡ None → on_side (side_damage store side) ≡ None → list_damage base byte rs found ≡ None → pair_damage log side ≡ None
    pair_whole none none' none'' = pair_rows ∙ or_none _ _ none (or_none _ _ none' none'')

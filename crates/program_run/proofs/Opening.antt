-- Files that open by the readers of segments open by their spelling, and the other way round.
use Rattle.std.proofs.Common.{◌≡◌, ◌⊎◌, inl, inr, ℕ, zero, suc, ◌+◌, List, [], ◌∷◌, ◌++◌, length, take, drop, map, cond, eqb, Bool, true, false, Option, Some, None, Result, Ok, Err, refl, sym, ◌∙◌, ap, subst, take-append-drop}
use Rattle.std.proofs.lemmas.List.{length-map}
use Rattle.news_types.specs.Names.{Bytes}
use Rattle.news_types.specs.Members.{Each}
use Rattle.news_types.specs.declared.entry.Entry.{Entry}
use Rattle.byte_formats.specs.Lawful.{IsBytes}
use Rattle.byte_formats.specs.Gives.{all_of}
use Rattle.byte_formats.proofs.Alls.{all_again, all_takes}
use Rattle.byte_formats.proofs.Laws.{IsBytes-behind, IsBytes-front}
use Rattle.entry_codec.specs.Spelling.{entry_bytes}
use Rattle.entry_segments.specs.Answers.{IsWhole}
use Rattle.entry_segments.specs.Reading as read
use Rattle.entry_segments.specs.Segment.{segment, IsSegment}
use Rattle.entry_segments.specs.declared.segment.Segment.{Segment}
use Rattle.entry_segments.proofs.SegmentLaws.{segment_sound}
use Rattle.news_journal.specs.Log.{Reading, Holding, Broken, with_first, span, has_record, reading, payloads_of, starts_with, opened}
use Rattle.news_journal.specs.Stands.{listed}
use Rattle.news_pair.specs.Segments.{spelled, segment_in}
use Rattle.news_pair.specs.Pair as pair
use Rattle.news_pair.specs.Pair.{number, IsSideFile, PairOpens, entries_of, packed_by, packed_in}
use Rattle.news_pair.specs.Law.{not_bare}
use Rattle.program_run.specs.Opens.{side_head, base_of, IsBare, AreSegments, SideHolds, Joined, Holds}

-- ---- the payloads of a file of bytes are bytes

take_bytes : (n : ℕ) (bytes : List ℕ) → IsBytes bytes → IsBytes (take n bytes)
take_bytes n bytes ib = IsBytes-front (take n bytes) (drop n bytes) (subst IsBytes (sym (take-append-drop n bytes)) ib)

pub drop_bytes : (n : ℕ) (bytes : List ℕ) → IsBytes bytes → IsBytes (drop n bytes)
drop_bytes n bytes ib = IsBytes-behind (take n bytes) (drop n bytes) (subst IsBytes (sym (take-append-drop n bytes)) ib)

first_bytes : (at : ℕ) (p : Bytes) (r : Reading) (ps : List Bytes) → IsBytes p → ((qs : List Bytes) → payloads_of r ≡ Some qs → Each IsBytes qs) → payloads_of (with_first (at, p) r) ≡ Some ps → Each IsBytes ps
first_bytes at p (Holding rs) ps ib others is =
    let all : p ∷ map (λ (r : ℕ × List ℕ). r.1) rs ≡ ps = cc in
    subst (Each IsBytes) all (ib, others (map (λ (r : ℕ × List ℕ). r.1) rs) refl)
first_bytes at p (Broken place found) ps ib others is = absurd (cc is)

record_bytes : (at : ℕ) (p : Bytes) (r : Reading) (place : ℕ) (found : Option ℕ) (ps : List Bytes) → IsBytes p → ((qs : List Bytes) → payloads_of r ≡ Some qs → Each IsBytes qs)
    → (b : Bool) → payloads_of (cond b (with_first (at, p) r) (Broken place found)) ≡ Some ps → Each IsBytes ps
record_bytes at p r place found ps ib others true is = first_bytes at p r ps ib others is
record_bytes at p r place found ps ib others false is = absurd (cc is)

gate_bytes : (r : Reading) (ps : List Bytes) → (payloads_of r ≡ Some ps → Each IsBytes ps) → (b : Bool) → payloads_of (cond b r (Holding [])) ≡ Some ps → Each IsBytes ps
gate_bytes r ps others true is = others is
gate_bytes r ps others false is = let none : [] ≡ ps = cc in subst (Each IsBytes) none tt

pub read_bytes : (n at : ℕ) (bytes : List ℕ) (ps : List Bytes) → IsBytes bytes → payloads_of (reading n at bytes) ≡ Some ps → Each IsBytes ps
unfolding reading
read_bytes zero at bytes ps ib is = absurd (cc is)
read_bytes (suc n) at [] ps ib is = absurd (cc is)
read_bytes (suc n) at (gate ∷ rest) ps ib is =
    let payload : Bytes = take (span rest) (drop 4 rest) in
    let more : Reading = reading n (at + 5 + span rest) (drop (4 + span rest) rest) in
    gate_bytes _ ps
    (record_bytes at payload more _ _ ps (take_bytes (span rest) (drop 4 rest) (drop_bytes 4 rest ib.1)) (λ qs found. read_bytes n (at + 5 + span rest) (drop (4 + span rest) rest) qs (drop_bytes (4 + span rest) rest ib.1) found) (has_record at rest))
    (eqb gate 1)
    is

pub opened_bytes : (head file : List ℕ) (ps : List Bytes) → IsBytes file → opened head file ≡ Some ps → Each IsBytes ps
unfolding opened
opened_bytes head file ps ib is = by_start (starts_with head file) is
  where
    by_start : (b : Bool) → cond b (payloads_of (reading (length file) (length head) (drop (length head) file))) None ≡ Some ps → Each IsBytes ps
    by_start true found = read_bytes (length file) (length head) (drop (length head) file) ps (drop_bytes (length head) file ib) found
    by_start false none = absurd (cc none)

-- ---- headers

pub side_head_is : (store : Bytes) → side_head store ≡ pair.side_head store
unfolding side_head pair.side_head
side_head_is store = refl

pub base_is : (log : List ℕ) → base_of log ≡ pair.base_of log
unfolding base_of number
base_is log = refl

-- ---- segments

pub segment_is : (base : ℕ) (es : List Entry) → IsSegment base es → segment_in (segment base es) ≡ Some (base, map entry_bytes es)
unfolding segment_in
segment_is base es is = ap spelled (all_again read.segment IsWhole segment_sound (record { base = base; entries = es }) is)

abbrev base_part : Option (ℕ × List Bytes) → ℕ
base_part None = 0
base_part (Some p) = p.0

abbrev list_part : Option (ℕ × List Bytes) → List Bytes
list_part None = []
list_part (Some p) = p.1

pub segment_of : (bytes : List ℕ) (base : ℕ) (list : List Bytes) → IsBytes bytes → segment_in bytes ≡ Some (base, list) → (es : List Entry) × IsSegment base es × (bytes ≡ segment base es) × (list ≡ map entry_bytes es)
unfolding segment_in
segment_of bytes base list ib is = by_read (all_of read.segment bytes) refl is
  where
    by_read : (r : Result Segment ℕ) → all_of read.segment bytes ≡ r → spelled r ≡ Some (base, list) → (es : List Entry) × IsSegment base es × (bytes ≡ segment base es) × (list ≡ map entry_bytes es)
    by_read (Ok s) found e =
        let t = all_takes read.segment IsWhole segment_sound bytes s ib found in
        let same : s.base ≡ base = ap base_part e in
        (s.entries, subst (λ (n : ℕ). IsSegment n s.entries) same t.0, t.1 ∙ ap (λ (n : ℕ). segment n s.entries) same, sym (ap list_part e))
    by_read (Err left) found e = absurd (cc e)

pub segments_spelled : (n : ℕ) (ps : List Bytes) → Each IsBytes ps → pair.AreSegments n ps → AreSegments n ps (packed_by ps)
segments_spelled n [] ib are = refl
segments_spelled n (p ∷ ps) ib are =
    let s = segment_of p n are.0 ib.0 are.1 in
    let count : n + length are.0 ≡ n + length s.0 = ap (λ (k : ℕ). n + k) (ap length s.3 ∙ length-map s.0 entry_bytes) in (
      s.0,
      packed_by ps,
      s.1,
      s.2,
      ap (λ (found : Option (ℕ × List Bytes)). entries_of found ++ packed_by ps) are.1 ∙ ap (λ (l : List Bytes). l ++ packed_by ps) s.3,
      subst (λ (k : ℕ). AreSegments k ps (packed_by ps)) count (segments_spelled (n + length are.0) ps ib.1 are.2),
    )

pub segments_read : (n : ℕ) (ps packed : List Bytes) → AreSegments n ps packed → pair.AreSegments n ps × (packed ≡ packed_by ps)
segments_read n [] packed are = (tt, are)
segments_read n (p ∷ ps) packed are =
    let es = are.0 in
    let found : segment_in p ≡ Some (n, map entry_bytes es) = ap segment_in are.3 ∙ segment_is n es are.2 in
    let others = segments_read (n + length es) ps are.1 are.5 in
    let count : n + length es ≡ n + length (map entry_bytes es) = ap (λ (k : ℕ). n + k) (sym (length-map es entry_bytes)) in
    let first : packed_by (p ∷ ps) ≡ map entry_bytes es ++ packed_by ps = ap (λ (o : Option (ℕ × List Bytes)). entries_of o ++ packed_by ps) found in (
      (map entry_bytes es, found, subst (λ (k : ℕ). pair.AreSegments k ps) count others.0),
      are.4 ∙ ap (λ (l : List Bytes). map entry_bytes es ++ l) others.1 ∙ sym first,
    )

-- ---- a side that stands for no segment

bare_packed : (store side : List ℕ) → length store ≡ 16 → IsBare side → packed_in store side ≡ []
bare_packed store side long bare = by_list (opened (pair.side_head store) side) refl
  where
    by_list : (o : Option (List Bytes)) → opened (pair.side_head store) side ≡ o → packed_in store side ≡ []
    by_list None is = ap (λ (o : Option (List Bytes)). packed_by (listed o)) is
    by_list (Some ps) is = absurd (not_bare store side ps long is bare)

-- ---- both files

joined_is : (base : ℕ) (packed records all : List Bytes) → pair.Joined base packed records all → Joined base packed records all
joined_is base packed [] all j = j
joined_is base packed (r ∷ records) all j = record { within = j.within; front = j.front; count = j.count; behind = j.behind }

joined_as : (base : ℕ) (packed records all : List Bytes) → Joined base packed records all → pair.Joined base packed records all
joined_as base packed [] all j = j
joined_as base packed (r ∷ records) all j = record { within = j.within; front = j.front; count = j.count; behind = j.behind }

packed_as : (store : Bytes) (side : List ℕ) (segments : List Bytes) → opened (pair.side_head store) side ≡ Some segments → packed_in store side ≡ packed_by segments
packed_as store side segments is = ap (λ (o : Option (List Bytes)). packed_by (listed o)) is

-- a side of bytes
pub side_holds : (store : Bytes) → length store ≡ 16 → (side : List ℕ) → IsBytes side → IsBare side ⊎ IsSideFile store side → SideHolds store side (packed_in store side)
side_holds store long side ib (inl bare) = inl (bare, bare_packed store side long bare)
side_holds store long side ib (inr file) =
    let segments = segments_spelled 0 file.segments (opened_bytes (pair.side_head store) side file.segments ib file.is) file.are in
    inr (
      file.segments,
      ap (λ (head : List ℕ). opened head side) (side_head_is store) ∙ file.is,
      subst (AreSegments 0 file.segments) (sym (packed_as store side file.segments file.is)) segments,
    )

pub side_read : (store : Bytes) → length store ≡ 16 → (side : List ℕ) (packed : List Bytes) → SideHolds store side packed → (IsBare side ⊎ IsSideFile store side) × (packed ≡ packed_in store side)
side_read store long side packed (inl bare) = (inl bare.0, bare.1 ∙ sym (bare_packed store side long bare.0))
side_read store long side packed (inr file) =
    let opens : opened (pair.side_head store) side ≡ Some file.0 = ap (λ (head : List ℕ). opened head side) (sym (side_head_is store)) ∙ file.1 in
    let read = segments_read 0 file.0 packed file.2 in
    (inr (record { segments = file.0; is = opens; are = read.0 }), read.1 ∙ sym (packed_as store side file.0 opens))

module _ (store : Bytes) (long : length store ≡ 16) (log side : List ℕ) (all : List Bytes) where
  pub holds_so : IsBytes side → PairOpens store log side all → Holds log side store all
  holds_so ib o = record {
    packed = packed_in store side;
    side_is = side_holds store long side ib o.side_is;
    bare = λ b. base_is log ∙ o.bare b;
    edition = o.edition;
    records = o.tail;
    log_is = o.log_is;
    joined = subst (λ (n : ℕ). Joined n (packed_in store side) o.tail all) (sym (base_is log)) (joined_is (pair.base_of log) (packed_in store side) o.tail all o.joined);
  }

  pub opens_so : Holds log side store all → PairOpens store log side all
  opens_so h =
      let read = side_read store long side h.packed h.side_is in
      record {
        side_is = read.0;
        bare = λ b. sym (base_is log) ∙ h.bare b;
        edition = h.edition;
        tail = h.records;
        log_is = h.log_is;
        joined = subst (λ (l : List Bytes). pair.Joined (pair.base_of log) l h.records all) read.1 (subst (λ (n : ℕ). pair.Joined n h.packed h.records all) (base_is log) (joined_as (base_of log) h.packed h.records all h.joined));
      }

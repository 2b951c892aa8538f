-- Filling a side, segment by segment.
use Rattle.std.proofs.Common.{◌≡◌, ℕ, ◌+◌, ◌-◌, ◌≤◌, ◌<◌, ◌^◌, List, [], ◌∷◌, zero, suc, length, take, drop, map, cond, eqb, Bool, true, false, Option, Some, None, Result, Ok, Err, refl, sym, ◌∙◌, ap, subst, arith, length-take, length-drop}
use Rattle.std.specs.Prelude.{All}
use Rattle.std.proofs.lemmas.List.{take-map, drop-map, drop-drop, drop_all, length-map}
use Rattle.std.proofs.lemmas.Bool.Decides.{nat_tests}
use Rattle.news_types.specs.Names.{Bytes}
use Rattle.news_io.specs.Keeper.{framed, IsFramed, payload_of}
use Rattle.news_io.proofs.Framing.{is_framed, payload_of-framed, length-framed}
use Rattle.news_types.specs.declared.entry.Entry.{Entry}
use Rattle.news_io.specs.Disk.{DiskMeaning}
use Rattle.news_journal.specs.Calls.{append_calls}
use Rattle.news_journal.specs.Stands.{list_of}
use Rattle.news_journal.specs.declared.log.Journal.{Journal}
use Rattle.byte_formats.specs.Gives.{all_of}
use Rattle.byte_formats.specs.Lawful.{IsBytes}
use Rattle.byte_formats.proofs.Alls.{all_again, all_takes}
use Rattle.entry_codec.specs.Spelling.{entry_bytes}
use Rattle.entry_codec.specs.Formed.{IsEntry}
use Rattle.entry_segments.specs.Segment.{segment, InTime, IsSegment}
use Rattle.entry_segments.specs.Packing.{IsLongest}
use Rattle.entry_segments.specs.Reading as read
use Rattle.entry_segments.specs.Answers.{IsWhole}
use Rattle.entry_segments.specs.declared.segment.Segment.{Segment}
use Rattle.entry_segments.proofs.SegmentLaws.{segment_sound}
use Rattle.news_pair.specs.Segments.{spelled, segment_in}
use Rattle.news_pair.specs.Pair.{packed_in}
use Rattle.news_pair.specs.Stands.{HoldsList}
use Rattle.news_pair.specs.Damage.{Place}
use Rattle.news_pair.specs.Packing.{IsPackDamage}
use Rattle.news_pair.specs.Filling.{record_size, Fills, FullAs, Filled, IsFullExactly, first_gate}
use Rattle.news_pair.specs.Filling.Fills.{all_taken, next_taken, no_room}
use Rattle.news_pair.specs.PackFaults.{IsDamage, IsFull}
use Rattle.news_pair.specs.declared.pack_fault.PackFault.{PackFault}
use Rattle.news_pair.specs.declared.pack_fault.PackFault.TheVariants.{DiskFault, Full, Damaged, Memory}
use Rattle.news_pair.proofs.Sizes.{segment_long}
use Rattle.news_pair.proofs.Emptied.{all_packed}

-- ---- segments

pub segment_is : (base : ℕ) (es : List Entry) → IsSegment base es → segment_in (segment base es) ≡ Some (base, map entry_bytes es)
unfolding segment_in
segment_is base es is = ap spelled (all_again read.segment IsWhole segment_sound (record { base = base; entries = es }) is)

abbrev base_part : Option (ℕ × List Bytes) → ℕ
base_part None = 0
base_part (Some p) = p.0

abbrev list_part : Option (ℕ × List Bytes) → List Bytes
list_part None = []
list_part (Some p) = p.1

abbrev held_as : ℕ → List Bytes → Option (ℕ × List Bytes)
held_as base list = Some (base, list)

some_parts : (a base : ℕ) (l list : List Bytes) → held_as a l ≡ held_as base list → (a ≡ base) × (list ≡ l)
some_parts a base l list is = (ap base_part is, sym (ap list_part is))

pub segment_of : (bytes : List ℕ) (base : ℕ) (list : List Bytes) → IsBytes bytes → segment_in bytes ≡ Some (base, list) → (es : List Entry) × IsSegment base es × (bytes ≡ segment base es) × (list ≡ map entry_bytes es)
unfolding segment_in
segment_of bytes base list ib is = by_read (all_of read.segment bytes) refl is
  where
    by_read : (r : Result Segment ℕ) → all_of read.segment bytes ≡ r → spelled r ≡ Some (base, list) → (es : List Entry) × IsSegment base es × (bytes ≡ segment base es) × (list ≡ map entry_bytes es)
    by_read (Ok s) found e =
        let t = all_takes read.segment IsWhole segment_sound bytes s ib found in
        let p = some_parts s.base base (map entry_bytes s.entries) list e in
        (s.entries, subst (λ (n : ℕ). IsSegment n s.entries) p.0 t.0, t.1 ∙ ap (λ (n : ℕ). segment n s.entries) p.0, p.1)
    by_read (Err left) found e = absurd (cc e)

-- ---- entries

in_time_later : (a b : ℕ) (es : List Entry) → a ≤ b → InTime b es → InTime a es
in_time_later a b [] le in_time = tt
in_time_later a b (e ∷ es) le in_time = (omega (arith, le, in_time.0), in_time.1)

pub in_time_behind : (n : ℕ) (es : List Entry) → InTime 0 es → InTime 0 (drop n es)
in_time_behind zero es in_time = in_time
in_time_behind (suc n) [] in_time = tt
in_time_behind (suc n) (e ∷ es) in_time = in_time_behind n es (in_time_later 0 e.moment es (omega arith) in_time.1)

pub taken_some : (base : ℕ) (es : List Entry) (taken : ℕ) → IsLongest base es taken → 0 < taken
taken_some base es taken longest = omega (arith, longest.whole.some, length-take taken es)

-- ---- faults

pub no_damage : (found : Option Place) (e : PackFault) → (IsDamage e → ⊥) → IsPackDamage found e
no_damage found DiskFault none = tt
no_damage found (Full size count) none = tt
no_damage found (Damaged at byte) none = absurd (none tt)
no_damage found Memory none = tt

pub not_full : (end base : ℕ) (left : List Bytes) (e : PackFault) → (IsFull e → ⊥) → IsFullExactly end base left e
not_full end base left DiskFault none = tt
not_full end base left (Full size count) none = absurd (none tt)
not_full end base left (Damaged at byte) none = tt
not_full end base left Memory none = tt

-- ---- one segment more

module _ (end base : ℕ) (es : List Entry) (taken : ℕ) (longest : IsLongest base es taken) where
  -- it is the next entries of the list
  module _ (h : List Bytes) (left : map entry_bytes es ≡ drop base h) where
    pub next_count : length (map entry_bytes (take taken es)) ≡ taken
    next_count = omega (arith, length-map (take taken es) entry_bytes, length-take taken es, longest.within)

    pub next_is : take taken (drop base h) ≡ map entry_bytes (take taken es)
    next_is = ap (take taken) (sym left) ∙ take-map entry_bytes taken es

    pub next_left : (base' : ℕ) → base' ≡ base + taken → map entry_bytes (drop taken es) ≡ drop base' h
    next_left base' sum =
        sym (drop-map entry_bytes taken es) ∙ ap (drop taken) left ∙ drop-drop taken base h ∙ ap (λ (n : ℕ). drop n h) (let e : base + taken ≡ base' = omega (arith, sum) in e)

  module _ (room : end + 1 + record_size base taken es ≤ 2 ^ 30) (end' base' : ℕ) (end_is : end' ≡ end + record_size base taken es) (base_is : base' ≡ base + taken) where
    pub fills_next : (full : Option (ℕ × ℕ)) → Fills end' base' (drop taken es) full → Fills end base es full
    fills_next full fills = next_taken longest room (subst (λ (n : ℕ). Fills n (base + taken) (drop taken es) full) end_is (subst (λ (n : ℕ). Fills end' n (drop taken es) full) base_is fills))

    pub full_next : (e : PackFault) → FullAs end' base' (drop taken es) e → FullAs end base es e
    full_next DiskFault full = tt
    full_next (Full size count) full = fills_next (Some (size, count)) full
    full_next (Damaged at byte) full = tt
    full_next Memory full = tt

  pub full_here : (size count : ℕ) → 2 ^ 30 < end + 1 + record_size base taken es → size ≡ end + 1 → count ≡ length (segment base (take taken es)) → Fills end base es (Some (size, count))
  full_here size count over size_is count_is =
      subst (λ (n : ℕ). Fills end base es (Some (n, count))) (sym size_is) (subst (λ (n : ℕ). Fills end base es (Some (end + 1, n))) (sym count_is) (no_room longest over))

pub fills_none : (end base : ℕ) (es : List Entry) → length es ≡ 0 → Fills end base es None
fills_none end base [] none = all_taken
fills_none end base (e ∷ es) none = absurd (omega (arith, none))

-- the segment as a record
module _ (base : ℕ) (es : List Entry) (taken : ℕ) (longest : IsLongest base es taken) (bytes : List ℕ) (is : bytes ≡ framed (segment base (take taken es))) where
  pub frame_size : length bytes ≡ record_size base taken es
  frame_size = ap length is ∙ length-framed (segment base (take taken es))

  pub frame_is : IsFramed bytes
  frame_is = subst IsFramed (sym is) (is_framed (segment base (take taken es)) (omega (arith, longest.short)))

  pub frame_few : taken ≤ length bytes
  frame_few = omega (arith, frame_size, segment_long base (take taken es), length-take taken es, longest.within)

  pub frame_holds : segment_in (payload_of bytes) ≡ Some (base, map entry_bytes (take taken es))
  frame_holds = ap (λ (b : List ℕ). segment_in (payload_of b)) is ∙ ap segment_in (payload_of-framed (segment base (take taken es))) ∙ segment_is base (take taken es) longest.whole

-- ---- the first gate

pub gate_kept : (end : ℕ) → (end ≡ 0 → ⊥) → end ≡ first_gate end
gate_kept end other = let t : eqb end 0 ≡ false = grind (arith, nat_tests) in sym (ap (λ (b : Bool). cond b 64 end) t)

pub gate_made : (end : ℕ) → end ≡ 0 → first_gate end ≡ 64
gate_made end none = let t : eqb end 0 ≡ true = grind (arith, nat_tests) in ap (λ (b : Bool). cond b 64 end) t

pub gate_some : (end : ℕ) → 0 < first_gate end
gate_some zero = omega arith
gate_some (suc n) = subst (λ (k : ℕ). 0 < k) (gate_kept (suc n) (λ no. absurd (omega (arith, no)))) (omega arith)

-- ---- the entries of the log that the side lacks

module _ {D : Type 0} (disk : DiskMeaning D) (log : Journal D) (side : D) (store : Bytes) (base packed end : ℕ) (h : List Bytes) (pairs : HoldsList disk log side store base packed end h) where
  pub packed_within : packed ≤ length h
  packed_within = omega (arith, pairs.count, ap length pairs.follows.front, length-take (length (packed_in store (disk.seen side))) h)

  pub base_within : base ≤ packed
  base_within = omega (arith, pairs.count, pairs.follows.within)

  pub lacking : (es : List Entry) (both : ℕ) → map entry_bytes es ≡ list_of disk log → both ≡ packed - base → map entry_bytes (drop both es) ≡ drop packed h
  lacking es both are sum =
      sym (drop-map entry_bytes both es) ∙ ap (drop both) (are ∙ sym pairs.follows.behind) ∙ drop-drop both base h ∙ ap (λ (n : ℕ). drop n h) (let e : base + both ≡ packed = omega (arith, sum, base_within) in e)

  pub all_lacking : (es : List Entry) → map entry_bytes es ≡ drop packed h → packed + length es ≡ length h
  all_lacking es are = omega (arith, length-map es entry_bytes, ap length are, length-drop packed h, packed_within)

  -- a log without a record lacks nothing
  pub none_lacking : list_of disk log ≡ [] → (packed ≡ length h) × (h ≡ packed_in store (disk.seen side))
  none_lacking none =
      let size : packed ≡ length h = omega (arith, pairs.follows.count, ap length none, base_within, packed_within) in
      (size, all_packed base (packed_in store (disk.seen side)) (list_of disk log) h pairs.follows (sym size ∙ pairs.count))

  -- nor does one behind all entries have a record
  pub all_in_side : base ≡ packed → packed ≡ length h → (list_of disk log ≡ []) × (packed_in store (disk.seen side) ≡ h)
  all_in_side same all =
      (sym pairs.follows.behind ∙ drop_all base h (omega (arith, same, all)), sym (all_packed base (packed_in store (disk.seen side)) (list_of disk log) h pairs.follows (sym all ∙ pairs.count)))

pub none_listed : (es : List Entry) (l : List Bytes) → map entry_bytes es ≡ l → length es ≡ 0 → l ≡ []
none_listed [] l are none = sym are
none_listed (e ∷ es) l are none = absurd (omega (arith, none))

pub filled_as : (end end' base base' : ℕ) (h : List Bytes) (full : Option (ℕ × ℕ)) → end' ≡ end → base' ≡ base → Filled (first_gate end') base' (drop base' h) full → Filled (first_gate end) base (drop base h) full
filled_as end end' base base' h full same same' filled =
    subst (λ (n : ℕ). Filled (first_gate n) base (drop base h) full) same (subst (λ (n : ℕ). Filled (first_gate end') n (drop n h) full) same' filled)

pub full_as : (end end' base base' : ℕ) (h : List Bytes) (e : PackFault) → end' ≡ end → base' ≡ base → IsFullExactly (first_gate end') base' (drop base' h) e → IsFullExactly (first_gate end) base (drop base h) e
full_as end end' base base' h DiskFault same same' full = tt
full_as end end' base base' h (Full size count) same same' full = filled_as end end' base base' h (Some (size, count)) same same' full
full_as end end' base base' h (Damaged at byte) same same' full = tt
full_as end end' base base' h Memory same same' full = tt

-- where the entries are these
pub entries_full : (end end' base base' : ℕ) (es : List Entry) (left : List Bytes) (e : PackFault) → end' ≡ end → base' ≡ base → All IsEntry es → map entry_bytes es ≡ left → FullAs end' base' es e → IsFullExactly end base left e
entries_full end end' base base' es left DiskFault same same' each are full = tt
entries_full end end' base base' es left (Full size count) same same' each are full = record {
  entries = es;
  each = each;
  are = are;
  fills = subst (λ (n : ℕ). Fills n base es (Some (size, count))) same (subst (λ (n : ℕ). Fills end' n es (Some (size, count))) same' full);
}
entries_full end end' base base' es left (Damaged at byte) same same' each are full = tt
entries_full end end' base base' es left Memory same same' each are full = tt

pub entries_filled : (end end' base base' : ℕ) (es : List Entry) (left : List Bytes) (full : Option (ℕ × ℕ)) → end' ≡ end → base' ≡ base → All IsEntry es → map entry_bytes es ≡ left → Fills end' base' es full → Filled end base left full
entries_filled end end' base base' es left full same same' each are fills = record {
  entries = es;
  each = each;
  are = are;
  fills = subst (λ (n : ℕ). Fills n base es full) same (subst (λ (n : ℕ). Fills end' n es full) same' fills);
}

pub is_shut : (b : Bool) → append_calls b ≡ 4 → b ≡ false
is_shut false is = refl
is_shut true is = absurd (omega (arith, is))

pub disk_not_full : (end base : ℕ) (left : List Bytes) (e : PackFault) → e ≡ DiskFault → IsFullExactly end base left e
disk_not_full end base left e is = subst (IsFullExactly end base left) (sym is) tt

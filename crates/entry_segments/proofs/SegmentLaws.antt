-- The laws of segments.
use Rattle.std.proofs.Common.{◌≡◌, ℕ, zero, suc, ◌<◌, ◌≤◌, ◌+◌, ◌-◌, ◌^◌, Bool, true, false, ◌&&◌, ◌||◌, List, [], ◌∷◌, ◌++◌, length, get_or, cond, eqb, Option, Some, None, refl, sym, ap, subst, ◌∙◌, arith, inl, inr, append_assoc, length-append}
use Rattle.std.specs.Prelude.{nat_le, nat_lt}
use Rattle.std.specs.Int.{w16, w32, w64}
use Rattle.std.specs.Cmp.{first_so, second_so}
use Rattle.std.specs.Cmp.Lexicographic.{nat_list_eq_equiv, lists_equiv}
use Rattle.std.specs.List.{flat_map, AllByRecursion}
use Rattle.std.proofs.lemmas.List.Concat.{flat_map-cons}
use Rattle.std.proofs.lemmas.Bool.{cases_eq, eq-eqb}
use Rattle.std.proofs.lemmas.Bool.Decides.{nat_tests}
use Rattle.std.proofs.lemmas.List.Elements.{All-from_recursion, recursion_from_All}
use Rattle.news_types.specs.Names.{Bytes, same, is_in}
use Rattle.news_types.proofs.Members.{same_is, same_self}
use Rattle.news_types.specs.declared.entry.Act.{Act}
use Rattle.news_types.specs.declared.entry.Act.TheVariants.{Advance, Attempt, Receipt, Halt, Ingest, Request}
use Rattle.news_types.specs.declared.entry.Entry.{Entry}
use Rattle.byte_formats.specs.Spelling.{◌&◌, IsName, IsList, u16, u32, u64, name as name_bytes, list as list_bytes, is_empty}
use Rattle.byte_formats.specs.Format.{Format, ranged, whole, upto}
use Rattle.byte_formats.specs.Fields.{name}
use Rattle.byte_formats.proofs.Fields.{ranged_lawful}
use Rattle.byte_formats.proofs.Numbers.{wide16, wide32, wide64, whole_lawful, upto_lawful}
use Rattle.byte_formats.proofs.Names.{name_parts, name_lawful}
use Rattle.entry_codec.specs.Spelling.{act, by_credit, act_tag, without_tag}
use Rattle.entry_codec.specs.Commands.{act_fields}
use Rattle.entry_codec.specs.Formed.{IsEntry}
use Rattle.entry_codec.proofs.EntryLaws.{IsAct, OfTag, fields_lawful}
use Rattle.entry_codec.proofs.Lengths.{entry_len}
use Rattle.entry_segments.specs.declared.segment.Segment.{Segment}
use Rattle.byte_formats.specs.Parts.{linked, picked, checked, steps, AllSteps, boxed_bytes}
use Rattle.byte_formats.specs.Varint.{varint, varint_bytes}
use Rattle.entry_segments.specs.Segment as spelled
use Rattle.entry_segments.specs.Segment.{names_of, place, InTime, IsSegment}
use Rattle.entry_segments.specs.Reading.{count_fits, count, count_at, precedes, ascends, above, above_at, the_name, the_names, counted_names, names, names_at, in_list, counted, counted_at, behind_tag, the_act, packed_act, packed_act_at, packed_act_bytes, entry_after, packed, packed_at, moment_of, Head, Body, body, parts, same_names, segment_of, segment_bytes, segment, segment_at}
use Rattle.byte_formats.proofs.Sounds.{Sound, sound_of, linked_sound, picked_sound, checked_sound, made_sound, same_sound, steps_sound}
use Rattle.byte_formats.proofs.Varints.{varint_sound}
use Rattle.entry_segments.specs.Answers.{IsWhole}
use Rattle.entry_segments.proofs.NameOrder.{Known, AllKnown, Listed, AllFormed, all_known, names_listed, none_in_order, ascends_all, ascends_test, place_at, place_in}
use Rattle.byte_formats.proofs.Boxed.{boxed_sound}

-- ---- tests

lt_from : (m n : ℕ) → nat_lt m n ≡ true → m < n
lt_from m n e = grind (arith, nat_tests, e)

le_from : (m n : ℕ) → nat_le m n ≡ true → m ≤ n
le_from m n e = grind (arith, nat_tests, e)

pub lt_test : (m n : ℕ) → m < n → nat_lt m n ≡ true
lt_test m n e = grind (arith, nat_tests, e)

le_test : (m n : ℕ) → m ≤ n → nat_le m n ≡ true
le_test m n e = grind (arith, nat_tests, e)

both : (a b : Bool) → a ≡ true → b ≡ true → (a && b) ≡ true
both true true e f = refl
both true false e f = f
both false b e f = e

same_names_are : (ns ms : List Bytes) → same_names ns ms ≡ true → ns ≡ ms
same_names_are [] [] e = refl
same_names_are [] (m ∷ ms) e = absurd cc
same_names_are (n ∷ ns) [] e = absurd cc
same_names_are (n ∷ ns) (m ∷ ms) e =
    let first = same_is n m (first_so (same n m) (same_names ns ms) e) in
    let rest = same_names_are ns ms (second_so (same n m) (same_names ns ms) e) in
    cc (first, rest)

same_names_self : (ns : List Bytes) → same_names ns ns ≡ true
same_names_self ns = (lists_equiv nat_list_eq_equiv).refl ns

-- ---- names at places

named_at : (ns : List Bytes) (i : ℕ) → AllByRecursion IsName ns → i < length ns → IsName (get_or ns i [])
named_at [] i h lt = absurd (omega (arith, lt))
named_at (n ∷ ns) zero h lt = h.0
named_at (n ∷ ns) (suc i) h lt = named_at ns i h.1 (omega (arith, lt))

or_left : (a b : Bool) → a ≡ true → (a || b) ≡ true
or_left true b e = refl
or_left false b e = absurd cc

or_right : (a b : Bool) → b ≡ true → (a || b) ≡ true
or_right true b e = refl
or_right false b e = e

in_at : (ns : List Bytes) (i : ℕ) → i < length ns → is_in (get_or ns i []) ns ≡ true
in_at [] i lt = absurd (omega (arith, lt))
in_at (n ∷ ns) zero lt = or_left (same n n) (is_in n ns) (same_self n)
in_at (n ∷ ns) (suc i) lt = or_right (same (get_or ns i []) n) (is_in (get_or ns i []) ns) (in_at ns i (omega (arith, lt)))

-- ---- what stands behind a tag

without_tag_short : (bytes : List ℕ) → length (without_tag bytes) ≤ length bytes
without_tag_short [] = omega arith
without_tag_short (b ∷ bytes) = omega arith

act_short : (a : Act) → IsAct a → length (without_tag (act a)) < 2 ^ 32
act_short a h =
    let e : Entry = record { moment = 0; act = a } in
    let n = entry_len e (record { fits = record { moment = omega arith; act = h.fits }; formed = h.formed }) in
    omega (arith, n, without_tag_short (act a), length-append (u64 0) (act a))

-- the tag of what a provider sends
ingest_tag : (copyright : Bytes) → (5 ≤ by_credit copyright 5 7) × (by_credit copyright 5 7 ≤ 7)
ingest_tag copyright = elim (is_empty copyright) as (λ b. (5 ≤ cond b 5 7) × (cond b 5 7 ≤ 7)) [ true ↦ (omega arith, omega arith) | false ↦ (omega arith, omega arith) ]

tag_range : (a : Act) → (1 ≤ act_tag a) × (act_tag a ≤ 7)
tag_range Advance = (omega arith, omega arith)
tag_range (Attempt _ _) = (omega arith, omega arith)
tag_range (Receipt _ _) = (omega arith, omega arith)
tag_range Halt = (omega arith, omega arith)
tag_range (Ingest _ brought) = let t = ingest_tag brought.story.copyright in (omega (arith, t.0), t.1)
tag_range (Request _ _ _) = (omega arith, omega arith)

ingest_fields_spelled : (ns : List Bytes) (copyright : Bytes) (a : Act) → (behind_tag ns (by_credit copyright 5 7)).spell a ≡ boxed_bytes (without_tag (act a))
ingest_fields_spelled ns copyright a = elim (is_empty copyright) as (λ b. (behind_tag ns (cond b 5 7)).spell a ≡ boxed_bytes (without_tag (act a))) [ true ↦ refl | false ↦ refl ]

fields_spelled : (ns : List Bytes) (a : Act) → (behind_tag ns (act_tag a)).spell a ≡ spelled.packed_fields ns a
fields_spelled ns Advance = refl
fields_spelled ns (Attempt _ _) = refl
fields_spelled ns (Receipt _ _) = refl
fields_spelled ns Halt = refl
fields_spelled ns (Ingest provider brought) = ingest_fields_spelled ns brought.story.copyright (Ingest provider brought)
fields_spelled ns (Request _ _ _) = refl

known_other : (ns : List Bytes) (a : Act) (t : ℕ) → act_tag a ≡ t → (t ≡ 2 → ⊥) → (t ≡ 3 → ⊥) → Known ns a
known_other ns (Attempt _ _) t e two three = absurd (two (sym e))
known_other ns (Receipt _ _) t e two three = absurd (three (sym e))
known_other ns _ t e two three = tt

pub record Fits (ns : List Bytes) (t : ℕ) (a : Act) : Type 0 where
  pub tag : act_tag a ≡ t
  pub is : IsAct a
  pub known : Known ns a

abbrev IsCounted : List Bytes → ℕ × ℕ → Type 0
IsCounted ns p = (p.0 < length ns) × (p.1 ≤ 4294967295)

counted_sound : (ns : List Bytes) → length ns ≤ 65535 → Sound (counted ns) (IsCounted ns)
unfolding counted_at
counted_sound ns few =
    let F = checked (upto w16 65535) (in_list ns) in
    let P : ℕ → Type 0 = λ n. (n ≤ 65535) × (in_list ns n ≡ true) in
    same_sound (linked F (λ _. varint 4294967295)) (counted ns) (λ p. P p.0 × (p.1 ≤ 4294967295)) (IsCounted ns)
    (linked_sound F P (λ _. varint 4294967295) (λ _ n. n ≤ 4294967295) (checked_sound (upto w16 65535) (λ n. n ≤ 65535) (in_list ns) (sound_of (upto w16 65535) (λ n. n ≤ 65535) (upto_lawful w16 (2 ^ 16) 65535 wide16 (omega arith))) (λ n p. omega arith)) (λ n p. varint_sound 4294967295 (omega arith)))
    (λ bytes. refl) (λ p h. ((lt_from p.0 (length ns) h.0.1, h.1), refl)) (λ p h. ((omega (arith, few, h.0), lt_test p.0 (length ns) h.0), h.1))

module _ (ns : List Bytes) (few : length ns ≤ 65535) (listed : Listed ns) where
  attempt_back : (a : Act) → Fits ns 2 a → (p : ℕ × ℕ) × IsCounted ns p × (Attempt (get_or ns p.0 []) p.1 ≡ a)
  attempt_back (Attempt s k) h = let i = place_in s ns h.known in ((place s ns, k), (i.0, omega (arith, h.is.formed.1)), ap (λ (z : Bytes). Attempt z k) i.1)
  attempt_back Advance h = absurd (omega (arith, h.tag))
  attempt_back (Receipt _ _) h = absurd (omega (arith, h.tag))
  attempt_back Halt h = absurd (omega (arith, h.tag))
  attempt_back (Ingest _ brought) h = absurd (omega (arith, h.tag, ingest_tag brought.story.copyright))
  attempt_back (Request _ _ _) h = absurd (omega (arith, h.tag))

  receipt_back : (a : Act) → Fits ns 3 a → (p : ℕ × ℕ) × IsCounted ns p × (Receipt (get_or ns p.0 []) p.1 ≡ a)
  receipt_back (Receipt s n) h = let i = place_in s ns h.known in ((place s ns, n), (i.0, omega (arith, h.is.formed.1)), ap (λ (z : Bytes). Receipt z n) i.1)
  receipt_back Advance h = absurd (omega (arith, h.tag))
  receipt_back (Attempt _ _) h = absurd (omega (arith, h.tag))
  receipt_back Halt h = absurd (omega (arith, h.tag))
  receipt_back (Ingest _ brought) h = absurd (omega (arith, h.tag, ingest_tag brought.story.copyright))
  receipt_back (Request _ _ _) h = absurd (omega (arith, h.tag))

  placed_is : (p : ℕ × ℕ) → IsCounted ns p → u16 (place (get_or ns p.0 []) ns) & varint_bytes p.1 ≡ (counted ns).spell p
  placed_is p h = ap (λ (z : ℕ). u16 z ++ varint_bytes p.1) (place_at ns p.0 listed.up h.0)

  attempt_sound : Sound (behind_tag ns 2) (Fits ns 2)
  attempt_sound =
      made_sound (counted ns) (IsCounted ns) (λ p. Attempt (get_or ns p.0 []) p.1) (spelled.packed_fields ns) (Fits ns 2) (counted_sound ns few)
      (λ p h. (record { tag = refl; is = record { fits = tt; formed = (named_at ns p.0 listed.named h.0, omega (arith, h.1)) }; known = in_at ns p.0 h.0 }, placed_is p h)) attempt_back

  receipt_sound : Sound (behind_tag ns 3) (Fits ns 3)
  receipt_sound =
      made_sound (counted ns) (IsCounted ns) (λ p. Receipt (get_or ns p.0 []) p.1) (spelled.packed_fields ns) (Fits ns 3) (counted_sound ns few)
      (λ p h. (record { tag = refl; is = record { fits = tt; formed = (named_at ns p.0 listed.named h.0, omega (arith, h.1)) }; known = in_at ns p.0 h.0 }, placed_is p h)) receipt_back

  other_fits : (F : Format Act) (t : ℕ) → (t ≡ 2 → ⊥) → (t ≡ 3 → ⊥) → Sound F (OfTag t) → Sound F (Fits ns t)
  other_fits F t two three l =
      same_sound F F (OfTag t) (Fits ns t) l (λ bytes. refl) (λ a h. (record { tag = h.tag; is = h.is; known = known_other ns a t h.tag two three }, refl)) (λ a h. record { tag = h.tag; is = h.is })

  of_tag : (t : ℕ) → 1 ≤ t → t ≤ 7 → Sound (act_fields t) (OfTag t)
  of_tag t lo hi = sound_of (act_fields t) (OfTag t) (fields_lawful t lo hi)

  at_tag : (t k : ℕ) → t ≡ k → Sound (behind_tag ns k) (Fits ns k) → Sound (behind_tag ns t) (Fits ns t)
  at_tag t k e l = subst (λ n. Sound (behind_tag ns n) (Fits ns n)) (sym e) l

  ingest_short : (a : Act) → OfTag 5 a → length ((act_fields 5).spell a) < 2 ^ 32
  ingest_short a h = act_short a h.is

  request_short : (a : Act) → OfTag 6 a → length ((act_fields 6).spell a) < 2 ^ 32
  request_short a h = act_short a h.is

  credited_short : (a : Act) → OfTag 7 a → length ((act_fields 7).spell a) < 2 ^ 32
  credited_short a h = act_short a h.is

  differ : (m n : ℕ) → eqb m n ≡ false → m ≡ n → ⊥
  differ m n e h = absurd (let k : eqb m n ≡ true = eq-eqb m n h in cc)

  behind_5 : (t : ℕ) → 5 ≤ t → t ≤ 7 → Sound (behind_tag ns t) (Fits ns t)
  behind_5 t lo hi =
      elim (cases_eq t 5) [
        | inl e ↦ at_tag t 5 e (other_fits (behind_tag ns 5) 5 (differ 5 2 refl) (differ 5 3 refl) (boxed_sound (act_fields 5) (OfTag 5) (of_tag 5 (omega arith) (omega arith)) ingest_short))
        | inr other ↦ elim (cases_eq t 6) [
          | inl e ↦ at_tag t 6 e (other_fits (behind_tag ns 6) 6 (differ 6 2 refl) (differ 6 3 refl) (boxed_sound (act_fields 6) (OfTag 6) (of_tag 6 (omega arith) (omega arith)) request_short))
          | inr another ↦ at_tag t 7 (omega (arith, other, another, lo, hi)) (other_fits (behind_tag ns 7) 7 (differ 7 2 refl) (differ 7 3 refl) (boxed_sound (act_fields 7) (OfTag 7) (of_tag 7 (omega arith) (omega arith)) credited_short))
        ]
      ]

  behind_3 : (t : ℕ) → 3 ≤ t → t ≤ 7 → Sound (behind_tag ns t) (Fits ns t)
  behind_3 t lo hi =
      elim (cases_eq t 3) [
        | inl e ↦ at_tag t 3 e receipt_sound
        | inr other ↦ elim (cases_eq t 4) [
          | inl e ↦ at_tag t 4 e (other_fits (behind_tag ns 4) 4 (differ 4 2 refl) (differ 4 3 refl) (of_tag 4 (omega arith) (omega arith)))
          | inr another ↦ behind_5 t (omega (arith, other, another, lo)) hi
        ]
      ]

  behind_sound : (t : ℕ) → 1 ≤ t → t ≤ 7 → Sound (behind_tag ns t) (Fits ns t)
  behind_sound t lo hi =
      elim (cases_eq t 1) [
        | inl e ↦ at_tag t 1 e (other_fits (behind_tag ns 1) 1 (differ 1 2 refl) (differ 1 3 refl) (of_tag 1 (omega arith) (omega arith)))
        | inr other ↦ elim (cases_eq t 2) [
          | inl e ↦ at_tag t 2 e attempt_sound
          | inr another ↦ behind_3 t (omega (arith, other, another, lo)) hi
        ]
      ]

  abbrev Acts : Act → Type 0
  Acts a = IsAct a × Known ns a

  tagged_is : (p : ℕ × Act) → act_tag p.1 ≡ p.0 → packed_act_bytes ns p.1 ≡ (p.0 ∷ []) ++ (behind_tag ns p.0).spell p.1
  tagged_is p e = subst (λ (t : ℕ). packed_act_bytes ns p.1 ≡ (t ∷ []) ++ (behind_tag ns t).spell p.1) e (ap (λ z. act_tag p.1 ∷ z) (sym (fields_spelled ns p.1)))

  packed_act_sound : Sound (packed_act ns) Acts
  unfolding packed_act_at
  packed_act_sound =
      let F = linked (ranged 1 7) (behind_tag ns) in
      let P : ℕ × Act → Type 0 = λ p. ((1 ≤ p.0) × (p.0 ≤ 7)) × Fits ns p.0 p.1 in
      same_sound (picked F the_act (packed_act_bytes ns)) (packed_act ns) Acts Acts
      (made_sound F P (λ p. p.1) (packed_act_bytes ns) Acts
      (linked_sound (ranged 1 7) (λ t. (1 ≤ t) × (t ≤ 7)) (behind_tag ns) (Fits ns) (sound_of (ranged 1 7) (λ t. (1 ≤ t) × (t ≤ 7)) (ranged_lawful 1 7 (omega arith))) (λ t h. behind_sound t h.0 h.1))
      (λ p h. ((h.1.is, h.1.known), tagged_is p h.1.tag)) (λ a h. ((act_tag a, a), (tag_range a, record { tag = refl; is = h.0; known = h.1 }), refl)))
      (λ bytes. refl) (λ a h. (h, refl)) (λ a h. h)

  -- ---- entries

  abbrev Next : ℕ → Entry → Type 0
  Next before e = (before ≤ e.moment) × IsEntry e × Known ns e.act

  entry_is : (before : ℕ) (p : ℕ × Act) → spelled.packed ns before (record { moment = before + p.0; act = p.1 }) ≡ varint_bytes p.0 ++ packed_act_bytes ns p.1
  entry_is before p = let e : (before + p.0) - before ≡ p.0 = omega arith in ap (λ (z : ℕ). varint_bytes z ++ packed_act_bytes ns p.1) e

  entry_back : (before : ℕ) (e : Entry) → before ≤ 253402300799 → Next before e → (p : ℕ × Act) × ((p.0 ≤ 253402300799 - before) × Acts p.1) × ((let x : Entry = record { moment = before + p.0; act = p.1 } in x) ≡ e)
  entry_back before e le h =
      let low : before ≤ e.moment = h.0 in
      let high : e.moment < 253402300800 = h.1.fits.moment in
      let is : before + (e.moment - before) ≡ e.moment = omega arith in
      ((e.moment - before, e.act), (omega arith, (record { fits = h.1.fits.act; formed = h.1.formed }, h.2)), ap (λ (m : ℕ). let x : Entry = record { moment = m; act = e.act } in x) is)

  packed_sound : (before : ℕ) → before ≤ 253402300799 → Sound (packed ns before) (Next before)
  unfolding packed_at
  packed_sound before le =
      let most : ℕ = 253402300799 - before in
      let F = linked (varint most) (λ _. packed_act ns) in
      same_sound (picked F (entry_after before) (spelled.packed ns before)) (packed ns before) (Next before) (Next before)
      (made_sound F (λ p. (p.0 ≤ most) × Acts p.1) (λ p. record { moment = before + p.0; act = p.1 }) (spelled.packed ns before) (Next before)
      (linked_sound (varint most) (λ n. n ≤ most) (λ _. packed_act ns) (λ _. Acts) (varint_sound most (omega arith)) (λ n p. packed_act_sound))
      (λ p h. ((omega arith, record { fits = record { moment = omega (arith, h.0); act = h.1.0.fits }; formed = h.1.0.formed }, h.1.1), entry_is before p)) (λ e h. entry_back before e le h))
      (λ bytes. refl) (λ e h. (h, refl)) (λ e h. h)

  pub entries_sound : (n : ℕ) → Sound (steps (packed ns) moment_of n 0) (λ es. (length es ≡ n) × AllSteps Next moment_of 0 es)
  entries_sound n = steps_sound (packed ns) moment_of Next (λ m. m ≤ 253402300799) packed_sound (λ m e i h. let k : e.moment < 253402300800 = h.1.fits.moment in omega arith) n 0 (omega arith)

-- ---- base, count and names

count_sound : (base : ℕ) → Sound (count base) (λ n. (n < 2 ^ 32) × (count_fits base n ≡ true))
unfolding count_at
count_sound base =
    let P : ℕ → Type 0 = λ n. (n < 2 ^ 32) × (count_fits base n ≡ true) in
    same_sound (checked (whole w32) (count_fits base)) (count base) P P
    (checked_sound (whole w32) (λ n. n < 2 ^ 32) (count_fits base) (sound_of (whole w32) (λ n. n < 2 ^ 32) (whole_lawful w32 (2 ^ 32) wide32)) (λ n p. omega arith))
    (λ bytes. refl) (λ n p. (p, refl)) (λ n p. p)

abbrev AreNames : List Bytes → Type 0
AreNames ns = IsList 65535 IsName ns × (ascends ns ≡ true)

abbrev Above : Bytes → Bytes → Type 0
Above before n = IsName n × (precedes before n ≡ true)

above_sound : (before : Bytes) → Unit {0} → Sound (above before) (Above before)
unfolding above_at
above_sound before u =
    same_sound (checked name (precedes before)) (above before) (Above before) (Above before) (checked_sound name IsName (precedes before) (sound_of name IsName name_lawful) (λ n p. omega arith))
    (λ bytes. refl) (λ n p. (p, refl)) (λ n p. p)

abbrev Follow : Bytes → List Bytes → Type 0
Follow before ns = AllSteps Above the_name before ns

follow_named : (before : Bytes) (ns : List Bytes) → Follow before ns → AllByRecursion IsName ns
follow_named before [] h = tt
follow_named before (n ∷ ns) h = (h.0.0, follow_named n ns h.1)

follow_ascends : (before : Bytes) (ns : List Bytes) → Follow before ns → ascends ns ≡ true
follow_ascends before [] h = refl
follow_ascends before (n ∷ []) h = refl
follow_ascends before (n ∷ m ∷ ms) h = both (precedes n m) (ascends (m ∷ ms)) h.1.0.1 (follow_ascends n (m ∷ ms) h.1)

follow_from : (before : Bytes) (n : Bytes) (ns : List Bytes) → precedes before n ≡ true → AllByRecursion IsName (n ∷ ns) → ascends (n ∷ ns) ≡ true → Follow before (n ∷ ns)
follow_from before n [] first named up = ((named.0, first), tt)
follow_from before n (m ∷ ms) first named up =
    ((named.0, first), follow_from n m ms (first_so (precedes n m) (ascends (m ∷ ms)) up) named.1 (second_so (precedes n m) (ascends (m ∷ ms)) up))

pub behind_none : (n : Bytes) → IsName n → precedes [] n ≡ true
behind_none [] h = absurd (omega (arith, (name_parts [] h).0))
behind_none (b ∷ n) h = refl

follow_all : (ns : List Bytes) → AllByRecursion IsName ns → ascends ns ≡ true → Follow [] ns
follow_all [] named up = tt
follow_all (n ∷ ns) named up = follow_from [] n ns (behind_none n named.0) named up

names_spelled : (n : ℕ) (before : Bytes) (ns : List Bytes) → flat_map name_bytes ns ≡ (steps above the_name n before).spell ns
names_spelled n before [] = refl
names_spelled n before (m ∷ ms) = flat_map-cons name_bytes m ms ∙ ap (λ z. name_bytes m ++ z) (names_spelled n m ms)

names_sound : Sound names AreNames
unfolding names_at
names_sound =
    let P : ℕ × List Bytes → Type 0 = λ p. (p.0 ≤ 65535) × ((length p.1 ≡ p.0) × Follow [] p.1) in
    same_sound (picked counted_names the_names (list_bytes name_bytes)) names AreNames AreNames
    (made_sound counted_names P (λ p. p.1) (list_bytes name_bytes) AreNames
    (linked_sound (upto w16 65535) (λ n. n ≤ 65535) (λ n. steps above the_name n []) (λ n ns. (length ns ≡ n) × Follow [] ns) (sound_of (upto w16 65535) (λ n. n ≤ 65535) (upto_lawful w16 (2 ^ 16) 65535 wide16 (omega arith)))
    (λ n h. steps_sound above the_name Above (λ _. Unit {0}) above_sound (λ s a i p. tt) n [] tt))
    (λ p h. (((omega (arith, h.0, h.1.0), All-from_recursion IsName p.1 (follow_named [] p.1 h.1.1)), follow_ascends [] p.1 h.1.1), ap (λ (n : ℕ). u16 n ++ flat_map name_bytes p.1) h.1.0 ∙ ap (λ z. u16 p.0 ++ z) (names_spelled p.0 [] p.1)))
    (λ ns h. ((length ns, ns), (h.0.0, (refl, follow_all ns (recursion_from_All IsName ns h.0.1) h.1)), refl)))
    (λ bytes. refl) (λ ns p. (p, refl)) (λ ns p. p)

listed_from : (ns : List Bytes) → AreNames ns → Listed ns
listed_from ns h = record { named = recursion_from_All IsName ns h.0.1; up = ascends_all ns h.1 }

-- ---- whole segments

abbrev NextOf : List Bytes → ℕ → Entry → Type 0
NextOf ns before e = (before ≤ e.moment) × IsEntry e × Known ns e.act

abbrev Entries : ℕ → List Bytes → List Entry → Type 0
Entries n ns es = (length es ≡ n) × AllSteps (NextOf ns) moment_of 0 es

abbrev IsBody : ℕ → Body → Type 0
IsBody n b = AreNames b.0 × Entries n b.0 b.1

abbrev IsHead : Head → Type 0
IsHead h = (h.0 ≤ 281474976710654) × ((h.1 < 2 ^ 32) × (count_fits h.0 h.1 ≡ true))

abbrev AreParts : Head × Body → Type 0
AreParts p = IsHead p.0 × IsBody p.0.1 p.1

body_sound : (n : ℕ) → Sound (body n) (IsBody n)
body_sound n = linked_sound names AreNames (λ ns. steps (packed ns) moment_of n 0) (Entries n) names_sound (λ ns h. entries_sound ns h.0.0 (listed_from ns h) n)

parts_sound : Sound parts AreParts
parts_sound =
    linked_sound (linked (upto w64 281474976710654) count) IsHead (λ head. body head.1) (λ head. IsBody head.1)
    (linked_sound (upto w64 281474976710654) (λ b. b ≤ 281474976710654) count (λ b n. (n < 2 ^ 32) × (count_fits b n ≡ true)) (sound_of (upto w64 281474976710654) (λ b. b ≤ 281474976710654) (upto_lawful w64 (2 ^ 64) 281474976710654 wide64 (omega arith))) (λ b h. count_sound b))
    (λ head h. body_sound head.1)

-- the entries one after the other are spelled as said
steps_spelled : (ns : List Bytes) (before : ℕ) (es : List Entry) → (steps (packed ns) moment_of 0 before).spell es ≡ spelled.all_packed ns before es
steps_spelled ns before [] = refl
steps_spelled ns before (e ∷ es) = ap (λ z. spelled.packed ns before e ++ z) (steps_spelled ns e.moment es)

parts_spelled : (b n : ℕ) (ns : List Bytes) (es : List Entry) → u64 b & u32 n & list_bytes name_bytes ns & spelled.all_packed ns 0 es ≡ parts.spell ((b, n), (ns, es))
parts_spelled b n ns es =
    ap (λ z. u64 b ++ (u32 n ++ (list_bytes name_bytes ns ++ z))) (sym (steps_spelled ns 0 es)) ∙ sym (append_assoc (u64 b) (u32 n) (list_bytes name_bytes ns ++ (steps (packed ns) moment_of n 0).spell es))

in_time_from : (ns : List Bytes) (before : ℕ) (es : List Entry) → AllSteps (NextOf ns) moment_of before es → InTime before es
in_time_from ns before [] h = tt
in_time_from ns before (e ∷ es) h = (h.0.0, in_time_from ns e.moment es h.1)

each_from : (ns : List Bytes) (before : ℕ) (es : List Entry) → AllSteps (NextOf ns) moment_of before es → AllByRecursion IsEntry es
each_from ns before [] h = tt
each_from ns before (e ∷ es) h = (h.0.1, each_from ns e.moment es h.1)

steps_from : (ns : List Bytes) (before : ℕ) (es : List Entry) → InTime before es → AllByRecursion IsEntry es → AllKnown ns es → AllSteps (NextOf ns) moment_of before es
steps_from ns before [] t e k = tt
steps_from ns before (x ∷ es) t e k = ((t.0, e.0, k.0), steps_from ns x.moment es t.1 e.1 k.1)

formed_from : (es : List Entry) → AllByRecursion IsEntry es → AllFormed es
formed_from [] h = tt
formed_from (e ∷ es) h = (h.0.formed, formed_from es h.1)

abbrev segment_if : Bool → ℕ → List Entry → Option Segment
segment_if b base es = cond b (Some (record { base = base; entries = es })) None

chosen_is : (b : Bool) (base : ℕ) (es : List Entry) (s : Segment) → segment_if b base es ≡ Some s → (b ≡ true) × ((let x : Segment = record { base = base; entries = es } in x) ≡ s)
chosen_is true base es s e = (refl, some_is (record { base = base; entries = es }) s e)
  where
    some_is : (x y : Segment) → Some x ≡ Some y → x ≡ y
    some_is x y h = cc
chosen_is false base es s e = absurd cc

segment_fits : (p : Head × Body) → AreParts p → names_of p.1.1 ≡ p.1.0 → IsSegment p.0.0 p.1.1
segment_fits p h is =
    let base : ℕ = p.0.0 in
    let n : ℕ = p.0.1 in
    let es : List Entry = p.1.1 in
    let count_is : length es ≡ n = h.1.1.0 in
    let low = le_from 1 n (first_so (nat_le 1 n) (nat_lt (base + n) 281474976710656) h.0.1.1) in
    let high = lt_from (base + n) 281474976710656 (second_so (nat_le 1 n) (nat_lt (base + n) 281474976710656) h.0.1.1) in
    record {
      some = omega (arith, low, count_is);
      few = omega (arith, h.0.1.0, count_is);
      below = omega (arith, high, count_is);
      in_time = in_time_from p.1.0 0 es h.1.1.1;
      each = All-from_recursion IsEntry es (each_from p.1.0 0 es h.1.1.1);
      names = omega (arith, h.1.0.0.0, ap length is);
    }

segment_to : (p : Head × Body) (s : Segment) → AreParts p → segment_of p ≡ Some s → IsWhole s × (segment_bytes s ≡ parts.spell p)
segment_to p s h e =
    let c = chosen_is (same_names (names_of p.1.1) p.1.0) p.0.0 p.1.1 s e in
    let is = same_names_are (names_of p.1.1) p.1.0 c.0 in
    let count_is : length p.1.1 ≡ p.0.1 = h.1.1.0 in
    let bytes : spelled.segment p.0.0 p.1.1 ≡ parts.spell p =
    ap (λ (ns : List Bytes). u64 p.0.0 & u32 (length p.1.1) & list_bytes name_bytes ns & spelled.all_packed ns 0 p.1.1) is
    ∙ ap (λ (n : ℕ). u64 p.0.0 & u32 n & list_bytes name_bytes p.1.0 & spelled.all_packed p.1.0 0 p.1.1) count_is ∙ parts_spelled p.0.0 p.0.1 p.1.0 p.1.1 in
    subst (λ (z : Segment). IsWhole z × (segment_bytes z ≡ parts.spell p)) c.1 (segment_fits p h is, bytes)

listed_names : (es : List Entry) → AllByRecursion IsEntry es → Listed (names_of es)
listed_names es h = names_listed es [] (formed_from es h) (record { named = tt; up = none_in_order [] refl })

segment_back : (s : Segment) → IsWhole s → (p : Head × Body) × AreParts p × (segment_of p ≡ Some s)
segment_back s h =
    let es : List Entry = s.entries in
    let ns : List Bytes = names_of es in
    let each = recursion_from_All IsEntry es h.each in
    let l = listed_names es each in
    let fits : count_fits s.base (length es) ≡ true = both (nat_le 1 (length es)) (nat_lt (s.base + length es) 281474976710656) (le_test 1 (length es) (omega (arith, h.some))) (lt_test (s.base + length es) 281474976710656 (omega (arith, h.below))) in
    let head : IsHead (s.base, length es) = (omega (arith, h.some, h.below), (h.few, fits)) in
    let names_fit : AreNames ns = ((omega (arith, h.names), All-from_recursion IsName ns l.named), ascends_test ns l.up) in
    let entries : Entries (length es) ns es = (refl, steps_from ns 0 es h.in_time each (all_known es [])) in
    (((s.base, length es), (ns, es)), (head, (names_fit, entries)), ap (λ (b : Bool). segment_if b s.base es) (same_names_self ns))

pub segment_sound : Sound segment IsWhole
unfolding segment_at
segment_sound =
    same_sound (picked parts segment_of segment_bytes) segment IsWhole IsWhole
    (picked_sound parts AreParts segment_of segment_bytes IsWhole parts_sound segment_to segment_back (λ p h none. some_bytes p))
    (λ bytes. refl) (λ s h. (h, refl)) (λ s h. h)
  where
    some_bytes : (p : Head × Body) → 0 < length (parts.spell p)
    some_bytes p = omega arith

-- As many entries as fit are the longest front that has a segment.
use Rattle.std.proofs.Common.{◌≡◌, ℕ, zero, suc, ◌<◌, ◌≤◌, ◌+◌, ◌-◌, ◌^◌, Bool, true, false, ◌&&◌, List, [], ◌∷◌, ◌++◌, length, get_or, take, drop, drop-cons, add-one, cond, refl, sym, ap, subst, ◌∙◌, arith, ◌⊎◌, inl, inr, append_assoc, length-append, length-take}
use Rattle.std.specs.Prelude.{All, nat_le}
use Rattle.std.specs.declared.cmp.Ordering.{Ordering}
use Rattle.std.specs.declared.cmp.Ordering.TheVariants.{Less, Equal, Greater}
use Rattle.std.specs.Ordering.{nat_cmp}
use Rattle.std.specs.Cmp.{first_so, second_so}
use Rattle.std.specs.Cmp.Lexicographic.{slice_cmp}
use Rattle.std.specs.List.{flat_map, AllWithin, insert}
use Rattle.std.proofs.lemmas.Bool.{cases_lt}
use Rattle.std.proofs.lemmas.Bool.Decides.{nat_tests}
use Rattle.std.proofs.lemmas.List.Concat.{flat_map-cons}
use Rattle.std.proofs.lemmas.List.{append-nil}
use Rattle.std.proofs.Math.ListN.{drop_of_length-le}
use Rattle.news_types.specs.Names.{Bytes, AreInOrder}
use Rattle.news_types.specs.declared.entry.Act.{Act}
use Rattle.news_types.specs.declared.entry.Act.TheVariants.{Advance, Attempt, Receipt, Halt, Ingest, Request}
use Rattle.news_types.specs.declared.entry.Entry.{Entry}
use Rattle.byte_formats.specs.Spelling.{IsName, ◌&◌, byte, u32, u64, name, list}
use Rattle.byte_formats.specs.Varint.{varint_bytes}
use Rattle.byte_formats.proofs.Varints.{varint_short}
use Rattle.byte_formats.proofs.Names.{name_parts}
use Rattle.entry_codec.specs.Spelling.{act, act_tag, without_tag}
use Rattle.entry_codec.specs.Formed.{IsEntry}
use Rattle.entry_codec.proofs.Lengths.{entry_len}
use Rattle.entry_codec.proofs.Appends.{then}
use Rattle.entry_segments.specs.Segment.{placed, with_name, with_names_of, names_from, names_of, packed_fields, packed, all_packed, segment, InTime}
use Rattle.entry_segments.proofs.NameOrder.{put_at, put_same, acts_ascend, none_in_order}
use Rattle.entry_segments.specs.Packing.{names_size, has_room, fitting, IsLongest}

le_from : (m n : ℕ) → nat_le m n ≡ true → m ≤ n
le_from m n e = grind (arith, nat_tests, e)

le_test : (m n : ℕ) → m ≤ n → nat_le m n ≡ true
le_test m n e = grind (arith, nat_tests, e)

tested : (b : Bool) → (b ≡ true) ⊎ (b ≡ false)
tested true = inl refl
tested false = inr refl

both : (a b : Bool) → a ≡ true → b ≡ true → (a && b) ≡ true
both true true e f = refl
both true false e f = f
both false b e f = e

pub room_from : (size : ℕ) (ns : List Bytes) → has_room size ns ≡ true → (size + names_size ns ≤ 2097152) × (length ns ≤ 65535)
room_from size ns e =
    (le_from (size + names_size ns) 2097152 (first_so (nat_le (size + names_size ns) 2097152) (nat_le (length ns) 65535) e), le_from (length ns) 65535 (second_so (nat_le (size + names_size ns) 2097152) (nat_le (length ns) 65535) e))

pub room_test : (size : ℕ) (ns : List Bytes) → size + names_size ns ≤ 2097152 → length ns ≤ 65535 → has_room size ns ≡ true
room_test size ns h k = both (nat_le (size + names_size ns) 2097152) (nat_le (length ns) 65535) (le_test _ _ h) (le_test _ _ k)

-- ---- an entry takes as many bytes whatever the names

fields_len : (ns : List Bytes) (a : Act) → length (packed_fields ns a) ≡ length (packed_fields [] a)
fields_len ns Advance = refl
fields_len ns (Attempt s k) = refl
fields_len ns (Receipt s n) = refl
fields_len ns Halt = refl
fields_len ns (Ingest _ _) = refl
fields_len ns (Request _ _ _) = refl

pub packed_len : (ns : List Bytes) (before : ℕ) (e : Entry) → length (packed ns before e) ≡ length (packed [] before e)
packed_len ns before e =
    let tail : length (byte (act_tag e.act) ++ packed_fields ns e.act) ≡ length (byte (act_tag e.act) ++ packed_fields [] e.act) = ap suc (fields_len ns e.act) in
    length-append (varint_bytes (e.moment - before)) (byte (act_tag e.act) ++ packed_fields ns e.act)
    ∙ ap (λ n. length (varint_bytes (e.moment - before)) + n) tail ∙ sym (length-append (varint_bytes (e.moment - before)) (byte (act_tag e.act) ++ packed_fields [] e.act))

all_packed_len : (ns : List Bytes) (before : ℕ) (es : List Entry) → length (all_packed ns before es) ≡ length (all_packed [] before es)
all_packed_len ns before [] = refl
all_packed_len ns before (e ∷ es) =
    omega (
      arith,
      packed_len ns before e,
      all_packed_len ns e.moment es,
      length-append (packed ns before e) (all_packed ns e.moment es),
      length-append (packed [] before e) (all_packed [] e.moment es),
    )

all_packed_cons : (before : ℕ) (e : Entry) (es : List Entry) → length (all_packed [] before (e ∷ es)) ≡ length (packed [] before e) + length (all_packed [] e.moment es)
all_packed_cons before e es = length-append (packed [] before e) (all_packed [] e.moment es)

pub segment_len : (base : ℕ) (es : List Entry) → length (segment base es) ≡ 14 + length (all_packed [] 0 es) + names_size (names_of es)
segment_len base es =
    let ns : List Bytes = names_of es in
    omega (arith, all_packed_len ns 0 es, length-append (flat_map name ns) (all_packed ns 0 es))

-- ---- more entries have no fewer names

size_cons : (n : Bytes) (ns : List Bytes) → names_size (n ∷ ns) ≡ suc (length n) + names_size ns
size_cons n ns = let e = ap length (flat_map-cons name n ns) in omega (arith, e, length-append n (flat_map name ns))

pub record Grows (ns ms : List Bytes) : Type 0 where
  pub size : names_size ns ≤ names_size ms
  pub count : length ns ≤ length ms

grows_self : (ns : List Bytes) → Grows ns ns
grows_self ns = record { size = omega arith; count = omega arith }

grows_then : (ns ms ls : List Bytes) → Grows ns ms → Grows ms ls → Grows ns ls
grows_then ns ms ls h k = record { size = omega (arith, h.size, k.size); count = omega (arith, h.count, k.count) }

placed_grows : (o : Ordering) (n m : Bytes) (ms rest : List Bytes) → Grows ms rest → Grows (m ∷ ms) (placed o n m ms rest)
placed_grows Less n m ms rest h = record { size = omega (arith, h.size, size_cons m ms, size_cons m rest); count = omega (arith, h.count) }
placed_grows Equal n m ms rest h = grows_self (m ∷ ms)
placed_grows Greater n m ms rest h = record { size = omega (arith, size_cons n (m ∷ ms)); count = omega arith }

put_grows : (n : Bytes) (ns : List Bytes) → Grows ns (with_name n ns)
put_grows n [] = record { size = omega arith; count = omega arith }
put_grows n (m ∷ ms) = placed_grows (slice_cmp nat_cmp m n) n m ms (with_name n ms) (put_grows n ms)

act_grows : (a : Act) (ns : List Bytes) → Grows ns (with_names_of a ns)
act_grows (Attempt n k) ns = put_grows n ns
act_grows (Receipt n k) ns = put_grows n ns
act_grows _ ns = grows_self ns

names_grow : (es : List Entry) (ns : List Bytes) → Grows ns (names_from ns es)
names_grow [] ns = grows_self ns
names_grow (e ∷ es) ns = grows_then ns (with_names_of e.act ns) (names_from (with_names_of e.act ns) es) (act_grows e.act ns) (names_grow es (with_names_of e.act ns))

insert_size : (n : Bytes) (ns : List Bytes) (i : ℕ) → names_size (insert ns i n) ≡ names_size ns + (1 + length n)
insert_size n ns zero = let e = size_cons n ns in omega (arith, e)
insert_size n [] (suc i) = let e = size_cons n [] in omega (arith, e)
insert_size n (m ∷ ms) (suc i) = omega (arith, insert_size n ms i, size_cons m ms, size_cons m (insert ms i n))

pub size_more : (n : Bytes) (ns : List Bytes) (i : ℕ) → i ≤ length ns → AllWithin (λ m. slice_cmp nat_cmp m n ≡ Less) ns 0 i → AllWithin (λ m. slice_cmp nat_cmp m n ≡ Greater) ns i (length ns) → names_size (with_name n ns) ≡ names_size ns + (1 + length n)
size_more n ns i le below above = ap names_size (sym (put_at n ns i le below above)) ∙ insert_size n ns i

pub name_short : (n : Bytes) → IsName n → length n ≤ 32
name_short n h = (name_parts n h).1

-- ---- the longest front

abbrev Room : ℕ → List Bytes → ℕ → List Entry → ℕ → Type 0
Room size ns before es n = (size + length (all_packed [] before (take n es)) + names_size (names_from ns (take n es)) ≤ 2097152) × (length (names_from ns (take n es)) ≤ 65535)

abbrev chosen : Bool → ℕ → ℕ
chosen b n = cond b (suc n) 0

room_more : (size : ℕ) (ns : List Bytes) (before : ℕ) (e : Entry) (es : List Entry) (n : ℕ) → Room (size + length (packed [] before e)) (with_names_of e.act ns) e.moment es n → Room size ns before (e ∷ es) (suc n)
room_more size ns before e es n h = (omega (arith, h.0, all_packed_cons before e (take n es)), h.1)

room_less : (size : ℕ) (ns : List Bytes) (before : ℕ) (e : Entry) (es : List Entry) (n : ℕ) → Room size ns before (e ∷ es) (suc n) → Room (size + length (packed [] before e)) (with_names_of e.act ns) e.moment es n
room_less size ns before e es n h = (omega (arith, h.0, all_packed_cons before e (take n es)), h.1)

first_room : (size : ℕ) (ns : List Bytes) (before : ℕ) (e : Entry) (es : List Entry) (n : ℕ) → Room size ns before (e ∷ es) (suc n) → has_room (size + length (packed [] before e)) (with_names_of e.act ns) ≡ true
first_room size ns before e es n h =
    let g = names_grow (take n es) (with_names_of e.act ns) in
    room_test (size + length (packed [] before e)) (with_names_of e.act ns) (omega (arith, h.0, g.size, all_packed_cons before e (take n es))) (omega (arith, h.1, g.count))

fitting_room : (size : ℕ) (ns : List Bytes) (before : ℕ) (es : List Entry) → size + names_size ns ≤ 2097152 → length ns ≤ 65535 → Room size ns before es (fitting size ns before es)
fitting_room size ns before [] h k = (omega (arith, h), k)
fitting_room size ns before (e ∷ es) h k =
    let size' : ℕ = size + length (packed [] before e) in
    let ns' : List Bytes = with_names_of e.act ns in
    elim (tested (has_room size' ns')) [
      | inl fits_in ↦
          let r = room_from size' ns' fits_in in
          let inner = fitting_room size' ns' e.moment es r.0 r.1 in
          subst (λ (b : Bool). Room size ns before (e ∷ es) (chosen b (fitting size' ns' e.moment es))) (sym fits_in) (room_more size ns before e es (fitting size' ns' e.moment es) inner)
      | inr full ↦ subst (λ (b : Bool). Room size ns before (e ∷ es) (chosen b (fitting size' ns' e.moment es))) (sym full) (omega (arith, h), k)
    ]

fitting_within : (size : ℕ) (ns : List Bytes) (before : ℕ) (es : List Entry) → fitting size ns before es ≤ length es
fitting_within size ns before [] = omega arith
fitting_within size ns before (e ∷ es) =
    let size' : ℕ = size + length (packed [] before e) in
    let ns' : List Bytes = with_names_of e.act ns in
    let inner = fitting_within size' ns' e.moment es in
    elim (tested (has_room size' ns')) [
      | inl fits_in ↦ let is = ap (λ (b : Bool). chosen b (fitting size' ns' e.moment es)) fits_in in omega (arith, inner, is)
      | inr full ↦ let is = ap (λ (b : Bool). chosen b (fitting size' ns' e.moment es)) full in omega (arith, is)
    ]

fitting_longest : (size : ℕ) (ns : List Bytes) (before : ℕ) (es : List Entry) (n : ℕ) → n ≤ length es → Room size ns before es n → n ≤ fitting size ns before es
fitting_longest size ns before es zero le h = omega arith
fitting_longest size ns before [] (suc n) le h = absurd (omega (arith, le))
fitting_longest size ns before (e ∷ es) (suc n) le h =
    let size' : ℕ = size + length (packed [] before e) in
    let ns' : List Bytes = with_names_of e.act ns in
    let inner = fitting_longest size' ns' e.moment es n (omega (arith, le)) (room_less size ns before e es n h) in
    let is = ap (λ (b : Bool). chosen b (fitting size' ns' e.moment es)) (first_room size ns before e es n h) in
    omega (arith, inner, is)

-- ---- of all entries

pub in_time_front : (before : ℕ) (es : List Entry) (n : ℕ) → InTime before es → InTime before (take n es)
in_time_front before [] zero h = tt
in_time_front before [] (suc n) h = tt
in_time_front before (e ∷ es) zero h = tt
in_time_front before (e ∷ es) (suc n) h = (h.0, in_time_front e.moment es n h.1)

pub taken_room : (es : List Entry) → Room 14 [] 0 es (fitting 14 [] 0 es)
taken_room es = fitting_room 14 [] 0 es (omega arith) (omega arith)

pub taken_within : (es : List Entry) → fitting 14 [] 0 es ≤ length es
taken_within es = fitting_within 14 [] 0 es

-- each entry has two bytes at least
packed_some : (before : ℕ) (e : Entry) → 1 ≤ length (packed [] before e)
packed_some before e = omega (arith, length-append (varint_bytes (e.moment - before)) (byte (act_tag e.act) ++ packed_fields [] e.act))

all_packed_some : (before : ℕ) (es : List Entry) → length es ≤ length (all_packed [] before es)
all_packed_some before [] = omega arith
all_packed_some before (e ∷ es) = omega (arith, packed_some before e, all_packed_some e.moment es, all_packed_cons before e es)

pub front_few : (es : List Entry) → length (take (fitting 14 [] 0 es) es) ≤ 2097152
front_few es = omega (arith, all_packed_some 0 (take (fitting 14 [] 0 es) es), (taken_room es).0)

pub is_longest : (base : ℕ) (es : List Entry) → base + length es < 2 ^ 48 → InTime 0 es → All IsEntry (take (fitting 14 [] 0 es) es) → 0 < fitting 14 [] 0 es → IsLongest base es (fitting 14 [] 0 es)
is_longest base es below in_time each some =
    let t : ℕ = fitting 14 [] 0 es in
    let room = taken_room es in
    let within : t ≤ length es = taken_within es in
    let long : length (take t es) ≡ t = omega (arith, length-take t es) in
    let front : List Entry = take t es in
    let few = front_few es in
    record {
      within = within;
      whole = record { some = omega (arith, long, some); few = omega (arith, few); below = omega (arith, long, below, within); in_time = in_time_front 0 es t in_time; each = each; names = omega (arith, room.1) };
      short = omega (arith, room.0, segment_len base front);
      longest = λ n more le whole.
          elim (cases_lt 2097152 (length (segment base (take n es)))) [
            | inl lt ↦ lt
            | inr fits ↦ absurd (let h = fitting_longest 14 [] 0 es n le (omega (arith, fits, segment_len base (take n es)), omega (arith, whole.names)) in omega (arith, h, more))
          ];
    }

-- ---- the first entry fits

first_fields : (a : Act) → (packed_fields [] a ≡ u32 (length (without_tag (act a))) & without_tag (act a)) ⊎ (length (packed_fields [] a) ≤ 12)
first_fields Advance = inr (omega arith)
first_fields (Attempt s k) = inr (omega (arith, varint_short k))
first_fields (Receipt s n) = inr (omega (arith, varint_short n))
first_fields Halt = inr (omega arith)
first_fields (Ingest _ _) = inl refl
first_fields (Request _ _ _) = inl refl

without_tag_short : (bytes : List ℕ) → length (without_tag bytes) ≤ length bytes
without_tag_short [] = omega arith
without_tag_short (b ∷ bytes) = omega arith

pub fields_short : (e : Entry) → IsEntry e → length (packed_fields [] e.act) ≤ 2097084
fields_short e h =
    elim (first_fields e.act) [
      | inl is ↦ let n = entry_len e h in omega (arith, ap length is, n, without_tag_short (act e.act), length-append (u64 e.moment) (act e.act))
      | inr few ↦ omega (arith, few)
    ]

first_names : (a : Act) → IsEntry (record { moment = 0; act = a }) → (names_size (with_names_of a []) ≤ 33) × (length (with_names_of a []) ≤ 1)
first_names (Attempt s k) h = (omega (arith, (name_parts s h.formed.0).1, size_cons s []), omega arith)
first_names (Receipt s n) h = (omega (arith, (name_parts s h.formed.0).1, size_cons s []), omega arith)
first_names Advance h = (omega arith, omega arith)
first_names Halt h = (omega arith, omega arith)
first_names (Ingest _ _) h = (omega arith, omega arith)
first_names (Request _ _ _) h = (omega arith, omega arith)

pub first_fits : (e : Entry) → IsEntry e → has_room (14 + length (packed [] 0 e)) (with_names_of e.act []) ≡ true
first_fits e h =
    let n = first_names e.act (record { fits = record { moment = omega arith; act = h.fits.act }; formed = h.formed }) in
    room_test (14 + length (packed [] 0 e)) (with_names_of e.act []) (omega (arith, n.0, fields_short e h, varint_short (e.moment - 0), length-append (varint_bytes (e.moment - 0)) (byte (act_tag e.act) ++ packed_fields [] e.act))) (omega (arith, n.1))

-- ---- loops over entries

pub at_entry : (es : List Entry) (i : ℕ) (e : Entry) → i < length es → e ≡ get_or es i e → drop i es ≡ e ∷ drop (i + 1) es
at_entry es i e lt is = rw add-one (drop-cons es i e lt) ∙ ap (λ (z : Entry). z ∷ drop (i + 1) es) (sym is)

pub in_time_at : (es : List Entry) (i : ℕ) (e : Entry) (before : ℕ) → i < length es → e ≡ get_or es i e → InTime before (drop i es) → (before ≤ e.moment) × InTime e.moment (drop (i + 1) es)
in_time_at es i e before lt is h = subst (InTime before) (at_entry es i e lt is) h

pub packed_at : (ns : List Bytes) (es : List Entry) (i : ℕ) (e : Entry) (before : ℕ) (old out new : List ℕ) (total : List ℕ) → i < length es → e ≡ get_or es i e → new ≡ out ++ packed ns before e
    → out ++ all_packed ns before (drop i es) ≡ total → new ++ all_packed ns e.moment (drop (i + 1) es) ≡ total
packed_at ns es i e before old out new total lt is wrote so_far =
    ap (λ z. z ++ all_packed ns e.moment (drop (i + 1) es)) wrote ∙ append_assoc out (packed ns before e) (all_packed ns e.moment (drop (i + 1) es))
    ∙ ap (λ z. out ++ all_packed ns before z) (sym (at_entry es i e lt is)) ∙ so_far

pub packed_end : (ns : List Bytes) (es : List Entry) (i : ℕ) (before : ℕ) (out total : List ℕ) → length es ≤ i → out ++ all_packed ns before (drop i es) ≡ total → out ≡ total
packed_end ns es i before out total le so_far = sym (append-nil out) ∙ ap (λ z. out ++ all_packed ns before z) (sym (drop_of_length-le es le)) ∙ so_far

pub fitting_goes : (es : List Entry) (i : ℕ) (e : Entry) (size size' : ℕ) (ns ns' : List Bytes) (before total : ℕ) → i < length es → e ≡ get_or es i e → size' ≡ size + length (packed [] before e) → ns' ≡ with_names_of e.act ns → has_room size' ns' ≡ true
    → i + fitting size ns before (drop i es) ≡ total → (i + 1) + fitting size' ns' e.moment (drop (i + 1) es) ≡ total
fitting_goes es i e size size' ns ns' before total lt is s n room so_far =
    let room' : has_room (size + length (packed [] before e)) (with_names_of e.act ns) ≡ true = ap (λ (z : ℕ). has_room z (with_names_of e.act ns)) (sym s) ∙ ap (has_room size') (sym n) ∙ room in
    let here = ap (fitting size ns before) (at_entry es i e lt is) ∙ ap (λ (b : Bool). chosen b (fitting (size + length (packed [] before e)) (with_names_of e.act ns) e.moment (drop (i + 1) es))) room' in
    let there : fitting size' ns' e.moment (drop (i + 1) es) ≡ fitting (size + length (packed [] before e)) (with_names_of e.act ns) e.moment (drop (i + 1) es) =
    ap (λ (z : ℕ). fitting z ns' e.moment (drop (i + 1) es)) s ∙ ap (λ (z : List Bytes). fitting (size + length (packed [] before e)) z e.moment (drop (i + 1) es)) n in
    omega (arith, here, there, so_far)

pub fitting_stops : (es : List Entry) (i : ℕ) (e : Entry) (size size' : ℕ) (ns ns' : List Bytes) (before total : ℕ) → i < length es → e ≡ get_or es i e → size' ≡ size + length (packed [] before e) → ns' ≡ with_names_of e.act ns → has_room size' ns' ≡ false
    → i + fitting size ns before (drop i es) ≡ total → i ≡ total
fitting_stops es i e size size' ns ns' before total lt is s n room so_far =
    let room' : has_room (size + length (packed [] before e)) (with_names_of e.act ns) ≡ false = ap (λ (z : ℕ). has_room z (with_names_of e.act ns)) (sym s) ∙ ap (has_room size') (sym n) ∙ room in
    let here = ap (fitting size ns before) (at_entry es i e lt is) ∙ ap (λ (b : Bool). chosen b (fitting (size + length (packed [] before e)) (with_names_of e.act ns) e.moment (drop (i + 1) es))) room' in
    omega (arith, here, so_far)

pub fitting_end : (es : List Entry) (i size before total : ℕ) (ns : List Bytes) → length es ≤ i → i ≤ length es → i + fitting size ns before (drop i es) ≡ total → length es ≡ total
fitting_end es i size before total ns le ge so_far = let here = ap (fitting size ns before) (drop_of_length-le es le) in omega (arith, here, so_far)

-- what does not fit is not the first entry
pub not_first : (e : Entry) (size' : ℕ) (ns' : List Bytes) → IsEntry e → size' ≡ 14 + length (packed [] 0 e) → ns' ≡ with_names_of e.act [] → has_room size' ns' ≡ false → ⊥
not_first e size' ns' h s n room = absurd (let first = first_fits e h in let other = ap (λ (z : ℕ). has_room z (with_names_of e.act [])) (sym s) ∙ ap (has_room size') (sym n) ∙ room in cc (first, other))

ascend_from : (es : List Entry) (ns : List Bytes) → AreInOrder ns → AreInOrder (names_from ns es)
ascend_from [] ns up = up
ascend_from (e ∷ es) ns up = ascend_from es (with_names_of e.act ns) (acts_ascend e.act ns up)

pub names_of_ascend : (es : List Entry) → AreInOrder (names_of es)
names_of_ascend es = ascend_from es [] (none_in_order [] refl)

-- ---- an act's own bytes

pub act_is : (a : Act) → act a ≡ act_tag a ∷ without_tag (act a)
act_is Advance = refl
act_is (Attempt _ _) = refl
act_is (Receipt _ _) = refl
act_is Halt = refl
act_is (Ingest _ _) = refl
act_is (Request _ _ _) = refl

pub segment_written : (start b c d : List ℕ) (base t : ℕ) (ns ms : List Bytes) (front : List Entry) → start ≡ [] → b ≡ start ++ (u64 base ++ u32 t) → c ≡ b ++ list name ns → d ≡ c ++ all_packed ms 0 front → ms ≡ ns → ns ≡ names_of front → t ≡ length front → d ≡ segment base front
segment_written start b c d base t ns ms front none first third fourth same names count =
    let body : List Bytes → List ℕ = λ l. u64 base & u32 (length front) & list name l & all_packed l 0 front in
    let tail : List ℕ = list name ns ++ all_packed ms 0 front in
    let wrote : d ≡ start ++ ((u64 base ++ u32 t) ++ tail) = then start b d (u64 base ++ u32 t) tail first (then b c d (list name ns) (all_packed ms 0 front) third fourth) in
    wrote ∙ ap (λ z. z ++ ((u64 base ++ u32 t) ++ tail)) none
    ∙ append_assoc (u64 base) (u32 t) tail
    ∙ ap (λ (n : ℕ). u64 base ++ (u32 n ++ tail)) count
    ∙ ap (λ (l : List Bytes). u64 base ++ (u32 (length front) ++ (list name ns ++ all_packed l 0 front))) same
    ∙ ap body names

-- Names in byte order.
use Rattle.std.proofs.Common.{◌≡◌, ℕ, zero, suc, ◌<◌, ◌≤◌, ◌+◌, Bool, true, false, ◌||◌, List, [], ◌∷◌, length, get_or, drop, drop-cons, add-one, cond, refl, sym, ap, ◌∙◌, arith, inl, inr}
use Rattle.std.specs.declared.cmp.Ordering.{Ordering}
use Rattle.std.specs.declared.cmp.Ordering.TheVariants.{Less, Equal, Greater}
use Rattle.std.specs.Ordering.{nat_cmp, is_lt, is_eq, ordering_reverse, ordering_index}
use Rattle.std.proofs.lemmas.Bool.{cases_lt}
use Rattle.std.specs.Cmp.{first_so, second_so}
use Rattle.std.specs.Cmp.Lexicographic.{slice_cmp, nat_list_cmp_total, texts_ties}
use Rattle.std.specs.List.{AllByRecursion, AllWithin, insert}
use Rattle.std.specs.List.Sorted.{IsStrictlySortedBy, IsSortedBy, IsNonDecreasingBy}
use Rattle.std.proofs.lemmas.List.Sorted.{searchable_from_sorted}
use Rattle.std.proofs.Math.ListN.{drop_of_length-le}
use Rattle.news_types.specs.Names.{Bytes, same, is_in, AreInOrder}
use Rattle.news_types.proofs.Members.{same_is, same_self}
use Rattle.news_types.specs.declared.entry.Act.{Act}
use Rattle.news_types.specs.declared.entry.Act.TheVariants.{Advance, Attempt, Receipt, Halt, Ingest, Request}
use Rattle.news_types.specs.declared.entry.Entry.{Entry}
use Rattle.byte_formats.specs.Spelling.{IsName}
use Rattle.entry_codec.specs.Formed.{IsFormedAct}
use Rattle.entry_segments.specs.Segment.{placed, with_name, with_names_of, names_from, place}
use Rattle.entry_segments.specs.Reading.{precedes, ascends}

abbrev order : Bytes → Bytes → Ordering
order = slice_cmp nat_cmp

-- each of them comes behind n
abbrev AllBehind : Bytes → List Bytes → Type 0
AllBehind n ms = AllByRecursion (λ m. order n m ≡ Less) ms

turned : (x y : Bytes) → order x y ≡ ordering_reverse (order y x)
turned x y = nat_list_cmp_total.antisymm x y

behind_too : (x n : Bytes) (ns : List Bytes) → order x n ≡ Less → AllBehind n ns → AllBehind x ns
behind_too x n [] e h = tt
behind_too x n (m ∷ ms) e h = (nat_list_cmp_total.trans x n m e h.0, behind_too x n ms e h.1)

less_is : (o : Ordering) → is_lt o ≡ true → o ≡ Less
less_is Less e = refl
less_is Equal e = absurd cc
less_is Greater e = absurd cc

-- no names are in order
pub none_in_order : (ns : List Bytes) → ns ≡ [] → AreInOrder ns
unfolding IsStrictlySortedBy
none_in_order [] e = tt
none_in_order (n ∷ ns) e = absurd cc

pub ascends_all : (ns : List Bytes) → ascends ns ≡ true → AreInOrder ns
unfolding IsStrictlySortedBy
ascends_all [] e = tt
ascends_all (n ∷ []) e = (tt, tt)
ascends_all (n ∷ m ∷ ms) e =
    let first = less_is (order n m) (first_so (precedes n m) (ascends (m ∷ ms)) e) in
    let rest = ascends_all (m ∷ ms) (second_so (precedes n m) (ascends (m ∷ ms)) e) in
    ((first, behind_too n m ms first rest.0), rest)

pub ascends_test : (ns : List Bytes) → AreInOrder ns → ascends ns ≡ true
unfolding IsStrictlySortedBy
ascends_test [] up = refl
ascends_test (n ∷ []) up = refl
ascends_test (n ∷ m ∷ ms) up = rw (up.0.0) (ascends_test (m ∷ ms) up.1)

-- ---- one more name

placed_behind : (o : Ordering) (x n m : Bytes) (ms rest : List Bytes) → AllBehind x (m ∷ ms) → AllBehind x rest → order x n ≡ Less → AllBehind x (placed o n m ms rest)
placed_behind Less x n m ms rest h k e = (h.0, k)
placed_behind Equal x n m ms rest h k e = h
placed_behind Greater x n m ms rest h k e = (e, h)

put_behind : (x n : Bytes) (ns : List Bytes) → AllBehind x ns → order x n ≡ Less → AllBehind x (with_name n ns)
put_behind x n [] h e = (e, tt)
put_behind x n (m ∷ ms) h e = placed_behind (order m n) x n m ms (with_name n ms) h (put_behind x n ms h.1 e) e

placed_ascends : (o : Ordering) (n m : Bytes) (ms : List Bytes) → order m n ≡ o → AreInOrder (m ∷ ms) → AreInOrder (with_name n ms) → AreInOrder (placed o n m ms (with_name n ms))
unfolding IsStrictlySortedBy
placed_ascends Less n m ms e up rest = (put_behind m n ms up.0 e, rest)
placed_ascends Equal n m ms e up rest = up
placed_ascends Greater n m ms e up rest = let less : order n m ≡ Less = turned n m ∙ ap ordering_reverse e in ((less, behind_too n m ms less up.0), up)

pub put_ascends : (n : Bytes) (ns : List Bytes) → AreInOrder ns → AreInOrder (with_name n ns)
unfolding IsStrictlySortedBy
put_ascends n [] up = (tt, tt)
put_ascends n (m ∷ ms) up = placed_ascends (order m n) n m ms refl up (put_ascends n ms up.1)

placed_named : (o : Ordering) (n m : Bytes) (ms rest : List Bytes) → IsName n → AllByRecursion IsName (m ∷ ms) → AllByRecursion IsName rest → AllByRecursion IsName (placed o n m ms rest)
placed_named Less n m ms rest h all k = (all.0, k)
placed_named Equal n m ms rest h all k = all
placed_named Greater n m ms rest h all k = (h, all)

pub put_named : (n : Bytes) (ns : List Bytes) → IsName n → AllByRecursion IsName ns → AllByRecursion IsName (with_name n ns)
put_named n [] h all = (h, tt)
put_named n (m ∷ ms) h all = placed_named (order m n) n m ms (with_name n ms) h all (put_named n ms h all.1)

either_true : (a b c : Bool) → (a || b) ≡ true → (b ≡ true → c ≡ true) → (a || c) ≡ true
either_true true b c e h = refl
either_true false b c e h = h e

or_true : (a b : Bool) → b ≡ true → (a || b) ≡ true
or_true true b e = refl
or_true false b e = e

placed_in : (o : Ordering) (s n m : Bytes) (ms rest : List Bytes) → is_in s (m ∷ ms) ≡ true → (is_in s ms ≡ true → is_in s rest ≡ true) → is_in s (placed o n m ms rest) ≡ true
placed_in Less s n m ms rest h k = either_true (same s m) (is_in s ms) (is_in s rest) h k
placed_in Equal s n m ms rest h k = h
placed_in Greater s n m ms rest h k = or_true (same s n) (is_in s (m ∷ ms)) h

-- what is there stays there
pub put_keeps : (s n : Bytes) (ns : List Bytes) → is_in s ns ≡ true → is_in s (with_name n ns) ≡ true
put_keeps s n [] h = absurd cc
put_keeps s n (m ∷ ms) h = placed_in (order m n) s n m ms (with_name n ms) h (put_keeps s n ms)

placed_self : (o : Ordering) (n m : Bytes) (ms rest : List Bytes) → order m n ≡ o → is_in n rest ≡ true → is_in n (placed o n m ms rest) ≡ true
placed_self Less n m ms rest e h = or_true (same n m) (is_in n rest) h
placed_self Equal n m ms rest e h =
    let is : same m n ≡ true = texts_ties m n ∙ ap is_eq e in
    let self : same n m ≡ true = ap (same n) (same_is m n is) ∙ same_self n in
    rw self refl
placed_self Greater n m ms rest e h = rw (same_self n) refl

pub put_self : (n : Bytes) (ns : List Bytes) → is_in n (with_name n ns) ≡ true
put_self n [] = rw (same_self n) refl
put_self n (m ∷ ms) = placed_self (order m n) n m ms (with_name n ms) refl (put_self n ms)

-- ---- places

behind_at : (n : Bytes) (ms : List Bytes) (i : ℕ) → AllBehind n ms → i < length ms → order n (get_or ms i []) ≡ Less
behind_at n [] i h lt = absurd (omega (arith, lt))
behind_at n (m ∷ ms) zero h lt = h.0
behind_at n (m ∷ ms) (suc i) h lt = behind_at n ms i h.1 (omega (arith, lt))

pub place_at : (ns : List Bytes) (i : ℕ) → AreInOrder ns → i < length ns → place (get_or ns i []) ns ≡ i
unfolding IsStrictlySortedBy
place_at [] i up lt = absurd (omega (arith, lt))
place_at (n ∷ ns) zero up lt = ap (λ (b : Bool). cond b 0 (suc (place n ns))) (same_self n)
place_at (n ∷ ns) (suc i) up lt =
    let less : order n (get_or ns i []) ≡ Less = behind_at n ns i up.0 (omega (arith, lt)) in
    let other : same (get_or ns i []) n ≡ false = texts_ties (get_or ns i []) n ∙ ap is_eq (turned (get_or ns i []) n ∙ ap ordering_reverse less) in
    ap (λ (b : Bool). cond b 0 (suc (place (get_or ns i []) ns))) other ∙ ap suc (place_at ns i up.1 (omega (arith, lt)))

abbrev IsPlace : Bytes → List Bytes → ℕ → Type 0
IsPlace s ns i = (i < length ns) × (get_or ns i [] ≡ s)

placed_by : (b : Bool) (s n : Bytes) (ns : List Bytes) → same s n ≡ b → (is_in s ns ≡ true → IsPlace s ns (place s ns)) → (b || is_in s ns) ≡ true → IsPlace s (n ∷ ns) (cond b 0 (suc (place s ns)))
placed_by true s n ns e h k = (omega arith, sym (same_is s n e))
placed_by false s n ns e h k = let p = h k in (omega (arith, p.0), p.1)

pub place_in : (s : Bytes) (ns : List Bytes) → is_in s ns ≡ true → (place s ns < length ns) × (get_or ns (place s ns) [] ≡ s)
place_in s [] e = absurd cc
place_in s (n ∷ ns) e = placed_by (same s n) s n ns refl (place_in s ns) e

-- ---- the names of entries

-- an attempt's or a receipt's name is in the list
abbrev pub Known : List Bytes → Act → Type 0
Known ns (Attempt s k) = is_in s ns ≡ true
Known ns (Receipt s n) = is_in s ns ≡ true
Known ns _ = Unit {0}

pub known_in_more : (ns ms : List Bytes) → ((s : Bytes) → is_in s ns ≡ true → is_in s ms ≡ true) → (a : Act) → Known ns a → Known ms a
known_in_more ns ms f (Attempt s k) h = f s h
known_in_more ns ms f (Receipt s n) h = f s h
known_in_more ns ms f _ h = tt

acts_keep : (a : Act) (ns : List Bytes) (s : Bytes) → is_in s ns ≡ true → is_in s (with_names_of a ns) ≡ true
acts_keep (Attempt n k) ns s h = put_keeps s n ns h
acts_keep (Receipt n k) ns s h = put_keeps s n ns h
acts_keep _ ns s h = h

known_self : (a : Act) (ns : List Bytes) → Known (with_names_of a ns) a
known_self (Attempt n k) ns = put_self n ns
known_self (Receipt n k) ns = put_self n ns
known_self _ ns = tt

names_keep : (es : List Entry) (ns : List Bytes) (s : Bytes) → is_in s ns ≡ true → is_in s (names_from ns es) ≡ true
names_keep [] ns s h = h
names_keep (e ∷ es) ns s h = names_keep es (with_names_of e.act ns) s (acts_keep e.act ns s h)

abbrev pub AllKnown : List Bytes → List Entry → Type 0
AllKnown ns [] = Unit {0}
AllKnown ns (e ∷ es) = Known ns e.act × AllKnown ns es

pub all_known : (es : List Entry) (ns : List Bytes) → AllKnown (names_from ns es) es
all_known [] ns = tt
all_known (e ∷ es) ns = (known_in_more (with_names_of e.act ns) (names_from (with_names_of e.act ns) es) (names_keep es (with_names_of e.act ns)) e.act (known_self e.act ns), all_known es (with_names_of e.act ns))

-- names, in byte order, and none twice
pub record Listed (ns : List Bytes) : Type 0 where
  pub named : AllByRecursion IsName ns
  pub up : AreInOrder ns

act_listed : (a : Act) (ns : List Bytes) → IsFormedAct a → Listed ns → Listed (with_names_of a ns)
act_listed (Attempt n k) ns f h = record { named = put_named n ns f.0 h.named; up = put_ascends n ns h.up }
act_listed (Receipt n k) ns f h = record { named = put_named n ns f.0 h.named; up = put_ascends n ns h.up }
act_listed Advance ns f h = h
act_listed Halt ns f h = h
act_listed (Ingest _ _) ns f h = h
act_listed (Request _ _ _) ns f h = h

abbrev pub AllFormed : List Entry → Type 0
AllFormed [] = Unit {0}
AllFormed (e ∷ es) = IsFormedAct e.act × AllFormed es

pub names_listed : (es : List Entry) (ns : List Bytes) → AllFormed es → Listed ns → Listed (names_from ns es)
names_listed [] ns f h = h
names_listed (e ∷ es) ns f h = names_listed es (with_names_of e.act ns) f.1 (act_listed e.act ns f.0 h)

-- ---- where a search puts a name

sorted_by : (ns : List Bytes) → AreInOrder ns → IsSortedBy (λ a b. is_lt (order a b)) ns
unfolding IsStrictlySortedBy
sorted_by [] up k d low lt = absurd (omega (arith, lt))
sorted_by (n ∷ []) up k d low lt = absurd (omega (arith, lt))
sorted_by (n ∷ m ∷ ms) up zero d low lt = rw (turned m n, up.0.0) refl
sorted_by (n ∷ m ∷ ms) up (suc k) d low lt = let e : suc k + 1 ≡ suc (k + 1) = omega arith in rw e (sorted_by (m ∷ ms) up.1 k d (omega arith) (omega (arith, lt)))

pub searchable : (ns : List Bytes) (n : Bytes) → AreInOrder ns → IsNonDecreasingBy (λ m. ordering_index (slice_cmp nat_cmp m n)) ns
searchable ns n up = searchable_from_sorted nat_list_cmp_total (λ m. m) ns n (sorted_by ns up)

pub put_at : (n : Bytes) (ns : List Bytes) (i : ℕ) → i ≤ length ns → AllWithin (λ m. slice_cmp nat_cmp m n ≡ Less) ns 0 i → AllWithin (λ m. slice_cmp nat_cmp m n ≡ Greater) ns i (length ns) → insert ns i n ≡ with_name n ns
put_at n [] zero le below above = refl
put_at n [] (suc i) le below above = absurd (omega (arith, le))
put_at n (m ∷ ms) zero le below above = ap (λ (o : Ordering). placed o n m ms (with_name n ms)) (sym (above 0 [] (omega arith) (omega arith)))
put_at n (m ∷ ms) (suc i) le below above =
    ap (λ z. m ∷ z) (put_at n ms i (omega (arith, le)) (λ k d low high. below (suc k) d (omega arith) (omega (arith, high))) (λ k d low high. above (suc k) d (omega (arith, low)) (omega (arith, high))))
    ∙ ap (λ (o : Ordering). placed o n m ms (with_name n ms)) (sym (below 0 [] (omega arith) (omega arith)))

pub put_same : (n : Bytes) (ns : List Bytes) (i : ℕ) → AreInOrder ns → i < length ns → slice_cmp nat_cmp (get_or ns i []) n ≡ Equal → ns ≡ with_name n ns
unfolding IsStrictlySortedBy
put_same n [] i up lt e = absurd (omega (arith, lt))
put_same n (m ∷ ms) zero up lt e = ap (λ (o : Ordering). placed o n m ms (with_name n ms)) (sym e)
put_same n (m ∷ ms) (suc i) up lt e =
    let is : get_or ms i [] ≡ n = same_is (get_or ms i []) n (texts_ties (get_or ms i []) n ∙ ap is_eq e) in
    let less : order m n ≡ Less = ap (order m) (sym is) ∙ behind_at m ms i up.0 (omega (arith, lt)) in
    ap (λ z. m ∷ z) (put_same n ms i up.1 (omega (arith, lt)) e) ∙ ap (λ (o : Ordering). placed o n m ms (with_name n ms)) (sym less)

less_apart : (n m : Bytes) (o : Ordering) → slice_cmp nat_cmp m n ≡ o → is_eq (ordering_reverse o) ≡ false → same n m ≡ false
less_apart n m o e h = texts_ties n m ∙ ap is_eq (turned n m ∙ ap ordering_reverse e) ∙ h

place_apart : (n : Bytes) (ns : List Bytes) → ((k : ℕ) → k < length ns → same n (get_or ns k []) ≡ false) → place n ns ≡ length ns
place_apart n [] h = refl
place_apart n (m ∷ ms) h = ap (λ (b : Bool). cond b 0 (suc (place n ms))) (h 0 (omega arith)) ∙ ap suc (place_apart n ms (λ k lt. h (suc k) (omega (arith, lt))))

-- a name that is not there has no place below the length
pub place_none : (n : Bytes) (ns : List Bytes) (i : ℕ) → AllWithin (λ m. slice_cmp nat_cmp m n ≡ Less) ns 0 i → AllWithin (λ m. slice_cmp nat_cmp m n ≡ Greater) ns i (length ns) → place n ns ≡ length ns
place_none n ns i below above =
    place_apart n ns
    (λ k lt. elim (cases_lt k i) [
      | inl low ↦ less_apart n (get_or ns k []) Less (below k [] (omega arith) low) refl
      | inr high ↦ less_apart n (get_or ns k []) Greater (above k [] high lt) refl
    ])

pub place_found : (n : Bytes) (ns : List Bytes) (i : ℕ) → AreInOrder ns → i < length ns → slice_cmp nat_cmp (get_or ns i []) n ≡ Equal → place n ns ≡ i
place_found n ns i up lt e =
    let is : get_or ns i [] ≡ n = same_is (get_or ns i []) n (texts_ties (get_or ns i []) n ∙ ap is_eq e) in
    ap (λ z. place z ns) (sym is) ∙ place_at ns i up lt

-- ---- one entry after the other

pub acts_ascend : (a : Act) (ns : List Bytes) → AreInOrder ns → AreInOrder (with_names_of a ns)
acts_ascend (Attempt n k) ns up = put_ascends n ns up
acts_ascend (Receipt n k) ns up = put_ascends n ns up
acts_ascend _ ns up = up

pub names_step : (es : List Entry) (i : ℕ) (e : Entry) (ns : List Bytes) → i < length es → e ≡ get_or es i e → names_from ns (drop i es) ≡ names_from (with_names_of e.act ns) (drop (i + 1) es)
names_step es i e ns lt is =
    let d : drop i es ≡ e ∷ drop (i + 1) es = rw add-one (drop-cons es i e lt) ∙ ap (λ (z : Entry). z ∷ drop (i + 1) es) (sym is) in
    ap (names_from ns) d

pub names_end : (es : List Entry) (i : ℕ) (ns : List Bytes) → length es ≤ i → names_from ns (drop i es) ≡ ns
names_end es i ns le = ap (names_from ns) (drop_of_length-le es le)

-- Names in byte order, each but once, and those behind one of them.
use Rattle.std.proofs.Common.{◌≡◌, suc, ◌+◌, Bool, true, false, ◌||◌, cond, Some, None, List, [], ◌∷◌, ◌++◌, length, refl, sym, ap, ◌∙◌, arith}
use Rattle.std.proofs.lemmas.Bool.{false≢true}
use Rattle.std.specs.List.{filter}
use Rattle.std.specs.Ordering.{nat_cmp, ordering_reverse, is_le, is_eq}
use Rattle.std.specs.declared.cmp.Ordering.{Ordering}
use Rattle.std.specs.declared.cmp.Ordering.TheVariants.{Less, Equal, Greater}
use Rattle.std.specs.Cmp.Lexicographic.{slice_cmp, nat_list_cmp_total, texts_ties}
use Rattle.news_types.specs.Names.{Bytes, same, is_in}
use Rattle.news_types.specs.Answers.{put_name, in_order}
use Rattle.news_types.proofs.Members.{same_self}
use Rattle.desk_views.specs.Things.{is_behind}

abbrev order : Bytes → Bytes → Ordering
order = slice_cmp nat_cmp

-- none of the names stands twice
abbrev pub AreApart : List Bytes → Type 0
AreApart [] = Unit {0}
AreApart (s ∷ names) = (is_in s names ≡ false) × AreApart names

-- each of them comes behind that one
abbrev AreBehind : Bytes → List Bytes → Type 0
AreBehind s [] = Unit {0}
AreBehind s (t ∷ names) = (order s t ≡ Less) × AreBehind s names

-- each comes behind those before it
abbrev pub Rise : List Bytes → Type 0
Rise [] = Unit {0}
Rise (s ∷ names) = AreBehind s names × Rise names

-- ---- a name at its place

behind_more : (s t : Bytes) (names : List Bytes) → order s t ≡ Less → AreBehind t names → AreBehind s names
behind_more s t [] less all = tt
behind_more s t (u ∷ names) less all = (nat_list_cmp_total.trans s t u less all.0, behind_more s t names less all.1)

behind_put : (t s : Bytes) (names : List Bytes) → order t s ≡ Less → AreBehind t names → AreBehind t (put_name s names)
behind_put t s [] less all = (less, tt)
behind_put t s (u ∷ names) less all = elim (is_le (order s u)) as (λ b. AreBehind t (cond b (s ∷ u ∷ names) (u ∷ put_name s names))) [
  | true ↦ (less, all)
  | false ↦ (all.0, behind_put t s names less all.1)
]

or_right : (a b : Bool) → (a || b) ≡ false → b ≡ false
or_right true b is = absurd (false≢true (sym is))
or_right false b is = is

or_left : (a b : Bool) → (a || b) ≡ false → a ≡ false
or_left true b is = absurd (false≢true (sym is))
or_left false b is = refl

put_rises : (s : Bytes) (names : List Bytes) → is_in s names ≡ false → Rise names → Rise (put_name s names)
put_rises s [] new up = (tt, tt)
put_rises s (t ∷ names) new up = elim (order s t) as (λ o. order s t ≡ o → Rise (cond (is_le o) (s ∷ t ∷ names) (t ∷ put_name s names))) [
  | Less ↦ λ less. ((less, behind_more s t names less up.0), up)
  | Equal ↦ λ tie. absurd (false≢true (sym (or_left (same s t) (is_in s names) new) ∙ texts_ties s t ∙ ap is_eq tie))
  | Greater ↦ λ over.
      let less : order t s ≡ Less = nat_list_cmp_total.antisymm t s ∙ ap ordering_reverse over in
      (behind_put t s names less up.0, put_rises s names (or_right (same s t) (is_in s names) new) up.1)
] refl

-- ---- all of them

or_swap : (a b c : Bool) → (a || (b || c)) ≡ (b || (a || c))
or_swap true true c = refl
or_swap true false c = refl
or_swap false b c = refl

in_put : (s t : Bytes) (names : List Bytes) → is_in s (put_name t names) ≡ (same s t || is_in s names)
in_put s t [] = refl
in_put s t (u ∷ names) =
    elim (is_le (order t u)) as (λ b. is_in s (cond b (t ∷ u ∷ names) (u ∷ put_name t names)) ≡ (same s t || (same s u || is_in s names))) [
      | true ↦ refl
      | false ↦ ap (λ b. same s u || b) (in_put s t names) ∙ or_swap (same s u) (same s t) (is_in s names)
    ]

in_order_in : (s : Bytes) (names : List Bytes) → is_in s (in_order names) ≡ is_in s names
in_order_in s [] = refl
in_order_in s (t ∷ names) = in_put s t (in_order names) ∙ ap (λ b. same s t || b) (in_order_in s names)

pub rises : (names : List Bytes) → AreApart names → Rise (in_order names)
rises [] apart = tt
rises (s ∷ names) apart = put_rises s (in_order names) (in_order_in s names ∙ apart.0) (rises names apart.1)

put_length : (s : Bytes) (names : List Bytes) → length (put_name s names) ≡ 1 + length names
put_length s [] = refl
put_length s (t ∷ names) = by (is_le (order s t)) (put_length s names)
  where
    by : (b : Bool) → length (put_name s names) ≡ 1 + length names → length (cond b (s ∷ t ∷ names) (t ∷ put_name s names)) ≡ 1 + suc (length names)
    by true rest = omega arith
    by false rest = omega (arith, rest)

pub order_length : (names : List Bytes) → length (in_order names) ≡ length names
order_length [] = refl
order_length (s ∷ names) = omega (arith, put_length s (in_order names), order_length names)

-- ---- those behind one of them

pub all_behind : (names : List Bytes) → filter (is_behind None) names ≡ names
all_behind [] = refl
all_behind (t ∷ names) = ap (λ ns. t ∷ ns) (all_behind names)

kept_behind : (s : Bytes) (names : List Bytes) → AreBehind s names → filter (is_behind (Some s)) names ≡ names
kept_behind s [] all = refl
kept_behind s (t ∷ names) all =
    let later : order t s ≡ Greater = nat_list_cmp_total.antisymm t s ∙ ap ordering_reverse all.0 in
    rw later (ap (λ ns. t ∷ ns) (kept_behind s names all.1))

eq_is : (o : Ordering) → is_eq o ≡ true → o ≡ Equal
eq_is Less is = absurd (false≢true is)
eq_is Equal is = refl
eq_is Greater is = absurd (false≢true is)

in_the_middle : (t : Bytes) (front : List Bytes) (s : Bytes) (names : List Bytes) → AreBehind t (front ++ s ∷ names) → order t s ≡ Less
in_the_middle t [] s names all = all.0
in_the_middle t (u ∷ front) s names all = in_the_middle t front s names all.1

pub those_behind : (front : List Bytes) (s : Bytes) (names : List Bytes) → Rise (front ++ s ∷ names) → filter (is_behind (Some s)) (front ++ s ∷ names) ≡ names
those_behind [] s names up =
    let tie : order s s ≡ Equal = eq_is (order s s) (sym (texts_ties s s) ∙ same_self s) in
    rw tie (kept_behind s names up.0)
those_behind (t ∷ front) s names up =
    let less : order t s ≡ Less = in_the_middle t front s names up.0 in
    rw less (those_behind front s names up.1)

-- Names in byte order, and where a search finds the place of one.
use Rattle.std.proofs.Common.{◌≡◌, ℕ, zero, suc, ◌<◌, ◌≤◌, min, Bool, true, false, not, cond, List, [], ◌∷◌, length, get_or, take, drop, Some, None, refl, sym, ap, ◌∙◌, arith}
use Rattle.std.specs.List.{insert, filter, AllWithin}
use Rattle.std.specs.List.Sorted.{IsPartitionedBy}
use Rattle.std.specs.Ordering.{nat_cmp, ordering_reverse, is_le, is_lt}
use Rattle.std.specs.declared.cmp.Ordering.{Ordering}
use Rattle.std.specs.declared.cmp.Ordering.TheVariants.{Less, Equal, Greater}
use Rattle.std.specs.Cmp.Lexicographic.{slice_cmp, nat_list_cmp_total, texts_ties}
use Rattle.std.specs.Ordering.{is_eq}
use Rattle.news_types.proofs.Members.{same_is}
use Rattle.news_types.specs.Names.{Bytes}
use Rattle.news_types.specs.Answers.{put_name, in_order}
use Rattle.desk_views.specs.Things.{is_behind}

abbrev pub order : Bytes → Bytes → Ordering
order = slice_cmp nat_cmp

-- the first is no later than the second
abbrev pub upto : Bytes → Bytes → Bool
upto a b = is_le (order a b)

-- the first is earlier
abbrev pub before : Bytes → Bytes → Bool
before a b = is_lt (order a b)

turned : (o : Ordering) → is_le (ordering_reverse o) ≡ not (is_lt o)
turned Less = refl
turned Equal = refl
turned Greater = refl

-- no later one way is not earlier the other way
upto_is : (a b : Bytes) → upto a b ≡ not (before b a)
upto_is a b = ap is_le (nat_list_cmp_total.antisymm a b) ∙ turned (order b a)

equal_is : (a b : Bytes) → order a b ≡ Equal → a ≡ b
equal_is a b is = same_is a b (texts_ties a b ∙ ap is_eq is)

-- ---- the order of three

upto_through : (a b c : Bytes) → upto a b ≡ true → upto b c ≡ true → upto a c ≡ true
upto_through a b c one two = elim (order a b) as (λ o. order a b ≡ o → upto a c ≡ true) [
  | Less ↦ λ less. elim (order b c) as (λ o. order b c ≡ o → upto a c ≡ true) [
    | Less ↦ λ more. ap is_le (nat_list_cmp_total.trans a b c less more)
    | Equal ↦ λ tie. rw (← equal_is b c tie) one
    | Greater ↦ λ over. let no : false ≡ true = sym (ap is_le over) ∙ two in cc
  ] refl
  | Equal ↦ λ tie. rw (equal_is a b tie) two
  | Greater ↦ λ over. let no : false ≡ true = sym (ap is_le over) ∙ one in cc
] refl

below_before : (a b c : Bytes) → upto a b ≡ true → before b c ≡ true → before a c ≡ true
below_before a b c one two = elim (order a b) as (λ o. order a b ≡ o → before a c ≡ true) [
  | Less ↦ λ less. elim (order b c) as (λ o. order b c ≡ o → before a c ≡ true) [
    | Less ↦ λ more. ap is_lt (nat_list_cmp_total.trans a b c less more)
    | Equal ↦ λ tie. let no : false ≡ true = sym (ap is_lt tie) ∙ two in cc
    | Greater ↦ λ over. let no : false ≡ true = sym (ap is_lt over) ∙ two in cc
  ] refl
  | Equal ↦ λ tie. rw (equal_is a b tie) two
  | Greater ↦ λ over. let no : false ≡ true = sym (ap is_le over) ∙ one in cc
] refl

-- ---- names that rise

-- none of them is earlier than that one
abbrev pub AreAbove : Bytes → List Bytes → Type 0
AreAbove s [] = Unit {0}
AreAbove s (t ∷ names) = (upto s t ≡ true) × AreAbove s names

abbrev pub Rise : List Bytes → Type 0
Rise [] = Unit {0}
Rise (s ∷ names) = AreAbove s names × Rise names

above_more : (s t : Bytes) (names : List Bytes) → upto s t ≡ true → AreAbove t names → AreAbove s names
above_more s t [] le all = tt
above_more s t (u ∷ names) le all = (upto_through s t u le all.0, above_more s t names le all.1)

above_put : (s t : Bytes) (names : List Bytes) → upto s t ≡ true → AreAbove s names → AreAbove s (put_name t names)
above_put s t [] le all = (le, tt)
above_put s t (u ∷ names) le all = elim (upto t u) as (λ b. AreAbove s (cond b (t ∷ u ∷ names) (u ∷ put_name t names))) [
  | true ↦ (le, all)
  | false ↦ (all.0, above_put s t names le all.1)
]

over : (s t : Bytes) → upto s t ≡ false → upto t s ≡ true
over s t is = elim (order t s) as (λ o. order t s ≡ o → upto t s ≡ true) [
  | Less ↦ λ e. ap is_le e
  | Equal ↦ λ e. ap is_le e
  | Greater ↦ λ e. let no : true ≡ false = sym (upto_is s t ∙ ap (λ o. not (is_lt o)) e) ∙ is in cc
] refl

put_rises : (s : Bytes) (names : List Bytes) → Rise names → Rise (put_name s names)
put_rises s [] up = (tt, tt)
put_rises s (t ∷ names) up = elim (upto s t) as (λ b. upto s t ≡ b → Rise (cond b (s ∷ t ∷ names) (t ∷ put_name s names))) [
  | true ↦ λ le. ((le, above_more s t names le up.0), up)
  | false ↦ λ gt. (above_put t s names (over s t gt) up.0, put_rises s names up.1)
] refl

pub rises : (names : List Bytes) → Rise (in_order names)
rises [] = tt
rises (s ∷ names) = put_rises s (in_order names) (rises names)

above_at : (s : Bytes) (names : List Bytes) (i : ℕ) (d : Bytes) → AreAbove s names → i < length names → upto s (get_or names i d) ≡ true
above_at s [] i d all lt = absurd (omega arith)
above_at s (t ∷ names) zero d all lt = all.0
above_at s (t ∷ names) (suc i) d all lt = above_at s names i d all.1 (omega arith)

reflexive : (a : Bytes) → upto a a ≡ true
reflexive a = elim (order a a) as (λ o. order a a ≡ o → upto a a ≡ true) [
  | Less ↦ λ e. ap is_le e
  | Equal ↦ λ e. ap is_le e
  | Greater ↦ λ e. let no : false ≡ true = sym (ap is_le e) ∙ (upto_is a a ∙ ap (λ o. not (is_lt o)) e) in cc
] refl

pub rises_at : (names : List Bytes) (i j : ℕ) (d : Bytes) → Rise names → i ≤ j → j < length names → upto (get_or names i d) (get_or names j d) ≡ true
rises_at [] i j d up le lt = absurd (omega arith)
rises_at (s ∷ names) zero zero d up le lt = reflexive s
rises_at (s ∷ names) zero (suc j) d up le lt = above_at s names j d up.0 (omega arith)
rises_at (s ∷ names) (suc i) zero d up le lt = absurd (omega arith)
rises_at (s ∷ names) (suc i) (suc j) d up le lt = rises_at names i j d up.1 (omega arith) (omega arith)

pub parted_before : (names : List Bytes) (s : Bytes) → Rise names → IsPartitionedBy (λ t. before t s) names
parted_before names s up i j d le lt is = below_before (get_or names i d) (get_or names j d) s (rises_at names i j d up le lt) is

pub parted_upto : (names : List Bytes) (s : Bytes) → Rise names → IsPartitionedBy (λ t. upto t s) names
parted_upto names s up i j d le lt is = upto_through (get_or names i d) (get_or names j d) s (rises_at names i j d up le lt) is

-- ---- a name at its place

pub put_at : (s : Bytes) (names : List Bytes) (i : ℕ) → i ≤ length names → AllWithin (λ t. before t s ≡ true) names 0 i → AllWithin (λ t. before t s ≡ false) names i (length names)
    → insert names i s ≡ put_name s names
put_at s [] zero le below above = refl
put_at s [] (suc i) le below above = refl
put_at s (t ∷ names) zero le below above =
    let first : upto s t ≡ true = upto_is s t ∙ ap not (above 0 [] (omega arith) (omega arith)) in
    rw first refl
put_at s (t ∷ names) (suc i) le below above =
    let first : upto s t ≡ false = upto_is s t ∙ ap not (below 0 [] (omega arith) (omega arith)) in
    let rest : insert names i s ≡ put_name s names = put_at s names i (omega arith) (λ k d low high. below (suc k) d (omega arith) (omega arith)) (λ k d low high. above (suc k) d (omega arith) (omega arith)) in
    rw first (ap (λ ns. t ∷ ns) rest)

-- ---- the names behind one

pub behind_at : (s : Bytes) (names : List Bytes) (i : ℕ) → i ≤ length names → AllWithin (λ t. upto t s ≡ true) names 0 i → AllWithin (λ t. upto t s ≡ false) names i (length names)
    → drop i names ≡ filter (is_behind (Some s)) names
behind_at s [] zero le below above = refl
behind_at s [] (suc i) le below above = absurd (omega arith)
behind_at s (t ∷ names) zero le below above =
    let first : upto t s ≡ false = above 0 [] (omega arith) (omega arith) in
    let rest : drop 0 names ≡ filter (is_behind (Some s)) names = behind_at s names zero (omega arith) (λ k d low high. absurd (omega arith)) (λ k d low high. above (suc k) d (omega arith) (omega arith)) in
    rw first (ap (λ ns. t ∷ ns) rest)
behind_at s (t ∷ names) (suc i) le below above =
    let first : upto t s ≡ true = below 0 [] (omega arith) (omega arith) in
    rw first (behind_at s names i (omega arith) (λ k d low high. below (suc k) d (omega arith) (omega arith)) (λ k d low high. above (suc k) d (omega arith) (omega arith)))

pub all_behind : (names : List Bytes) → filter (is_behind None) names ≡ names
all_behind [] = refl
all_behind (t ∷ names) = ap (λ ns. t ∷ ns) (all_behind names)

pub take_min : {A : Type 0} (xs : List A) (n : ℕ) → take (min (length xs) n) xs ≡ take n xs
take_min [] zero = refl
take_min [] (suc n) = let e : min 0 (suc n) ≡ 0 = omega arith in rw e refl
take_min (x ∷ xs) zero = let e : min (length (x ∷ xs)) 0 ≡ 0 = omega arith in rw e refl
take_min (x ∷ xs) (suc n) =
    let e : min (length (x ∷ xs)) (suc n) ≡ suc (min (length xs) n) = omega arith in
    rw e (ap (λ ys. x ∷ ys) (take_min xs n))

pub take_all : {A : Type 0} (xs : List A) (n : ℕ) → length xs ≤ n → take n xs ≡ xs
take_all [] zero le = refl
take_all [] (suc n) le = refl
take_all (x ∷ xs) zero le = absurd (omega arith)
take_all (x ∷ xs) (suc n) le = ap (λ ys. x ∷ ys) (take_all xs n (omega arith))

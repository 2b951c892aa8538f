-- Rows of a log and of its side, one by one.
use Rattle.std.proofs.Common.{Bor, ltb, ◌≡◌, ◌≢◌, inl, inr, ℕ, zero, suc, ◌+◌, ◌≤◌, ◌<◌, List, [], ◌∷◌, ◌++◌, length, get_or, take, drop, Option, Some, None, Bool, true, false, eqb, refl, sym, ◌∙◌, ap, arith}
use Rattle.std.specs.Prelude.{slice_index, slice_get}
use Rattle.std.specs.Prelude.{not}
use Rattle.std.specs.Cmp.{first_so, second_so}
use Rattle.std.specs.Cmp.Lexicographic.{pointwise}
use Rattle.std.proofs.lemmas.Bool.{eqb-true, cases_eq}
use Rattle.std.proofs.lemmas.Bool.Decides.{nat_tests}
use Rattle.news_types.specs.Names.{Bytes}
use Rattle.news_io.specs.declared.record.Record.{Record}
use Rattle.news_journal.specs.Opened.{payloads}
use Rattle.news_pair.specs.Segments.{segment_in}
use Rattle.news_pair.specs.Pair.{AreSegments, packed_by}
use Rattle.std.specs.Option.{option_or, option_map, option_copied}
use Rattle.std.specs.Prelude.{cond, nat_le, ◌&&◌, is_some, unwrap_or}
use Rattle.news_types.specs.Names.{same}
use Rattle.news_types.proofs.Members.{same_self}
use Rattle.news_journal.specs.Opened.{places}
use Rattle.news_pair.specs.Damage.{Framed, Place, difference, meets, apart, differs, on_log, meeting_damage}
use Rattle.news_pair.specs.declared.fault.PairFault.TheVariants.{Damaged}
use Rattle.news_pair.proofs.Packed.{are_push, packed_more}

-- ---- two lists of bytes

pub drop_first : (place : ℕ) (xs : List ℕ) → place < length xs → drop place xs ≡ slice_index xs place ∷ drop (place + 1) xs
drop_first zero [] less = absurd (omega arith)
drop_first zero (x ∷ xs) less = refl
drop_first (suc n) [] less = absurd (omega arith)
drop_first (suc n) (x ∷ xs) less = drop_first n xs (omega arith) ∙ ap (λ (k : ℕ). slice_index xs n ∷ drop k (x ∷ xs)) (omega_suc n)
  where
    omega_suc : (n : ℕ) → suc (n + 1) ≡ suc n + 1
    omega_suc n = omega arith

drop_none : (place : ℕ) (xs : List ℕ) → length xs ≤ place → drop place xs ≡ []
drop_none zero [] le = refl
drop_none zero (x ∷ xs) le = absurd (omega arith)
drop_none (suc n) [] le = refl
drop_none (suc n) (x ∷ xs) le = drop_none n xs (omega arith)

difference_missing : (place x : ℕ) (xs : List ℕ) → difference place (x ∷ xs) [] ≡ Some (place, None)
unfolding difference
difference_missing place x xs = refl

pub difference_same : (place x b : ℕ) (xs bytes : List ℕ) → b ≡ x → difference place (x ∷ xs) (b ∷ bytes) ≡ difference (place + 1) xs bytes
unfolding difference
difference_same place x b xs bytes same = let t : eqb x b ≡ true = grind (arith, nat_tests) in rw t refl

difference_other : (place x b : ℕ) (xs bytes : List ℕ) → b ≢ x → difference place (x ∷ xs) (b ∷ bytes) ≡ Some (place, Some b)
unfolding difference
difference_other place x b xs bytes other = let t : eqb x b ≡ false = grind (arith, nat_tests) in rw t refl

pub difference_ends : (place : ℕ) (bytes : List ℕ) → difference place [] bytes ≡ None
unfolding difference
difference_ends place bytes = refl

module _ (place : ℕ) (wanted bytes : List ℕ) where
  pub missing_at : place < length wanted → length bytes ≤ place → difference place (drop place wanted) (drop place bytes) ≡ Some (place, None)
  missing_at less short = ap (λ (l : List ℕ). difference place l (drop place bytes)) (drop_first place wanted less) ∙ ap (difference place (slice_index wanted place ∷ drop (place + 1) wanted)) (drop_none place bytes short) ∙ difference_missing place (slice_index wanted place) (drop (place + 1) wanted)

  pub other_at : place < length wanted → place < length bytes → slice_index bytes place ≢ slice_index wanted place → difference place (drop place wanted) (drop place bytes) ≡ Some (place, Some (slice_index bytes place))
  other_at less enough other = ap (λ (l : List ℕ). difference place l (drop place bytes)) (drop_first place wanted less) ∙ ap (difference place (slice_index wanted place ∷ drop (place + 1) wanted)) (drop_first place bytes enough) ∙ difference_other place (slice_index wanted place) (slice_index bytes place) (drop (place + 1) wanted) (drop (place + 1) bytes) other

  pub same_at : place < length wanted → place < length bytes → slice_index bytes place ≡ slice_index wanted place → difference place (drop place wanted) (drop place bytes) ≡ difference (place + 1) (drop (place + 1) wanted) (drop (place + 1) bytes)
  same_at less enough same = ap (λ (l : List ℕ). difference place l (drop place bytes)) (drop_first place wanted less) ∙ ap (difference place (slice_index wanted place ∷ drop (place + 1) wanted)) (drop_first place bytes enough) ∙ difference_same place (slice_index wanted place) (slice_index bytes place) (drop (place + 1) wanted) (drop (place + 1) bytes) same

  pub ended_at : length wanted ≤ place → difference place (drop place wanted) (drop place bytes) ≡ None
  ended_at over = ap (λ (l : List ℕ). difference place l (drop place bytes)) (drop_none place wanted over) ∙ difference_ends place (drop place bytes)

difference_nil : (place x : ℕ) (xs : List ℕ) → difference place (x ∷ xs) [] ≡ None → ⊥
difference_nil place x xs none = absurd (cc (difference_missing place x xs, none))

first_same : (place x b : ℕ) (xs bytes : List ℕ) → difference place (x ∷ xs) (b ∷ bytes) ≡ None → b ≡ x
first_same place x b xs bytes none = by_test (eqb b x) refl
  where
    by_test : (t : Bool) → eqb b x ≡ t → b ≡ x
    by_test true t = grind (arith, nat_tests)
    by_test false t = let other : b ≢ x = grind (arith, nat_tests) in absurd (cc (difference_other place x b xs bytes other, none))

-- no difference: the bytes begin with those that are wanted
pub no_difference : (place : ℕ) (wanted bytes : List ℕ) → difference place wanted bytes ≡ None → take (length wanted) bytes ≡ wanted
no_difference place [] bytes none = refl
no_difference place (x ∷ xs) [] none = absurd (difference_nil place x xs none)
no_difference place (x ∷ xs) (b ∷ bytes) none =
    let same = first_same place x b xs bytes none in
    let rest = no_difference (place + 1) xs bytes (sym (difference_same place x b xs bytes same) ∙ none) in
    (λ i. same i ∷ rest i)

pub difference_front : (place n : ℕ) (wanted bytes : List ℕ) → length wanted ≤ n → difference place wanted (take n bytes) ≡ difference place wanted bytes
difference_front place n [] bytes few = difference_ends place (take n bytes) ∙ sym (difference_ends place bytes)
difference_front place zero (x ∷ xs) bytes few = absurd (omega arith)
difference_front place (suc n) (x ∷ xs) [] few = refl
difference_front place (suc n) (x ∷ xs) (b ∷ bytes) few = elim (cases_eq b x) [
  | inl same ↦ difference_same place x b xs (take n bytes) same ∙ difference_front (place + 1) n xs bytes (omega arith) ∙ sym (difference_same place x b xs bytes same)
  | inr other ↦ difference_other place x b xs (take n bytes) other ∙ sym (difference_other place x b xs bytes other)
]

-- ---- records

pub payload_at : (rs : List Record) (i : ℕ) (d : Record) → i < length rs → get_or (payloads rs) i [] ≡ (get_or rs i d).bytes
payload_at [] i d less = absurd (omega arith)
payload_at (r ∷ rs) zero d less = refl
payload_at (r ∷ rs) (suc i) d less = payload_at rs i d (omega arith)

pub length-payloads : (rs : List Record) → length (payloads rs) ≡ length rs
length-payloads [] = refl
length-payloads (r ∷ rs) = ap suc (length-payloads rs)

pub payloads_more : (rs : List Record) (r : Record) → payloads (rs ++ r ∷ []) ≡ payloads rs ++ r.bytes ∷ []
payloads_more [] r = refl
payloads_more (q ∷ rs) r = ap (λ (l : List Bytes). q.bytes ∷ l) (payloads_more rs r)

pub take_one_more : (rs : List Record) (i : ℕ) (d : Record) → i < length rs → take (i + 1) rs ≡ take i rs ++ get_or rs i d ∷ []
take_one_more [] i d less = absurd (omega arith)
take_one_more (r ∷ rs) zero d less = refl
take_one_more (r ∷ rs) (suc i) d less = ap (λ (k : ℕ). take k (r ∷ rs)) (omega_suc i) ∙ ap (λ (l : List Record). r ∷ l) (take_one_more rs i d (omega arith))
  where
    omega_suc : (n : ℕ) → suc n + 1 ≡ suc (n + 1)
    omega_suc n = omega arith

pub payloads_one_more : (rs : List Record) (i : ℕ) (r : Record) → i < length rs → r ≡ get_or rs i r → payloads (take (i + 1) rs) ≡ payloads (take i rs) ++ r.bytes ∷ []
payloads_one_more rs i r less is = ap (λ (l : List Record). payloads l) (take_one_more rs i r less ∙ ap (λ (x : Record). take i rs ++ x ∷ []) (sym is)) ∙ payloads_more (take i rs) r

-- two lists that begin alike, and one more
pub alike_more : (n : ℕ) (xs ys : List Bytes) → take n xs ≡ take n ys → n < length xs → n < length ys → get_or xs n [] ≡ get_or ys n [] → take (n + 1) xs ≡ take (n + 1) ys
alike_more n [] ys same less more at = absurd (omega arith)
alike_more n (x ∷ xs) [] same less more at = absurd (omega arith)
alike_more zero (x ∷ xs) (y ∷ ys) same less more at = ap (λ (b : Bytes). b ∷ []) at
alike_more (suc n) (x ∷ xs) (y ∷ ys) same less more at =
    let first : x ≡ y = cc same in
    let rest : take n xs ≡ take n ys = cc same in
    let further = alike_more n xs ys rest (omega arith) (omega arith) at in
    let e : suc n + 1 ≡ suc (n + 1) = omega arith in
    ap (λ (k : ℕ). take k (x ∷ xs)) e ∙ (λ i. first i ∷ further i) ∙ ap (λ (k : ℕ). take k (y ∷ ys)) (sym e)

pub same_bytes : (a b : List ℕ) → pointwise eqb a b ≡ true → a ≡ b
same_bytes [] [] same = refl
same_bytes [] (y ∷ b) same = absurd (cc same)
same_bytes (x ∷ a) [] same = absurd (cc same)
same_bytes (x ∷ a) (y ∷ b) same =
    let first = eqb-true x y (first_so (eqb x y) (pointwise eqb a b) same) in
    let rest = same_bytes a b (second_so (eqb x y) (pointwise eqb a b) same) in
    (λ i. first i ∷ rest i)

pub not_other : (t : Bool) → not t ≡ false → t ≡ true
not_other true is = refl
not_other false is = absurd (cc is)

-- the entries of one segment more
pub segment_more : (ps : List Bytes) (p : Bytes) (n : ℕ) (es g : List Bytes) → segment_in p ≡ Some (n, es) → g ≡ packed_by ps → g ++ es ≡ packed_by (ps ++ p ∷ [])
segment_more ps p n es g is so_far = ap (λ (l : List Bytes). l ++ es) so_far ∙ sym (packed_more ps p n es is)

pub placed_more : (ps : List Bytes) (p : Bytes) (n : ℕ) (es g : List Bytes) → segment_in p ≡ Some (n, es) → g ≡ packed_by ps → n ≡ length g → AreSegments 0 ps → AreSegments 0 (ps ++ p ∷ [])
placed_more ps p n es g is so_far place are = are_push 0 ps p es are (is ∙ ap (λ (k : ℕ). Some (k, es)) (place ∙ ap length so_far ∙ zero_sum (length (packed_by ps))))
  where
    zero_sum : (n : ℕ) → n ≡ 0 + n
    zero_sum n = omega arith

-- ---- where a log and its side meet

differs_nil : (g : List Bytes) → differs g [] ≡ None
differs_nil [] = refl
differs_nil (x ∷ g) = refl

differs_end : (rs : List Framed) → differs [] rs ≡ None
differs_end [] = refl
differs_end (r ∷ rs) = refl

-- a log without a record
pub none_meets : (base : ℕ) (byte : Option ℕ) (g : List Bytes) (rs : List Record) → rs ≡ [] → meeting_damage base byte g (places rs) ≡ None
unfolding meeting_damage
none_meets base byte g rs none =
    ap (λ (l : List Record). option_or (on_log (apart base byte (length g) (places l))) (on_log (differs (drop base g) (places l)))) none ∙ ap on_log (differs_nil (drop base g))

meets_false : (base packed count : ℕ) → (base ≤ packed → packed ≤ base + count → ⊥) → meets base packed count ≡ false
meets_false base packed count none = by_tests (nat_le base packed) (nat_le packed (base + count)) refl refl
  where
    by_tests : (a b : Bool) → nat_le base packed ≡ a → nat_le packed (base + count) ≡ b → (nat_le base packed && nat_le packed (base + count)) ≡ false
    by_tests true true p q = absurd (none (grind (arith, nat_tests)) (grind (arith, nat_tests)))
    by_tests true false p q = rw (p, q) refl
    by_tests false b p q = rw p refl

meets_true : (base packed count : ℕ) → base ≤ packed → packed ≤ base + count → meets base packed count ≡ true
meets_true base packed count a b = let p : nat_le base packed ≡ true = grind (arith, nat_tests) in let q : nat_le packed (base + count) ≡ true = grind (arith, nat_tests) in rw (p, q) refl

length-places : (rs : List Record) → length (places rs) ≡ length rs
length-places [] = refl
length-places (r ∷ rs) = ap suc (length-places rs)

apart_by : (base : ℕ) (byte : Option ℕ) (packed : ℕ) (rs : List Framed) (b : Bool) → 0 < length rs → meets base packed (length rs) ≡ b → apart base byte packed rs ≡ cond b None (Some (10, byte))
apart_by base byte packed [] b some is = absurd (omega arith)
apart_by base byte packed (r ∷ rs) b some is = ap (λ (t : Bool). cond t None (Some (10, byte))) is

none_apart : (base : ℕ) (byte : Option ℕ) (packed : ℕ) (rs : List Framed) → meets base packed (length rs) ≡ true → apart base byte packed rs ≡ None
none_apart base byte packed [] is = refl
none_apart base byte packed (r ∷ rs) is = ap (λ (t : Bool). cond t None (Some (10, byte))) is

module _ (base : ℕ) (byte : Option ℕ) (g : List Bytes) (rs : List Record) where
  -- entries are missing, or the log ends too soon
  pub apart_meets : 0 < length rs → (base ≤ length g → length g ≤ base + length rs → ⊥) → meeting_damage base byte g (places rs) ≡ Some (Damaged 10 byte)
  unfolding meeting_damage
  apart_meets some none =
      let size = length-places rs in
      ap (λ (o : Option Place). option_or (on_log o) (on_log (differs (drop base g) (places rs))))
      (apart_by base byte (length g) (places rs) false (omega (arith, size, some)) (meets_false base (length g) (length (places rs)) (λ a b. none a (omega (arith, b, size)))))

  -- none is missing
  pub meets_by : base ≤ length g → length g ≤ base + length rs → meeting_damage base byte g (places rs) ≡ on_log (differs (drop base g) (places rs))
  unfolding meeting_damage
  meets_by a b =
      ap (λ (o : Option Place). option_or (on_log o) (on_log (differs (drop base g) (places rs))))
      (none_apart base byte (length g) (places rs) (meets_true base (length g) (length (places rs)) a (omega (arith, b, length-places rs))))

-- the first entry that differs
pub differs_at : (g : List Bytes) (rs : List Record) (k : ℕ) (r : Record) → take k (payloads rs) ≡ take k g → k < length g → k < length rs → r ≡ get_or rs k r → same (get_or g k []) r.bytes ≡ false → differs g (places rs) ≡ Some (r.at, Some 1)
differs_at [] rs k r alike more less is other = absurd (omega arith)
differs_at (x ∷ g) [] k r alike more less is other = absurd (omega arith)
differs_at (x ∷ g) (q ∷ rs) zero r alike more less is other =
    ap (λ (t : Record). cond (same x t.bytes) (differs g (places rs)) (Some (t.at, Some 1))) (sym is) ∙ ap (λ (b : Bool). cond b (differs g (places rs)) (Some (r.at, Some 1))) other
differs_at (x ∷ g) (q ∷ rs) (suc k) r alike more less is other =
    let first : q.bytes ≡ x = cc alike in
    let rest : take k (payloads rs) ≡ take k g = cc alike in
    ap (λ (b : Bool). cond b (differs g (places rs)) (Some (q.at, Some 1))) (ap (same x) first ∙ same_self x)
    ∙ differs_at g rs k r rest (omega arith) (omega arith) is other

-- all are the same
pub differs_none : (g : List Bytes) (rs : List Record) → take (length g) (payloads rs) ≡ g → differs g (places rs) ≡ None
differs_none [] rs alike = differs_end (places rs)
differs_none (x ∷ g) [] alike = refl
differs_none (x ∷ g) (q ∷ rs) alike =
    let first : q.bytes ≡ x = cc alike in
    let rest : take (length g) (payloads rs) ≡ g = cc alike in
    ap (λ (b : Bool). cond b (differs g (places rs)) (Some (q.at, Some 1))) (ap (same x) first ∙ same_self x) ∙ differs_none g rs rest

pub zero_from : (n : ℕ) (b : Bool) → b ≡ eqb n 0 → b ≡ true → n ≡ 0
zero_from n b is t = let e : eqb n 0 ≡ true = sym is ∙ t in grind (arith, nat_tests)

pub some_from : (n : ℕ) (b : Bool) → b ≡ eqb n 0 → b ≡ false → 0 < n
some_from n b is t = let e : eqb n 0 ≡ false = sym is ∙ t in grind (arith, nat_tests)

pub is_other : (t b : Bool) → t ≡ not b → t ≡ true → b ≡ false
is_other t true is on = absurd (cc (is, on))
is_other t false is on = refl

pub get_there : (l : List ℕ) (n : ℕ) → n < length l → slice_get l n ≡ Some (get_or l n 0)
get_there [] n less = absurd (omega arith)
get_there (x ∷ l) zero less = refl
get_there (x ∷ l) (suc n) less = get_there l n (omega arith)

get_none : (l : List ℕ) (n : ℕ) → length l ≤ n → slice_get l n ≡ None
get_none [] zero le = refl
get_none [] (suc n) le = refl
get_none (x ∷ l) zero le = absurd (omega arith)
get_none (x ∷ l) (suc n) le = get_none l n (omega arith)

-- what `get` and `copied` give
pub copied_is : (l : List ℕ) (n : ℕ) (r : Option (Bor ℕ)) → is_some r ≡ ltb n (length l) → ((d : ℕ) → unwrap_or (option_map (λ (x : Bor ℕ). x.now) r) d ≡ get_or l n d) → slice_get l n ≡ option_copied r
copied_is l n None there is = get_none l n (let e : ltb n (length l) ≡ false = sym there in grind (arith, nat_tests))
copied_is l n (Some x) there is =
    let less : n < length l = let e : ltb n (length l) ≡ true = sym there in grind (arith, nat_tests) in
    get_there l n less ∙ ap (λ (b : ℕ). Some b) (sym (is 0))

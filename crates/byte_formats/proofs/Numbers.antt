-- The promise of the numbers.
use Rattle.std.proofs.Common.{◌≡◌, ℕ, zero, suc, ◌<◌, ◌≤◌, ◌+◌, ◌*◌, ◌^◌, List, [], ◌∷◌, length, get_or, Option, Some, None, Result, Ok, Err, refl, sym, ap, subst, ◌∙◌, arith, inl, inr}
use Rattle.std.specs.Int.{Width, w16, w32, w64, byte_len, from_be_bytes, to_be_bytes}
use Rattle.std.proofs.Math.Nat.{mul-le-mul_right, suc-mul}
use Rattle.std.proofs.lemmas.Bool.{cases_lt, le-ltb, lt-ltb}
use Rattle.std.proofs.lemmas.Nat.{be_bytes_2, be_bytes_4, be_bytes_8, from_be_bytes-to_be_bytes_2, from_be_bytes-to_be_bytes_4, from_be_bytes-to_be_bytes_8}
use Rattle.byte_formats.specs.Format.{◌>>=◌, whole, whole_at, upto, upto_at, scan_at, scanned, digit_step, free}
use Rattle.byte_formats.proofs.Scans.{free_scan}
use Rattle.byte_formats.proofs.Laws.{IsBytes, Lawful, via}
use Rattle.byte_formats.proofs.Fields.{IsScanned, scanned_lawful}

pub bytes_at : (bytes : List ℕ) → IsBytes bytes → (i : ℕ) → get_or bytes i 0 < 256
bytes_at [] h i = omega arith
bytes_at (b ∷ bytes) h zero = h.0
bytes_at (b ∷ bytes) h (suc i) = bytes_at bytes h.1 i

abbrev weight : ℕ → ℕ
weight zero = 1
weight (suc n) = 256 * weight n

-- the number of these digits
abbrev value : List ℕ → ℕ
value [] = 0
value (d ∷ ds) = d * weight (length ds) + value ds

value_below : (ds : List ℕ) → IsBytes ds → value ds < weight (length ds)
value_below [] h = omega arith
value_below (d ∷ ds) h =
    let v = value_below ds h.1 in
    let top = mul-le-mul_right {m = d} {n = 255} (weight (length ds)) (omega (arith, h.0)) in
    omega (arith, v, top)

value_less : (d m : ℕ) (ds ms : List ℕ) → length ds ≡ length ms → IsBytes ds → d < m → value (d ∷ ds) < value (m ∷ ms)
value_less d m ds ms e h lt =
    let v = value_below ds h in
    let top = mul-le-mul_right {m = suc d} {n = m} (weight (length ms)) (omega arith) in
    let one = suc-mul d (weight (length ms)) in
    let v' : value ds < weight (length ms) = rw e at v in
    rw e (omega (arith, v', top, one))

some_is : {A : Type 0} (x y : A) → Some x ≡ Some y → x ≡ y
some_is x y e = cc

any : (n : ℕ) (ds : List ℕ) → IsScanned digit_step n None ds → length ds ≡ n
any zero [] s = refl
any zero (d ∷ ds) s = absurd s
any (suc n) [] s = absurd s
any (suc n) (d ∷ ds) s = ap suc (any n ds (subst (λ t. IsScanned digit_step n t ds) (sym (some_is None s.0 s.1)) s.2))

from_any : (n : ℕ) (ds : List ℕ) → length ds ≡ n → IsScanned digit_step n None ds
from_any zero [] e = tt
from_any zero (d ∷ ds) e = absurd (omega arith)
from_any (suc n) [] e = absurd (omega arith)
from_any (suc n) (d ∷ ds) e = (None, refl, from_any n ds (omega arith))

step_more : (n d m : ℕ) (ms : List ℕ) → m < d → digit_step n (Some (m ∷ ms)) d ≡ None
step_more n d m ms lt = rw (lt-ltb _ _ lt) refl

step_less : (n d m : ℕ) (ms : List ℕ) → d < m → digit_step n (Some (m ∷ ms)) d ≡ Some None
step_less n d m ms lt = rw (le-ltb m d (omega arith), lt-ltb _ _ lt) refl

step_same : (n d m : ℕ) (ms : List ℕ) → d ≡ m → digit_step n (Some (m ∷ ms)) d ≡ Some (Some ms)
step_same n d m ms e = rw (le-ltb m d (omega arith), le-ltb d m (omega arith)) refl

not_none : {A : Type 0} {X : Type 0} (o : Option A) (x : A) → o ≡ None → o ≡ Some x → X
not_none o x e h = absurd cc

-- the digits are no more than the given ones just where their number is
up_to : (n : ℕ) (ms ds : List ℕ) → length ms ≡ n → IsBytes ds → IsScanned digit_step n (Some ms) ds → (length ds ≡ n) × (value ds ≤ value ms)
up_to zero ms [] e h s = (refl, omega arith)
up_to zero ms (d ∷ ds) e h s = absurd s
up_to (suc n) ms [] e h s = absurd s
up_to (suc n) [] (d ∷ ds) e h s = absurd (omega arith)
up_to (suc n) (m ∷ ms) (d ∷ ds) e h s =
    elim (cases_lt m d) [
      | inl more ↦ not_none (digit_step n (Some (m ∷ ms)) d) s.0 (step_more n d m ms more) s.1
      | inr le ↦ elim (cases_lt d m) [
        | inl less ↦
            let t = some_is None s.0 (sym (step_less n d m ms less) ∙ s.1) in
            let len = any n ds (subst (λ u. IsScanned digit_step n u ds) (sym t) s.2) in
            let v = value_less d m ds ms (omega arith) h.1 less in
            (ap suc len, omega (arith, v))
        | inr ge ↦
            let same : d ≡ m = omega arith in
            let t = some_is (Some ms) s.0 (sym (step_same n d m ms same) ∙ s.1) in
            let r = up_to n ms ds (omega arith) h.1 (subst (λ u. IsScanned digit_step n u ds) (sym t) s.2) in
            let l : length ds ≡ length ms = omega (arith, r.0) in
            (ap suc r.0, rw (same, l) (omega (arith, r.1)))
      ]
    ]

from_up_to : (n : ℕ) (ms ds : List ℕ) → length ms ≡ n → length ds ≡ n → IsBytes ms → IsBytes ds → value ds ≤ value ms → IsScanned digit_step n (Some ms) ds
from_up_to zero ms [] e l hm h v = tt
from_up_to zero ms (d ∷ ds) e l hm h v = absurd (omega arith)
from_up_to (suc n) ms [] e l hm h v = absurd (omega arith)
from_up_to (suc n) [] (d ∷ ds) e l hm h v = absurd (omega arith)
from_up_to (suc n) (m ∷ ms) (d ∷ ds) e l hm h v =
    elim (cases_lt m d) [
      | inl more ↦ absurd (let x = value_less m d ms ds (omega arith) hm.1 more in omega (arith, x))
      | inr le ↦ elim (cases_lt d m) [
        | inl less ↦ (None, step_less n d m ms less, from_any n ds (omega arith))
        | inr ge ↦
            let same : d ≡ m = omega arith in
            let k : length ds ≡ length ms = omega arith in
            let w : value ds ≤ value ms = let x : m * weight (length ms) + value ds ≤ m * weight (length ms) + value ms = rw (same, k) at v in omega (arith, x) in
            (Some ms, step_same n d m ms same, from_up_to n ms ds (omega arith) (omega arith) hm.1 h.1 w)
      ]
    ]

abbrev Bounds : ℕ → Option (List ℕ) → Type 0
Bounds n None = Unit {0}
Bounds n (Some ms) = (length ms ≡ n) × IsBytes ms

digit_keeps : (n : ℕ) (s : Option (List ℕ)) (b : ℕ) (t : Option (List ℕ)) → Bounds (suc n) s → digit_step n s b ≡ Some t → Bounds n t
digit_keeps n None b t i e = subst (Bounds n) (some_is None t e) tt
digit_keeps n (Some []) b t i e = absurd (omega (arith, i.0))
digit_keeps n (Some (m ∷ ms)) b t i e =
    elim (cases_lt m b) [
      | inl more ↦ not_none (digit_step n (Some (m ∷ ms)) b) t (step_more n b m ms more) e
      | inr le ↦ elim (cases_lt b m) [
        | inl less ↦ subst (Bounds n) (some_is None t (sym (step_less n b m ms less) ∙ e)) tt
        | inr ge ↦ subst (Bounds n) (some_is (Some ms) t (sym (step_same n b m ms (omega arith)) ∙ e)) (omega (arith, i.0), i.1.1)
      ]
    ]

digit_filler : (n : ℕ) (s : Option (List ℕ)) → Bounds (suc n) s → (b : ℕ) × (b < 256) × (t : Option (List ℕ)) × (digit_step n s b ≡ Some t)
digit_filler n None i = (0, omega arith, None, refl)
digit_filler n (Some []) i = absurd (omega (arith, i.0))
digit_filler n (Some (m ∷ ms)) i = (m, i.1.0, Some ms, step_same n m m ms refl)

read_again : (r : Result (List ℕ × List ℕ) ℕ) → r ≡ (r >>= λ x. Ok (x.0, x.1))
read_again (Ok x) = refl
read_again (Err e) = refl

-- ---- by width

pub record IsWide (w : Width) (limit : ℕ) : Type 0 where
  pub len : (n : ℕ) → length (to_be_bytes w n) ≡ byte_len w
  pub bytes : (n : ℕ) → IsBytes (to_be_bytes w n)
  pub back : (ds : List ℕ) → length ds ≡ byte_len w → IsBytes ds → to_be_bytes w (from_be_bytes w ds) ≡ ds
  pub again : (n : ℕ) → n < limit → from_be_bytes w (to_be_bytes w n) ≡ n
  pub is : (ds : List ℕ) → length ds ≡ byte_len w → from_be_bytes w ds ≡ value ds
  pub below : (ds : List ℕ) → IsBytes ds → length ds ≡ byte_len w → from_be_bytes w ds < limit

is_2 : (ds : List ℕ) → length ds ≡ 2 → from_be_bytes w16 ds ≡ value ds
is_2 (a ∷ b ∷ []) e = omega arith
is_2 [] e = absurd (omega arith)
is_2 (a ∷ []) e = absurd (omega arith)
is_2 (a ∷ b ∷ c ∷ ds) e = absurd (omega arith)

is_4 : (ds : List ℕ) → length ds ≡ 4 → from_be_bytes w32 ds ≡ value ds
is_4 (a ∷ b ∷ c ∷ d ∷ []) e = omega arith
is_4 [] e = absurd (omega arith)
is_4 (a ∷ []) e = absurd (omega arith)
is_4 (a ∷ b ∷ []) e = absurd (omega arith)
is_4 (a ∷ b ∷ c ∷ []) e = absurd (omega arith)
is_4 (a ∷ b ∷ c ∷ d ∷ x ∷ ds) e = absurd (omega arith)

is_8 : (ds : List ℕ) → length ds ≡ 8 → from_be_bytes w64 ds ≡ value ds
is_8 (a ∷ b ∷ c ∷ d ∷ p ∷ q ∷ r ∷ s ∷ []) e = omega arith
is_8 [] e = absurd (omega arith)
is_8 (a ∷ []) e = absurd (omega arith)
is_8 (a ∷ b ∷ []) e = absurd (omega arith)
is_8 (a ∷ b ∷ c ∷ []) e = absurd (omega arith)
is_8 (a ∷ b ∷ c ∷ d ∷ []) e = absurd (omega arith)
is_8 (a ∷ b ∷ c ∷ d ∷ p ∷ []) e = absurd (omega arith)
is_8 (a ∷ b ∷ c ∷ d ∷ p ∷ q ∷ []) e = absurd (omega arith)
is_8 (a ∷ b ∷ c ∷ d ∷ p ∷ q ∷ r ∷ []) e = absurd (omega arith)
is_8 (a ∷ b ∷ c ∷ d ∷ p ∷ q ∷ r ∷ s ∷ x ∷ ds) e = absurd (omega arith)

pub wide16 : IsWide w16 (2 ^ 16)
wide16 = record {
  len = λ n. refl;
  bytes = λ n. (omega arith, (omega arith, tt));
  back = λ ds len h. be_bytes_2 ds _ len (bytes_at ds h) refl;
  again = λ n lt. from_be_bytes-to_be_bytes_2 n lt;
  is = is_2;
  below = λ ds h len. let v = value_below ds h in rw (is_2 ds len) (let v' : value ds < weight 2 = subst (λ k. value ds < weight k) len v in omega (arith, v'));
}

pub wide32 : IsWide w32 (2 ^ 32)
wide32 = record {
  len = λ n. refl;
  bytes = λ n. (omega arith, (omega arith, (omega arith, (omega arith, tt))));
  back = λ ds len h. be_bytes_4 ds _ len (bytes_at ds h) refl;
  again = λ n lt. from_be_bytes-to_be_bytes_4 n lt;
  is = is_4;
  below = λ ds h len. let v = value_below ds h in rw (is_4 ds len) (let v' : value ds < weight 4 = subst (λ k. value ds < weight k) len v in omega (arith, v'));
}

pub wide64 : IsWide w64 (2 ^ 64)
wide64 = record {
  len = λ n. refl;
  bytes = λ n. (omega arith, (omega arith, (omega arith, (omega arith, (omega arith, (omega arith, (omega arith, (omega arith, tt))))))));
  back = λ ds len h. be_bytes_8 ds _ len (bytes_at ds h) refl;
  again = λ n lt. from_be_bytes-to_be_bytes_8 n lt;
  is = is_8;
  below = λ ds h len. let v = value_below ds h in rw (is_8 ds len) (let v' : value ds < weight 8 = subst (λ k. value ds < weight k) len v in omega (arith, v'));
}

pub upto_lawful : (w : Width) (limit most : ℕ) → IsWide w limit → most < limit → Lawful (upto w most) (λ n. n ≤ most)
unfolding upto_at
upto_lawful w limit most wide fits =
    let ms = to_be_bytes w most in
    let k = byte_len w in
    via (scanned digit_step (Some ms) k) (λ ds. IsScanned digit_step k (Some ms) ds × IsBytes ds) (upto w most) (λ n. n ≤ most) (from_be_bytes w)
    (scanned_lawful digit_step Bounds digit_keeps digit_filler k (Some ms) (wide.len most, wide.bytes most))
    (λ bytes. refl)
    (λ ds h.
    let u = up_to k ms ds (wide.len most) h.1 h.0 in
    let top : value ms ≡ most = sym (wide.is ms (wide.len most)) ∙ wide.again most fits in
    let is = wide.is ds u.0 in
    (omega (arith, u.1), wide.back ds u.0 h.1))
    (λ n le.
    let ds = to_be_bytes w n in
    let lt : n < limit = omega arith in
    let top : value ms ≡ most = sym (wide.is ms (wide.len most)) ∙ wide.again most fits in
    let is : value ds ≡ n = sym (wide.is ds (wide.len n)) ∙ wide.again n lt in
    (ds, (from_up_to k ms ds (wide.len most) (wide.len n) (wide.bytes most) (wide.bytes n) (omega arith), wide.bytes n), wide.again n lt))

pub whole_lawful : (w : Width) (limit : ℕ) → IsWide w limit → Lawful (whole w) (λ n. n < limit)
unfolding whole_at
whole_lawful w limit wide =
    let k = byte_len w in
    via (scanned digit_step None k) (λ ds. IsScanned digit_step k None ds × IsBytes ds) (whole w) (λ n. n < limit) (from_be_bytes w)
    (scanned_lawful digit_step Bounds digit_keeps digit_filler k None tt)
    (λ bytes. ap (λ r. r >>= λ x. Ok (from_be_bytes w x.0, x.1)) (sym (free_scan k bytes)))
    (λ ds h. let len = any k ds h.0 in (wide.below ds h.1 len, wide.back ds len h.1))
    (λ n lt. (to_be_bytes w n, (from_any k (to_be_bytes w n) (wide.len n), wide.bytes n), wide.again n lt))

-- so many bytes, whichever they are
pub free_lawful : (n : ℕ) → Lawful (free n) (λ x. (length x ≡ n) × IsBytes x)
free_lawful n =
    via (scanned digit_step None n) (λ x. IsScanned digit_step n None x × IsBytes x) (free n) (λ x. (length x ≡ n) × IsBytes x) (λ x. x)
    (scanned_lawful digit_step Bounds digit_keeps digit_filler n None tt)
    (λ bytes. sym (free_scan n bytes) ∙ read_again (scan_at digit_step n None bytes))
    (λ x h. ((any n x h.0, h.1), refl)) (λ x h. (x, (from_any n x h.0, h.1), refl))

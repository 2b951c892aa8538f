-- Reading so many bytes.
use Rattle.std.proofs.Common.{◌≡◌, ℕ, zero, suc, ◌<◌, ◌≤◌, ◌+◌, List, [], ◌∷◌, ◌++◌, length, take, drop, Option, Some, None, Result, Ok, Err, refl, sym, ap, ◌∙◌, arith, true, false, ltb, inl, inr, ◌-◌, get_or, append_assoc, append-nil, add-one, drop-cons, length-drop}
use Rattle.std.proofs.lemmas.List.{take_more}
use Rattle.std.proofs.Math.ListN.{drop_of_length-le}
use Rattle.std.proofs.lemmas.Bool.{cases_lt, le-ltb, lt-ltb}
use Rattle.byte_formats.specs.declared.stop.Stopped.{Stopped}
use Rattle.byte_formats.specs.declared.stop.Stopped.TheVariants as stopped
use Rattle.byte_formats.specs.Gives.{Fails}
use Rattle.byte_formats.specs.Format.{Format, many_at, scan_at, digit_step, free_at, ◌>>=◌, with_byte, allowed}

pub free_cons : (n b : ℕ) (bytes : List ℕ) → with_byte b (free_at n bytes) ≡ free_at (suc n) (b ∷ bytes)
free_cons n b bytes =
    elim (cases_lt (length bytes) n) [
      | inl lt ↦ let p = lt-ltb _ _ lt in let q : ltb (suc (length bytes)) (suc n) ≡ true = lt-ltb _ _ (omega arith) in rw (p, q) refl
      | inr le ↦ let p = le-ltb _ _ le in let q : ltb (suc (length bytes)) (suc n) ≡ false = le-ltb _ _ (omega arith) in rw (p, q) refl
    ]

-- any bytes do where the digits are less already
pub free_scan : (n : ℕ) (bytes : List ℕ) → scan_at digit_step n None bytes ≡ free_at n bytes
unfolding scan_at
free_scan zero bytes = let p : ltb (length bytes) 0 ≡ false = le-ltb _ _ (omega arith) in rw p refl
free_scan (suc n) [] = let p : ltb 0 (suc n) ≡ true = lt-ltb _ _ (omega arith) in rw p refl
free_scan (suc n) (b ∷ bytes) = ap (with_byte b) (free_scan n bytes) ∙ free_cons n b bytes

-- ---- a loop over the bytes

abbrev pub with_front : List ℕ → Result (List ℕ × List ℕ) ℕ → Result (List ℕ × List ℕ) ℕ
with_front front r = r >>= λ x. Ok (front ++ x.0, x.1)

-- what the loop has seen, and what is still to be seen
pub record Seen {S : Type 0} (step : ℕ → S → ℕ → Option S) (n : ℕ) (start : S) (bytes : List ℕ) (i : ℕ) (s : S) : Type 0 where
  pub within : i ≤ length bytes
  pub so_far : scan_at step n start bytes ≡ with_front (take i bytes) (scan_at step (n - i) s (drop i bytes))

pub with_front_byte : (front : List ℕ) (b : ℕ) (r : Result (List ℕ × List ℕ) ℕ) → with_front front (with_byte b r) ≡ with_front (front ++ b ∷ []) r
with_front_byte front b (Ok x) = ap (λ (z : List ℕ). Ok (z, x.1)) (sym (append_assoc front (b ∷ []) x.0))
with_front_byte front b (Err e) = refl

pub with_none : (r : Result (List ℕ × List ℕ) ℕ) → r ≡ with_front [] r
with_none (Ok x) = refl
with_none (Err e) = refl

pub begins : {S : Type 0} (step : ℕ → S → ℕ → Option S) (n : ℕ) (start : S) (bytes : List ℕ) → Seen step n start bytes 0 start
begins step n start bytes = record { within = omega arith; so_far = let k : n - 0 ≡ n = omega arith in rw k (with_none (scan_at step n start bytes)) }

one_more : {S : Type 0} (step : ℕ → S → ℕ → Option S) (n : ℕ) (bytes : List ℕ) (i : ℕ) (s : S) → i < n → i < length bytes
    → scan_at step (n - i) s (drop i bytes) ≡ allowed (step (n - i - 1) s (get_or bytes i 0)) (suc (length (drop (i + 1) bytes))) (λ t. with_byte (get_or bytes i 0) (scan_at step (n - (i + 1)) t (drop (i + 1) bytes)))
unfolding scan_at
one_more step n bytes i s lt long =
    let k : n - i ≡ suc (n - (i + 1)) = omega arith in
    let l : n - i - 1 ≡ n - (i + 1) = omega arith in
    let d : drop i bytes ≡ get_or bytes i 0 ∷ drop (i + 1) bytes = rw add-one (drop-cons bytes i 0 long) in
    rw (l, k, d) refl

pub goes_on : {S : Type 0} (step : ℕ → S → ℕ → Option S) (n : ℕ) (start : S) (bytes : List ℕ) (i : ℕ) (s t : S)
    → i < n → i < length bytes → step (n - i - 1) s (get_or bytes i 0) ≡ Some t → Seen step n start bytes i s → Seen step n start bytes (i + 1) t
goes_on step n start bytes i s t lt long e seen =
    let b = get_or bytes i 0 in
    let rest = drop (i + 1) bytes in
    let one = one_more step n bytes i s lt long ∙ ap (λ o. allowed o (suc (length rest)) (λ u. with_byte b (scan_at step (n - (i + 1)) u rest))) e in
    let front : take (i + 1) bytes ≡ take i bytes ++ b ∷ [] = take_more bytes i 0 long in
    record {
      within = omega arith;
      so_far = seen.so_far ∙ ap (with_front (take i bytes)) one ∙ with_front_byte (take i bytes) b (scan_at step (n - (i + 1)) t rest) ∙ ap (λ z. with_front z (scan_at step (n - (i + 1)) t rest)) (sym front);
    }

pub too_short : {S : Type 0} (step : ℕ → S → ℕ → Option S) (n : ℕ) (start : S) (bytes : List ℕ) (i : ℕ) (s : S) → i < n → i ≡ length bytes → Seen step n start bytes i s → scan_at step n start bytes ≡ Err 0
unfolding scan_at
too_short step n start bytes i s lt e seen =
    let k : n - i ≡ suc (n - (i + 1)) = omega arith in
    let d : drop i bytes ≡ [] = drop_of_length-le bytes (omega arith) in
    let last : scan_at step (n - i) s (drop i bytes) ≡ Err 0 = rw (k, d) refl in
    seen.so_far ∙ ap (with_front (take i bytes)) last

pub refuses : {S : Type 0} (step : ℕ → S → ℕ → Option S) (n : ℕ) (start : S) (bytes : List ℕ) (i : ℕ) (s : S) → i < n → i < length bytes → step (n - i - 1) s (get_or bytes i 0) ≡ None → Seen step n start bytes i s
    → scan_at step n start bytes ≡ Err (length bytes - i)
refuses step n start bytes i s lt long e seen =
    let b = get_or bytes i 0 in
    let rest = drop (i + 1) bytes in
    let one = one_more step n bytes i s lt long ∙ ap (λ o. allowed o (suc (length rest)) (λ u. with_byte b (scan_at step (n - (i + 1)) u rest))) e in
    let left : suc (length rest) ≡ length bytes - i = omega (arith, length-drop (i + 1) bytes) in
    seen.so_far ∙ ap (with_front (take i bytes)) one ∙ ap (λ z. Err z) left

pub is_done : {S : Type 0} (step : ℕ → S → ℕ → Option S) (n : ℕ) (start : S) (bytes : List ℕ) (i : ℕ) (s : S) → n ≡ i → Seen step n start bytes i s → scan_at step n start bytes ≡ Ok (take n bytes, drop n bytes)
unfolding scan_at
is_done step n start bytes i s e seen =
    let k : n - i ≡ 0 = omega arith in
    let last : scan_at step (n - i) s (drop i bytes) ≡ Ok ([], drop i bytes) = rw k refl in
    seen.so_far ∙ ap (with_front (take i bytes)) last ∙ ap (λ (z : List ℕ). Ok (z, drop i bytes)) (append-nil (take i bytes)) ∙ ap (λ (j : ℕ). Ok (take j bytes, drop j bytes)) (sym e)

-- ---- a loop over values

abbrev pub with_items : {A : Type 0} → List A → Result (List A × List ℕ) ℕ → Result (List A × List ℕ) ℕ
with_items front r = r >>= λ x. Ok (front ++ x.0, x.1)

items_regroup : {A : Type 0} (front : List A) (a : A) (r : Result (List A × List ℕ) ℕ) → with_items front (r >>= λ xs. Ok (a ∷ xs.0, xs.1)) ≡ with_items (front ++ a ∷ []) r
items_regroup {A} front a (Ok x) = ap (λ (z : List A). Ok (z, x.1)) (sym (append_assoc front (a ∷ []) x.0))
items_regroup front a (Err e) = refl

pub item_read : {A : Type 0} (F : Format A) (front : List A) (count i : ℕ) (bytes after : List ℕ) (a : A) (total : Result (List A × List ℕ) ℕ) → i < count → F.read bytes ≡ Ok (a, after)
    → with_items front (many_at F (count - i) bytes) ≡ total → with_items (front ++ a ∷ []) (many_at F (count - (i + 1)) after) ≡ total
unfolding many_at
item_read F front count i bytes after a total lt e so_far =
    let k : count - i ≡ suc (count - (i + 1)) = omega arith in
    let one : with_items front (many_at F (count - i) bytes) ≡ with_items (front ++ a ∷ []) (many_at F (count - (i + 1)) after) = rw (k, e) (items_regroup front a (many_at F (count - (i + 1)) after)) in
    sym one ∙ so_far

pub item_fails : {A : Type 0} (F : Format A) (e : Stopped) (front : List A) (count i : ℕ) (bytes : List ℕ) (total : Result (List A × List ℕ) ℕ) → i < count → Fails e (F.read bytes)
    → with_items front (many_at F (count - i) bytes) ≡ total → Fails e total
unfolding many_at
item_fails F stopped.Memory front count i bytes total lt h so_far = tt
item_fails F (stopped.Left left) front count i bytes total lt h so_far =
    let k : count - i ≡ suc (count - (i + 1)) = omega arith in
    let one : with_items front (many_at F (count - i) bytes) ≡ Err left = rw (k, h) refl in
    sym so_far ∙ one

pub items_done : {A : Type 0} (F : Format A) (front : List A) (count i : ℕ) (bytes : List ℕ) (total : Result (List A × List ℕ) ℕ) → count ≤ i → with_items front (many_at F (count - i) bytes) ≡ total → total ≡ Ok (front, bytes)
unfolding many_at
items_done {A} F front count i bytes total le so_far =
    let k : count - i ≡ 0 = omega arith in
    let one : with_items front (many_at F (count - i) bytes) ≡ Ok (front, bytes) = rw k (ap (λ (z : List A). Ok (z, bytes)) (append-nil front)) in
    sym so_far ∙ one

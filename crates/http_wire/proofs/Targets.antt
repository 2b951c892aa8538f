-- The test for a target without an end, against the grammar's fact.
use Rattle.std.specs.Prelude.{◌≡◌, ℕ, List, [], ◌∷◌, ◌++◌, Bool, true, false, ◌==◌, ◌&&◌, cond, IsTrue, length, ◌<◌}
use Rattle.std.proofs.Common.{refl, sym, ap, ◌∙◌, arith, add-one, drop-cons, drop, get_or, ◌+◌, ◌≤◌, ⊎_elim}
use lib.ListN.{drop_of_length-le}
use Rattle.std.specs.List.{list_all}
use Rattle.std.proofs.lemmas.Bool.{false≢true, cond-false, and_parts, and_from, eqb-true, cases_lt}
use Rattle.std.proofs.lemmas.List.Elements.{All-cons, All-head, All-tail, All-nil}
use Rattle.httparse.specs.Grammar.{is_token_byte, is_uri_byte, AllPass, IsToken, LineEnd, crlf, lf, print_blank, EndsInTarget}
use Rattle.http_wire.specs.Target.{in_method, at_method, in_target}

-- ---- runs

all_true : (test : ℕ → Bool) (xs : List ℕ) → list_all test xs ≡ true → AllPass test xs
all_true test [] e = All-nil (λ b. IsTrue (test b))
all_true test (x ∷ xs) e = let p = and_parts (test x) (list_all test xs) e in All-cons (λ b. IsTrue (test b)) x xs p.0 (all_true test xs p.1)

true_all : (test : ℕ → Bool) (xs : List ℕ) → AllPass test xs → list_all test xs ≡ true
true_all test [] h = refl
true_all test (x ∷ xs) h = and_from (test x) (list_all test xs) (All-head (λ b. IsTrue (test b)) x xs h) (true_all test xs (All-tail (λ b. IsTrue (test b)) x xs h))

-- ---- the method and the target

abbrev EndsAfter : List ℕ → Type 0
EndsAfter text = (method : List ℕ) × (target : List ℕ) × AllPass is_token_byte method × AllPass is_uri_byte target × (text ≡ method ++ 32 ∷ target)

method_by : (b : ℕ) (rest : List ℕ) (t : Bool) → (b == 32) ≡ t → cond t (list_all is_uri_byte rest) (is_token_byte b && in_method rest) ≡ true → (in_method rest ≡ true → EndsAfter rest) → EndsAfter (b ∷ rest)
method_by b rest true is e more = ([], rest, All-nil (λ x. IsTrue (is_token_byte x)), all_true is_uri_byte rest e, ap (λ x. x ∷ rest) (eqb-true b 32 is))
method_by b rest false is e more =
    let p = and_parts (is_token_byte b) (in_method rest) e in
    let r = more p.1 in
    (b ∷ r.0, r.1, All-cons (λ x. IsTrue (is_token_byte x)) b r.0 p.0 r.2, r.3, ap (λ xs. b ∷ xs) r.4)

method_true : (text : List ℕ) → in_method text ≡ true → EndsAfter text
method_true [] e = absurd (false≢true e)
method_true (b ∷ rest) e = method_by b rest (b == 32) refl e (method_true rest)

other : (b k : ℕ) → is_token_byte b ≡ true → is_token_byte k ≡ false → (b == k) ≡ false
other b k is not_k = by (b == k) refl
  where
    by : (t : Bool) → (b == k) ≡ t → (b == k) ≡ false
    by true e = absurd (false≢true (sym not_k ∙ ap is_token_byte (sym (eqb-true b k e)) ∙ is))
    by false e = e

no_space : is_token_byte 32 ≡ false
unfolding is_token_byte
no_space = refl

no_lf : is_token_byte 10 ≡ false
unfolding is_token_byte
no_lf = refl

no_cr : is_token_byte 13 ≡ false
unfolding is_token_byte
no_cr = refl

true_method : (method target : List ℕ) → AllPass is_token_byte method → AllPass is_uri_byte target → in_method (method ++ 32 ∷ target) ≡ true
true_method [] target m t = true_all is_uri_byte target t
true_method (b ∷ method) target m t =
    let head : is_token_byte b ≡ true = All-head (λ x. IsTrue (is_token_byte x)) b method m in
    cond-false _ _ _ (other b 32 head no_space) ∙ and_from (is_token_byte b) _ head (true_method method target (All-tail (λ x. IsTrue (is_token_byte x)) b method m) t)

-- ---- the empty lines before

started : (a : ℕ) (rest : List ℕ) → (is_token_byte a && in_method rest) ≡ true → EndsInTarget (a ∷ rest)
started a rest e =
    let p = and_parts (is_token_byte a) (in_method rest) e in
    let r = method_true rest p.1 in
    ([], a ∷ r.0, r.1, (omega arith, All-cons (λ x. IsTrue (is_token_byte x)) a r.0 p.0 r.2), r.3, ap (λ xs. a ∷ xs) r.4)

after_cr : (a b : ℕ) (rest : List ℕ) (t : Bool) → ((a == 13) && (b == 10)) ≡ t → cond t (in_target rest) (at_method (a ∷ b ∷ rest)) ≡ true → (in_target rest ≡ true → EndsInTarget rest) → EndsInTarget (a ∷ b ∷ rest)
after_cr a b rest true is e more =
    let p = and_parts (a == 13) (b == 10) is in
    let r = more e in
    let ea = eqb-true a 13 p.0 in
    let eb = eqb-true b 10 p.1 in
    (crlf ∷ r.0, r.1, r.2, r.3, r.4, λ i. ea i ∷ eb i ∷ r.5 i)
after_cr a b rest false is e more = started a (b ∷ rest) e

after_lf : (a b : ℕ) (rest : List ℕ) (t : Bool) → (a == 10) ≡ t → cond t (in_target (b ∷ rest)) (cond ((a == 13) && (b == 10)) (in_target rest) (at_method (a ∷ b ∷ rest))) ≡ true
    → (in_target (b ∷ rest) ≡ true → EndsInTarget (b ∷ rest)) → (in_target rest ≡ true → EndsInTarget rest) → EndsInTarget (a ∷ b ∷ rest)
after_lf a b rest true is e one two =
    let r = one e in
    let ea = eqb-true a 10 is in
    (lf ∷ r.0, r.1, r.2, r.3, r.4, λ i. ea i ∷ r.5 i)
after_lf a b rest false is e one two = after_cr a b rest ((a == 13) && (b == 10)) refl e two

pub target_true : (text : List ℕ) → in_target text ≡ true → EndsInTarget text
target_true [] e = absurd (false≢true e)
target_true (a ∷ []) e = absurd (false≢true e)
target_true (a ∷ b ∷ rest) e = after_lf a b rest (a == 10) refl e (target_true (b ∷ rest)) (target_true rest)

starts : (x : ℕ) (xs : List ℕ) → is_token_byte x ≡ true → in_method xs ≡ true → in_target (x ∷ xs) ≡ true
starts x [] is e = absurd (false≢true e)
starts x (y ∷ xs) is e =
    cond-false _ _ _ (other x 10 is no_lf) ∙ cond-false _ _ _ (ap (λ t. t && (y == 10)) (other x 13 is no_cr)) ∙ and_from (is_token_byte x) _ is e

skip_lf : (xs : List ℕ) → in_target xs ≡ true → in_target (10 ∷ xs) ≡ true
skip_lf [] e = absurd (false≢true e)
skip_lf (b ∷ rest) e = e

back : (blank : List LineEnd) (method target : List ℕ) → IsToken method → AllPass is_uri_byte target → in_target (print_blank blank ++ method ++ 32 ∷ target) ≡ true
back [] [] target m t = absurd (omega (arith, m.0))
back [] (x ∷ xs) target m t =
    starts x (xs ++ 32 ∷ target) (All-head (λ b. IsTrue (is_token_byte b)) x xs m.1) (true_method xs target (All-tail (λ b. IsTrue (is_token_byte b)) x xs m.1) t)
back (crlf ∷ blank) method target m t = back blank method target m t
back (lf ∷ blank) method target m t = skip_lf (print_blank blank ++ method ++ 32 ∷ target) (back blank method target m t)

pub true_target : (text : List ℕ) → EndsInTarget text → in_target text ≡ true
true_target text h = ap in_target h.5 ∙ back h.0 h.1 h.2 h.3 h.4

-- ---- the steps of a scan

one_more : (xs : List ℕ) (k : ℕ) → k < length xs → drop k xs ≡ get_or xs k 0 ∷ drop (k + 1) xs
one_more xs k h = rw add-one (drop-cons xs k 0 h)

pub past_lf : (xs : List ℕ) (at : ℕ) → at + 1 < length xs → get_or xs at 0 ≡ 10 → in_target (drop (at + 1) xs) ≡ in_target (drop at xs)
past_lf xs at h is =
    let tail = one_more xs (at + 1) h in
    let whole : drop at xs ≡ 10 ∷ get_or xs (at + 1) 0 ∷ drop (at + 1 + 1) xs = one_more xs at (omega arith) ∙ (λ i. is i ∷ tail i) in
    ap in_target tail ∙ sym (ap in_target whole)

no_pair : (a b : ℕ) → (a ≡ 13 → b ≡ 10 → ⊥) → ((a == 13) && (b == 10)) ≡ false
no_pair a b h = by ((a == 13) && (b == 10)) refl
  where
    by : (t : Bool) → ((a == 13) && (b == 10)) ≡ t → ((a == 13) && (b == 10)) ≡ false
    by true e = let p = and_parts (a == 13) (b == 10) e in absurd (h (eqb-true a 13 p.0) (eqb-true b 10 p.1))
    by false e = e

no_eq : (a b : ℕ) → (a ≡ b → ⊥) → (a == b) ≡ false
no_eq a b h = by (a == b) refl
  where
    by : (t : Bool) → (a == b) ≡ t → (a == b) ≡ false
    by true e = absurd (h (eqb-true a b e))
    by false e = e

pub at_other : (xs : List ℕ) (at : ℕ) → at + 1 < length xs → (get_or xs at 0 ≡ 10 → ⊥) → (get_or xs at 0 ≡ 13 → get_or xs (at + 1) 0 ≡ 10 → ⊥)
    → in_target (drop at xs) ≡ (is_token_byte (get_or xs at 0) && in_method (drop (at + 1) xs))
at_other xs at h lf_not crlf_not =
    let tail = one_more xs (at + 1) h in
    let whole : drop at xs ≡ get_or xs at 0 ∷ get_or xs (at + 1) 0 ∷ drop (at + 1 + 1) xs = one_more xs at (omega arith) ∙ (λ i. get_or xs at 0 ∷ tail i) in
    ap in_target whole ∙ cond-false _ _ _ (no_eq _ _ lf_not) ∙ cond-false _ _ _ (no_pair _ _ crlf_not)
    ∙ ap (λ t. is_token_byte (get_or xs at 0) && in_method t) (sym tail)

pub at_end : (xs : List ℕ) (at : ℕ) → length xs ≤ at + 1 → in_target (drop at xs) ≡ false
at_end xs at h = ⊎_elim
    (λ lt. ap in_target (one_more xs at lt ∙ ap (λ t. get_or xs at 0 ∷ t) (drop_of_length-le xs h)))
    (λ ge. ap in_target (drop_of_length-le xs ge)) (cases_lt at (length xs))

-- A refusal stays: bytes that can become no head, and do not end inside a target, never come to end inside one.
use Rattle.std.specs.Prelude.{true, ◌≡◌, ℕ, List, [], ◌∷◌, ◌++◌, length, drop, get_or, IsTrue, ◌≤◌}
use Rattle.std.proofs.Common.{refl, sym, ap, ◌∙◌, arith, append_assoc, subst, ⊎_elim}
use Rattle.std.proofs.lemmas.Bool.{cases_lt}
use Rattle.std.proofs.lemmas.List.Elements.{All-cons, All-nil, All-head, All-tail}
use Rattle.std.proofs.lemmas.Str.{IsUtf8-from_ascii}
use Rattle.std.proofs.lemmas.Str.Ascii.{IsAscii-nil, IsAscii-cons}
use Rattle.std.proofs.lemmas.List.{append-nil}
use Rattle.httparse.specs.Grammar.{is_token_byte, is_uri_byte, AllPass, IsToken, LineEnd, lf, print_end, print_blank, print_version, print_section, RequestHead, IsRequestHead, print_request, NeverHasRequest, EndsInTarget}
use Rattle.httparse.proofs.GrammarLemmas.{print_request-append}

pub split : (a b c d : List ℕ) → a ++ b ≡ c ++ d → length a ≤ length c → (q : List ℕ) × (c ≡ a ++ q) × (b ≡ q ++ d)
split [] b c d e h = (c, refl, e)
split (x ∷ a) b [] d e h = absurd (omega (arith, h))
split (x ∷ a) b (y ∷ c) d e h =
    let head : x ≡ y = ap (λ l. get_or l 0 0) e in
    let r = split a b c d (ap (drop 1) e) (omega (arith, h)) in
    (r.0, (λ i. sym head i ∷ r.1 i), r.2)

-- any head after a method and its space
abbrev pub tail_of : List ℕ
tail_of = (97 ∷ []) ++ 32 ∷ (print_version 1 ++ (print_end lf ++ (print_section [] lf ++ [])))

abbrev pub some_head : List LineEnd → List ℕ → RequestHead
some_head blank method = record { blank = blank; method = method; target = 97 ∷ []; minor = 1; line_end = lf; fields = []; last = lf }

pub some_is : (blank : List LineEnd) (method : List ℕ) → IsToken method → IsRequestHead (some_head blank method)
some_is blank method tok = record {
  method = tok;
  target = (omega arith, All-cons (λ b. IsTrue (is_uri_byte b)) 97 [] refl (All-nil (λ b. IsTrue (is_uri_byte b))));
  target_text = IsUtf8-from_ascii (97 ∷ []) (IsAscii-cons 97 [] (omega arith) IsAscii-nil);
  minor = omega arith;
  fields = All-nil _;
}

pub late_target : (p more : List ℕ) → NeverHasRequest p → EndsInTarget (p ++ more) → EndsInTarget p
late_target p more never ends =
    let blank = ends.0 in
    let method = ends.1 in
    let target = ends.2 in
    let before = print_blank blank ++ method in
    let front : List ℕ = before ++ 32 ∷ [] in
    let whole : p ++ more ≡ front ++ target = ends.5 ∙ sym (append_assoc before (32 ∷ []) target) in
    ⊎_elim
    (λ lt. absurd (
    let s = split p more front target whole (omega (arith, lt)) in
    let reads : p ++ (s.0 ++ tail_of) ≡ print_request (some_head blank method) ++ [] =
    sym (append_assoc p s.0 tail_of) ∙ ap (λ t. t ++ tail_of) (sym s.1) ∙ append_assoc before (32 ∷ []) tail_of
    ∙ append_assoc (print_blank blank) method (32 ∷ tail_of) ∙ sym (print_request-append (some_head blank method) []) in
    never (s.0 ++ tail_of) (some_head blank method) [] (some_is blank method ends.3, reads)))
    (λ ge.
    let s = split front target p more (sym whole) ge in
    (blank, method, s.0, ends.3, front_all s.0 more (subst (AllPass is_uri_byte) s.2 ends.4), s.1 ∙ append_assoc before (32 ∷ []) s.0))
    (cases_lt (length p) (length front))
  where
    front_all : (xs ys : List ℕ) → AllPass is_uri_byte (xs ++ ys) → AllPass is_uri_byte xs
    front_all [] ys h = All-nil (λ b. IsTrue (is_uri_byte b))
    front_all (x ∷ xs) ys h =
        All-cons (λ b. IsTrue (is_uri_byte b)) x xs (All-head (λ b. IsTrue (is_uri_byte b)) x (xs ++ ys) h) (front_all xs ys (All-tail (λ b. IsTrue (is_uri_byte b)) x (xs ++ ys) h))

a_byte : is_token_byte 97 ≡ true
unfolding is_token_byte
a_byte = refl

pub a_token : IsToken (97 ∷ [])
a_token = (omega arith, All-cons (λ b. IsTrue (is_token_byte b)) 97 [] a_byte (All-nil (λ b. IsTrue (is_token_byte b))))

-- no bytes at all can become a head
pub never_none : NeverHasRequest [] → ⊥
never_none never =
    let h = some_head [] (97 ∷ []) in
    never (print_request h) h [] (some_is [] (97 ∷ []) a_token, sym (append-nil (print_request h)))

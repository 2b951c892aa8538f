-- Unfinished bytes: how they come about, and that they decide nothing.
use Rattle.std.specs.Prelude.{◌≡◌, ◌⊎◌, ℕ, ◌+◌, ◌<◌, ◌≤◌, ◌++◌, Bool, true, false, ◌||◌, List, [], ◌∷◌, length, nat_eq}
use Rattle.std.specs.List.{list_any}
use Rattle.std.proofs.Common.{refl, sym, ap, ◌∙◌, subst, arith, inl, inr, ⊎_elim, append_assoc, length-append}
use Rattle.std.proofs.lemmas.Bool.{cases_lt, true≢false}
use Rattle.std.proofs.lemmas.List.{append-nil, take_all}
use Rattle.httparse.specs.Grammar.{LineEnd, crlf, lf, print_end, RequestHead, print_request, HasNoRequest, MayBecomeRequest}
use Rattle.http_wire.specs.Limits.{most_head, front}
use Rattle.http_wire.specs.Requests.{Ending, at_end, head_fault, Ends, IsHeadFault, cut_in_head, cut_in_body}
use Rattle.http_wire.specs.Unfinished.{EndsNoLine, BeginsHead, IsUnfinished, in_head, in_body}
use Rattle.http_wire.specs.Laws.{AreOpen}
use Rattle.http_wire.proofs.Late.{split, some_head, some_is, a_token}
use Rattle.http_wire.proofs.Long.{head_long}
use Rattle.http_wire.proofs.Unique.{ending_unique, asks_or_ends}

-- ---- a head ends with a line

abbrev EndsLine : List ℕ → Type 0
EndsLine text = (before : List ℕ) × (text ≡ before ++ 10 ∷ [])

behind : (a b : List ℕ) → EndsLine b → EndsLine (a ++ b)
behind a b e = (a ++ e.0, ap (λ (l : List ℕ). a ++ l) e.1 ∙ sym (append_assoc a e.0 (10 ∷ [])))

line_ends : (e : LineEnd) → EndsLine (print_end e)
line_ends crlf = (13 ∷ [], refl)
line_ends lf = ([], refl)

head_ends : (h : RequestHead) → EndsLine (print_request h)
unfolding print_request
head_ends h = behind _ _ (behind _ _ (line_ends h.last))

line_there : (a b : List ℕ) → list_any (λ b. nat_eq b 10) (a ++ 10 ∷ b) ≡ true
line_there [] b = refl
line_there (x ∷ a) b = ap (λ (t : Bool). nat_eq x 10 || t) (line_there a b) ∙ or_true (nat_eq x 10)
  where
    or_true : (t : Bool) → (t || true) ≡ true
    or_true true = refl
    or_true false = refl

no_line_apart : (q a b : List ℕ) → EndsNoLine q → q ≡ (a ++ 10 ∷ []) ++ b → ⊥
no_line_apart q a b quiet is =
    true≢false (sym (line_there a b) ∙ ap (list_any (λ b. nat_eq b 10)) (sym (append_assoc a (10 ∷ []) b)) ∙ ap (list_any (λ b. nat_eq b 10)) (sym is) ∙ quiet)

-- without another line end there is no head yet
pub no_line : (p q : List ℕ) → HasNoRequest p → EndsNoLine q → HasNoRequest (p ++ q)
no_line p q none quiet h rest reads =
    let text = print_request h in
    ⊎_elim
    (λ (less : length p < length text).
    let s = split p q text rest reads.1 (omega (arith, less)) in
    let e = head_ends h in
    let long : length text ≡ length e.0 + 1 = ap (λ (l : List ℕ). length l) e.1 ∙ length-append e.0 (10 ∷ []) in
    let t = split p s.0 e.0 (10 ∷ []) (sym s.1 ∙ e.1) (omega (arith, less, long)) in
    no_line_apart q t.0 rest quiet (s.2 ∙ ap (λ (l : List ℕ). l ++ rest) t.2))
    (λ (more : length text ≤ length p).
    let s = split text rest p q (sym reads.1) more in
    none h s.0 (reads.0, s.1))
    (cases_lt (length p) (length text))

-- ---- how heads begin

no_lines : (p q : List ℕ) → EndsNoLine p → EndsNoLine q → EndsNoLine (p ++ q)
no_lines [] q one two = two
no_lines (x ∷ p) q one two = elim (nat_eq x 10) as (λ (b : Bool). (b || list_any (λ b. nat_eq b 10) p) ≡ false → (b || list_any (λ b. nat_eq b 10) (p ++ q)) ≡ false) [
  | true ↦ λ yes. absurd (true≢false yes)
  | false ↦ λ rest. no_lines p q rest two
] one

pub begins_none : BeginsHead []
begins_none =
    let h = some_head [] (97 ∷ []) in
    record {
      ended = [];
      tail = [];
      is = refl;
      last = refl;
      none = λ g rest reads.
          let long = head_long g reads.0 in
          let size : 0 ≡ length (print_request g) + length rest = ap (λ (l : List ℕ). length l) reads.1 ∙ length-append (print_request g) rest in
          omega (arith, long, size);
      may = inl (print_request h, h, (some_is [] (97 ∷ []) a_token, sym (append-nil (print_request h))));
    }

pub begins_more : (p q : List ℕ) → BeginsHead p → EndsNoLine q → BeginsHead (p ++ q)
begins_more p q b quiet = record {
  ended = b.ended;
  tail = b.tail ++ q;
  is = ap (λ (l : List ℕ). l ++ q) b.is ∙ append_assoc b.ended b.tail q;
  last = no_lines b.tail q b.last quiet;
  none = no_line p q b.none quiet;
  may = b.may;
}

pub begins_parsed : (bytes : List ℕ) → length bytes < most_head → HasNoRequest (front bytes) → MayBecomeRequest (front bytes) → BeginsHead bytes
begins_parsed bytes short none may =
    let all : front bytes ≡ bytes = take_all most_head bytes (omega (arith, short)) in
    record { ended = bytes; tail = []; is = sym (append-nil bytes); last = refl; none = subst HasNoRequest all none; may = subst MayBecomeRequest all may }

-- ---- what unfinished bytes decide

-- as an input they end, and that is all
unfinished_ends : (bytes : List ℕ) → IsUnfinished bytes → (bytes ≡ []) ⊎ IsHeadFault bytes
unfinished_ends [] u = inl refl
unfinished_ends (b ∷ bytes) (in_head begun short) = inr (cut_in_head (omega arith) short begun.none)
unfinished_ends (b ∷ bytes) (in_body head rest n begins is less) = inr (cut_in_body head rest n begins is less)

not_empty : (bytes : List ℕ) (b : ℕ) → bytes ++ b ∷ [] ≡ [] → ⊥
not_empty bytes b is = let none = ap (λ (l : List ℕ). length l) is in omega (arith, none, length-append bytes (b ∷ []))

pub unfinished_open : AreOpen
unfinished_open bytes u = (
  λ r left asks. ⊎_elim (λ none. asks_or_ends bytes r left at_end asks none) (λ cut. asks_or_ends bytes r left head_fault asks cut) (unfinished_ends bytes u),
  λ e always.
      let here : Ends bytes e = subst (λ (l : List ℕ). Ends l e) (append-nil bytes) (always []) in
      ⊎_elim
      (λ none.
      let same : at_end ≡ e = ending_unique bytes at_end e none here in
      absurd (not_empty bytes 97 (subst (λ (f : Ending). Ends (bytes ++ 97 ∷ []) f) (sym same) (always (97 ∷ [])))))
      (λ cut. ending_unique bytes e head_fault here cut)
      (unfinished_ends bytes u),
)

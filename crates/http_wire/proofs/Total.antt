-- No input is without a list of requests and an ending.
use Rattle.std.specs.Prelude.{◌≡◌, ℕ, zero, suc, ◌<◌, ◌≤◌, ◌+◌, ◌++◌, List, [], ◌∷◌, length, take, drop}
use Rattle.std.proofs.Common.{refl, sym, ap, ◌∙◌, subst, arith, inl, inr, ⊎_elim, length-append, append_assoc}
use Rattle.std.proofs.lemmas.Bool.{cases_lt}
use Rattle.std.proofs.lemmas.List.{append-nil, take_all, take-append-drop, length-take, length-take-le, length-drop}
use Rattle.httparse.specs.Grammar.{RequestHead, print_request, HasNoRequest, NeverHasRequest, MayBecomeRequest}
use Rattle.http_wire.specs.Limits.{most_head, front}
use Rattle.http_wire.specs.Heads.{Says, coded, bad_length, too_much, of_length, lines, says, asker, closes_after}
use Rattle.http_wire.specs.declared.request.HttpRequest.{HttpRequest}
use Rattle.http_wire.specs.Requests.{BeginsWith, refused, cut_in_head, length_fault, cut_in_body, long_head, over, chunked, Ending, at_end, head_fault, too_large, chunked_body, Ends, Requests}
use Rattle.http_wire.proofs.Long.{head_long}
use Rattle.http_wire.proofs.Late.{split}

abbrev IsRead : List ℕ → Type 0
IsRead input = (rs : List HttpRequest) × (e : Ending) × Requests input rs e

-- whatever is refused in both cases is refused
by_cases : {A B : Type 0} → (A → ¬ (¬ B)) → (¬ A → ¬ (¬ B)) → ¬ (¬ B)
by_cases {A} f g none = let without : ¬ A = λ a. f a none in g without none

-- an ending alone
ends_here : (input : List ℕ) (e : Ending) → Ends input e → ¬ (¬ (IsRead input))
ends_here input e ends none = none ([], e, (input, refl, ends))

-- ---- no head begins the input

no_head : (input : List ℕ) → ¬ ((h : RequestHead) × (rest : List ℕ) × BeginsWith input h rest) → HasNoRequest (front input)
no_head input none h rest reads =
    let p = print_request h in
    let size : length (front input) ≡ length p + length rest = ap (λ (l : List ℕ). length l) reads.1 ∙ length-append p rest in
    let cut = length-take most_head input in
    none (
      h,
      rest ++ drop most_head input,
      record {
        reads = (reads.0, sym (take-append-drop most_head input) ∙ ap (λ (l : List ℕ). l ++ drop most_head input) reads.1 ∙ append_assoc p rest (drop most_head input));
        short = omega (arith, size, cut);
      },
    )

never_may : (p : List ℕ) → HasNoRequest p → ¬ (MayBecomeRequest p) → NeverHasRequest p
never_may p none not more h rest reads =
    let text = print_request h in
    ⊎_elim
    (λ (less : length text < length p). let s = split text rest p more (sym reads.1) (omega (arith, less)) in none h s.0 (reads.0, s.1))
    (λ (long : length p ≤ length text). let s = split p more text rest reads.1 long in not (inl (s.0, h, (reads.0, sym s.1 ∙ sym (append-nil text)))))
    (cases_lt (length text) (length p))

without_head : (input : List ℕ) → 0 < length input → HasNoRequest (front input) → ¬ (¬ (IsRead input))
without_head input some none =
    ⊎_elim
    (λ (less : length input < most_head).
    ends_here input head_fault (cut_in_head some less (subst HasNoRequest (take_all most_head input (omega (arith, less))) none)))
    (λ (long : most_head ≤ length input).
    by_cases {A = MayBecomeRequest (front input)}
    (λ may. ends_here input too_large (long_head long none may))
    (λ not. ends_here input head_fault (refused (never_may (front input) none not) (λ ends. not (inr ends)))))
    (cases_lt (length input) most_head)

-- ---- a head begins the input

module _ (input : List ℕ) (h : RequestHead) (rest : List ℕ) (begins : BeginsWith input h rest) (more : (left : List ℕ) → length left < length input → ¬ (¬ (IsRead left))) where
  size : length input ≡ length (print_request h) + length rest
  size = ap (λ (l : List ℕ). length l) begins.reads.1 ∙ length-append (print_request h) rest

  with_body : (n : ℕ) → says (lines h) ≡ of_length n → n ≤ length rest → ¬ (¬ (IsRead input))
  with_body n is long none =
      let body = take n rest in
      let left = drop n rest in
      let whole : rest ≡ body ++ left = sym (take-append-drop n rest) in
      let long_enough = head_long h begins.reads.0 in
      let fewer = length-drop n rest in
      more left (omega (arith, size, long_enough, fewer)) (λ x. none (
        record { method = h.method; target = h.target; user = asker (lines h); close = closes_after h.minor (lines h); body = body } ∷ x.0,
        x.1,
        (
          x.2.0,
          (
            left,
            record {
              head = h;
              begins = subst (λ (l : List ℕ). BeginsWith input h l) whole begins;
              sized = is ∙ ap (λ (k : ℕ). of_length k) (sym (length-take-le n rest long));
              method = refl;
              target = refl;
              user = refl;
              close = refl;
            },
            x.2.1,
          ),
          x.2.2,
        ),
      ))

  with_head : (s : Says) → says (lines h) ≡ s → ¬ (¬ (IsRead input))
  with_head coded is = ends_here input chunked_body (chunked h rest begins is)
  with_head bad_length is = ends_here input head_fault (length_fault h rest begins is)
  with_head too_much is = ends_here input too_large (over h rest begins is)
  with_head (of_length n) is =
      ⊎_elim (λ (less : length rest < n). ends_here input head_fault (cut_in_body h rest n begins is less))
      (λ (long : n ≤ length rest). with_body n is long)
      (cases_lt (length rest) n)

-- ---- any input

none_left : (input : List ℕ) → length input ≤ 0 → input ≡ []
none_left [] le = refl
none_left (x ∷ input) le = absurd (omega (arith, le))

by_length : (n : ℕ) (input : List ℕ) → length input ≤ n → ¬ (¬ (IsRead input))
by_length zero input le = ends_here input at_end (none_left input le)
by_length (suc n) input le =
    by_cases {A = (h : RequestHead) × (rest : List ℕ) × BeginsWith input h rest}
    (λ b. with_head input b.0 b.1 b.2 (λ left less. by_length n left (omega (arith, less, le))) (says (lines b.0)) refl)
    (λ none. ⊎_elim (λ (some : 0 < length input). without_head input some (no_head input none))
    (λ (empty : length input ≤ 0). ends_here input at_end (none_left input empty))
    (cases_lt 0 (length input)))

pub requests_total : (input : List ℕ) → ¬ (¬ (IsRead input))
requests_total input = by_length (length input) input (omega arith)

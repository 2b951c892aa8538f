-- An input begins with one request or has one ending.
use Rattle.std.specs.Prelude.{◌≡◌, ◌⊎◌, ℕ, ◌<◌, ◌≤◌, ◌+◌, ◌-◌, ◌++◌, List, [], ◌∷◌, length, take, drop, Option, Some, None, Bool, cond, nat_lt}
use Rattle.std.proofs.Common.{refl, sym, ap, ◌∙◌, subst, arith, inl, inr, ⊎_elim, length-append}
use Rattle.std.proofs.lemmas.Bool.Decides.{nat_tests}
use Rattle.std.proofs.lemmas.List.{append-nil, take_all, take_at, drop_at}
use Rattle.std.proofs.Math.Seq.{take-append-add}
use Rattle.httparse.specs.Grammar.{RequestHead, print_request, HasNoRequest, NeverHasRequest, MayBecomeRequest, EndsInTarget}
use Rattle.httparse.proofs.GrammarLemmas.{request_unique}
use Rattle.http_wire.specs.Limits.{most_head, front}
use Rattle.http_wire.proofs.Long.{head_long}
use Rattle.http_wire.proofs.Late.{never_none}
use Rattle.http_wire.specs.Heads.{Says, coded, bad_length, too_much, of_length, lines, says, asker, closes_after}
use Rattle.http_wire.specs.declared.request.HttpRequest.{HttpRequest}
use Rattle.http_wire.specs.Requests.{BeginsWith, Asks, IsHeadFault, refused, cut_in_head, length_fault, cut_in_body, IsTooLarge, long_head, over, IsChunked, chunked, Ending, at_end, head_fault, too_large, chunked_body, Ends, Begins, Requests}

-- the ending that a head and what follows it give
abbrev end_of : Says → ℕ → Option Ending
end_of coded n = Some chunked_body
end_of bad_length n = Some head_fault
end_of too_much n = Some too_large
end_of (of_length k) n = cond (nat_lt n k) (Some head_fault) None

abbrev Headed : List ℕ → Option Ending → Type 0
Headed input e = (h : RequestHead) × (rest : List ℕ) × BeginsWith input h rest × (end_of (says (lines h)) (length rest) ≡ e)

abbrev Level : List ℕ → Ending → Type 0
Level input at_end = length input ≡ 0
Level input head_fault = (0 < length input) × ((NeverHasRequest (front input) × ¬ (EndsInTarget (front input))) ⊎ (length input < most_head))
Level input too_large = (most_head ≤ length input) × MayBecomeRequest (front input)
Level input chunked_body = ⊥

abbrev Headless : List ℕ → Ending → Type 0
Headless input e = HasNoRequest (front input) × Level input e

-- ---- each ending is of one of the two kinds

short_body : (n k : ℕ) → n < k → cond {A = Option Ending} (nat_lt n k) (Some head_fault) None ≡ Some head_fault
short_body n k lt = grind (arith, nat_tests)

long_body : (n k : ℕ) → k ≤ n → cond {A = Option Ending} (nat_lt n k) (Some head_fault) None ≡ None
long_body n k le = grind (arith, nat_tests)

some : (input : List ℕ) → NeverHasRequest (front input) → 0 < length input
some [] never = absurd (never_none never)
some (x ∷ input) never = omega arith

no_empty : (input : List ℕ) → input ≡ [] → HasNoRequest (front input)
no_empty input e h rest reads =
    let long = head_long h reads.0 in
    let size : length (front input) ≡ length (print_request h) + length rest = ap (λ (l : List ℕ). length l) reads.1 ∙ length-append (print_request h) rest in
    let none : length (front input) ≡ 0 = ap (λ (l : List ℕ). length (front l)) e in
    omega arith

abbrev Kind : List ℕ → Ending → Type 0
Kind input e = Headless input e ⊎ Headed input (Some e)

fault_kind : (input : List ℕ) → IsHeadFault input → Kind input head_fault
fault_kind input (refused never ends) = inl (subst HasNoRequest (append-nil (front input)) (never []), (some input never, inl (never, ends)))
fault_kind input (cut_in_head more less none) = inl (subst HasNoRequest (sym (take_all most_head input (omega (arith, less)))) none, (more, inr less))
fault_kind input (length_fault h rest begins is) = inr (h, rest, begins, ap (λ (r : Says). end_of r (length rest)) is)
fault_kind input (cut_in_body h rest n begins is less) = inr (h, rest, begins, ap (λ (r : Says). end_of r (length rest)) is ∙ short_body (length rest) n less)

large_kind : (input : List ℕ) → IsTooLarge input → Kind input too_large
large_kind input (long_head long none may) = inl (none, (long, may))
large_kind input (over h rest begins is) = inr (h, rest, begins, ap (λ (r : Says). end_of r (length rest)) is)

chunked_kind : (input : List ℕ) → IsChunked input → Kind input chunked_body
chunked_kind input (chunked h rest begins is) = inr (h, rest, begins, ap (λ (r : Says). end_of r (length rest)) is)

kind : (input : List ℕ) (e : Ending) → Ends input e → Kind input e
kind input at_end is = inl (no_empty input is, ap (λ (l : List ℕ). length l) is)
kind input head_fault is = fault_kind input is
kind input too_large is = large_kind input is
kind input chunked_body is = chunked_kind input is

asked_kind : (input : List ℕ) (r : HttpRequest) (left : List ℕ) → Asks input r left → Headed input None
asked_kind input r left a =
    (a.head, r.body ++ left, a.begins, ap (λ (x : Says). end_of x (length (r.body ++ left))) a.sized ∙ long_body _ _ (omega (arith, length-append r.body left)))

-- ---- the two kinds exclude each other

at_front : (input : List ℕ) (h : RequestHead) (rest : List ℕ) → BeginsWith input h rest → HasNoRequest (front input) → ⊥
at_front input h rest b none =
    let p = print_request h in
    let k = most_head - length p in
    let sum : length p + k ≡ most_head = omega (arith, b.short) in
    none h (take k rest) (b.reads.0, ap (λ (l : List ℕ). take most_head l) b.reads.1 ∙ ap (λ (n : ℕ). take n (p ++ rest)) (sym sum) ∙ take-append-add p rest k)

headed_same : (input : List ℕ) (e f : Option Ending) → Headed input e → Headed input f → e ≡ f
headed_same input e f x y =
    let u = request_unique input x.0 y.0 x.1 y.1 x.2.reads y.2.reads in
    sym x.3 ∙ (λ i. end_of (says (lines (u.0 i))) (length (u.1 i))) ∙ y.3

no_both : (p : List ℕ) → NeverHasRequest p → ¬ (EndsInTarget p) → MayBecomeRequest p → ⊥
no_both p never out may = ⊎_elim (λ m. never m.0 m.1 [] m.2) (λ t. out t) may

levels : (input : List ℕ) (e f : Ending) → Level input e → Level input f → e ≡ f
levels input at_end at_end x y = refl
levels input at_end head_fault x y = absurd (omega (arith, x, y.0))
levels input at_end too_large x y = absurd (omega (arith, x, y.0))
levels input at_end chunked_body x y = absurd y
levels input head_fault at_end x y = absurd (omega (arith, x.0, y))
levels input head_fault head_fault x y = refl
levels input head_fault too_large x y = absurd (⊎_elim (λ n. no_both (front input) n.0 n.1 y.1) (λ less. omega (arith, less, y.0)) x.1)
levels input head_fault chunked_body x y = absurd y
levels input too_large at_end x y = absurd (omega (arith, x.0, y))
levels input too_large head_fault x y = absurd (⊎_elim (λ n. no_both (front input) n.0 n.1 x.1) (λ less. omega (arith, less, x.0)) y.1)
levels input too_large too_large x y = refl
levels input too_large chunked_body x y = absurd y
levels input chunked_body f x y = absurd x

by_some : (e f : Ending) → Some e ≡ Some f → e ≡ f
by_some e f is = cc

pub ending_unique : (input : List ℕ) (e f : Ending) → Ends input e → Ends input f → e ≡ f
ending_unique input e f x y =
    ⊎_elim
    (λ a. ⊎_elim (λ b. levels input e f a.1 b.1) (λ b. absurd (at_front input b.0 b.1 b.2 a.0)) (kind input f y))
    (λ a. ⊎_elim (λ b. absurd (at_front input a.0 a.1 a.2 b.0)) (λ b. by_some e f (headed_same input (Some e) (Some f) a b)) (kind input f y))
    (kind input e x)

none_some : (e : Ending) → None ≡ Some e → ⊥
none_some e is = cc

pub asks_or_ends : (input : List ℕ) (r : HttpRequest) (left : List ℕ) (e : Ending) → Asks input r left → Ends input e → ⊥
asks_or_ends input r left e a x =
    let h = asked_kind input r left a in
    ⊎_elim (λ b. at_front input h.0 h.1 h.2 b.0) (λ b. none_some e (headed_same input None (Some e) h b)) (kind input e x)

by_body : (n m : ℕ) → of_length n ≡ of_length m → n ≡ m
by_body n m is = cc

abbrev asker_of : RequestHead → Option (List ℕ)
asker_of h = asker (lines h)

abbrev close_of : RequestHead → Bool
close_of h = closes_after h.minor (lines h)

pub asks_unique : (input : List ℕ) (r q : HttpRequest) (left other : List ℕ) → Asks input r left → Asks input q other → (r ≡ q) × (left ≡ other)
asks_unique input r q left other a b =
    let u = request_unique input a.head b.head (r.body ++ left) (q.body ++ other) a.begins.reads b.begins.reads in
    let long : length r.body ≡ length q.body = by_body _ _ (sym a.sized ∙ (λ i. says (lines (u.0 i))) ∙ b.sized) in
    let body : r.body ≡ q.body = sym (take_at r.body left (length q.body) long) ∙ ap (λ (l : List ℕ). take (length q.body) l) u.1 ∙ take_at q.body other (length q.body) refl in
    let rest : left ≡ other = sym (drop_at r.body left (length q.body) long) ∙ ap (λ (l : List ℕ). drop (length q.body) l) u.1 ∙ drop_at q.body other (length q.body) refl in
    let method : r.method ≡ q.method = a.method ∙ (λ i. (u.0 i).method) ∙ sym b.method in
    let target : r.target ≡ q.target = a.target ∙ (λ i. (u.0 i).target) ∙ sym b.target in
    let user : r.user ≡ q.user = a.user ∙ ap asker_of u.0 ∙ sym b.user in
    let close : r.close ≡ q.close = a.close ∙ ap close_of u.0 ∙ sym b.close in
    ((λ i. record { method = method i; target = target i; user = user i; close = close i; body = body i }), rest)

-- an input has one list of requests and one ending
pub requests_unique : (input : List ℕ) (rs qs : List HttpRequest) (e f : Ending) → Requests input rs e → Requests input qs f → (rs ≡ qs) × (e ≡ f)
requests_unique input [] [] e f x y = (refl, ending_unique input e f (subst (λ (l : List ℕ). Ends l e) x.1 x.2) (subst (λ (l : List ℕ). Ends l f) y.1 y.2))
requests_unique input [] (q ∷ qs) e f x y = absurd (asks_or_ends input q y.1.0 e y.1.1 (subst (λ (l : List ℕ). Ends l e) x.1 x.2))
requests_unique input (r ∷ rs) [] e f x y = absurd (asks_or_ends input r x.1.0 f x.1.1 (subst (λ (l : List ℕ). Ends l f) y.1 y.2))
requests_unique input (r ∷ rs) (q ∷ qs) e f x y =
    let u = asks_unique input r q x.1.0 y.1.0 x.1.1 y.1.1 in
    let more = requests_unique y.1.0 rs qs e f (x.0, subst (λ (l : List ℕ). Begins l rs x.0) u.1 x.1.2, x.2) (y.0, y.1.2, y.2) in
    ((λ i. u.0 i ∷ more.0 i), more.1)

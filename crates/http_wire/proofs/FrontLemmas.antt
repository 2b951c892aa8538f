-- The front of an input of which the first bytes have come.
use Rattle.std.proofs.Common.{min, ◌≡◌, ◌≤◌, ◌<◌, ◌+◌, ◌-◌, ◌++◌, ℕ, List, [], length, take, sym, ap, ◌∙◌, subst, arith, append_assoc, length-append, ⊎_elim}
use Rattle.std.proofs.lemmas.Bool.{cases_lt}
use Rattle.std.proofs.lemmas.List.{take-append-le, take_all, append-nil, take_min}
use Rattle.std.proofs.Math.Seq.{take-append-add}
use Rattle.std.proofs.Math.Nat.{min_comm}
use Rattle.httparse.specs.Grammar.{NeverHasRequest, HasNoRequest, MayBecomeRequest, EndsInTarget}
use Rattle.http_wire.specs.Limits.{most_head, front}
use Rattle.http_wire.proofs.Late.{late_target}
use Rattle.http_wire.specs.Requests.{IsHeadFault, refused, cut_in_head, IsTooLarge, long_head}

more_of : (n : ℕ) (xs ys : List ℕ) → (q : List ℕ) × (take n (xs ++ ys) ≡ take n xs ++ q)
more_of n xs ys = ⊎_elim
    (λ (short : length xs < n).
    let sum : length xs + (n - length xs) ≡ n = omega (arith, short) in (
      take (n - length xs) ys,
      ap (λ (k : ℕ). take k (xs ++ ys)) (sym sum) ∙ take-append-add xs ys (n - length xs)
          ∙ ap (λ (l : List ℕ). l ++ take (n - length xs) ys) (sym (take_all n xs (omega (arith, short)))),
    ))
    (λ (long : n ≤ length xs). ([], take-append-le n xs ys long ∙ sym (append-nil (take n xs))))
    (cases_lt (length xs) n)

never_more : (p q : List ℕ) → NeverHasRequest p → NeverHasRequest (p ++ q)
never_more p q never more = subst HasNoRequest (sym (append_assoc p q more)) (never (q ++ more))

pub refused_later : (bytes ahead : List ℕ) → NeverHasRequest (front bytes) → ¬ (EndsInTarget (front bytes)) → IsHeadFault (bytes ++ ahead)
refused_later bytes ahead never ends =
    let m = more_of most_head bytes ahead in
    let is : front bytes ++ m.0 ≡ front (bytes ++ ahead) = sym m.1 in
    refused
    (subst NeverHasRequest is (never_more (front bytes) m.0 never))
    (λ e. ends (late_target (front bytes) m.0 never (subst EndsInTarget m.1 e)))

pub long_later : (bytes ahead : List ℕ) → most_head ≤ length bytes → HasNoRequest (front bytes) → MayBecomeRequest (front bytes) → IsTooLarge (bytes ++ ahead)
long_later bytes ahead long none may =
    let is : front bytes ≡ front (bytes ++ ahead) = sym (take-append-le most_head bytes ahead long) in
    long_head (omega (arith, long, length-append bytes ahead)) (subst HasNoRequest is none) (subst MayBecomeRequest is may)

pub cut_short : (bytes ahead : List ℕ) → length bytes < most_head → 0 < length bytes → HasNoRequest (front bytes) → ahead ≡ [] → IsHeadFault (bytes ++ ahead)
cut_short bytes ahead short some none over =
    let all : bytes ≡ bytes ++ ahead = sym (append-nil bytes) ∙ ap (λ (l : List ℕ). bytes ++ l) (sym over) in
    subst IsHeadFault all (cut_in_head some short (subst HasNoRequest (take_all most_head bytes (omega (arith, short))) none))

-- as far as it was looked
pub front_is : (looked n : ℕ) (bytes seen : List ℕ) → looked ≡ min n most_head → n ≡ length seen → seen ≡ bytes → take looked seen ≡ front bytes
front_is looked n bytes seen is long same =
    ap (λ (k : ℕ). take k seen) (is ∙ ap (λ (k : ℕ). min k most_head) long ∙ min_comm (length seen) most_head) ∙ take_min most_head seen ∙ ap (λ (l : List ℕ). take most_head l) same

-- at the end of the input nothing of it is lost
pub all_left : (old ahead new later input : List ℕ) → new ≡ old → ahead ≡ [] → later ≡ [] → old ++ ahead ≡ input → new ++ later ≡ input
all_left old ahead new later input same over done is = (λ i. same i ++ (done ∙ sym over) i) ∙ is

-- Lines of bytes that come in pieces.
use Rattle.std.proofs.Common.{◌≡◌, ◌≢◌, ⊎_elim, ◌≤◌, ◌<◌, ◌+◌, ◌-◌, ◌==◌, Bool, true, false, if◌then◌else◌, nat_lt, ◌++◌, [], ◌∷◌, ℕ, suc, List, None, length, take, get_or, refl, sym, ◌∙◌, ap, arith, append_assoc}
use Rattle.std.proofs.lemmas.Bool.{cases_lt}
use Rattle.std.proofs.lemmas.Bool.Decides.{nat_tests}
use Rattle.std.proofs.lemmas.List.{append-nil, take_all, length-take}
use Rattle.input_lines.specs.Lines.{Line, unless_empty, without_cr, ended_from, open_from, HasNoFeed}

-- a piece and then another
pub ended-append : (longest : ℕ) (begun p q : List ℕ) → ended_from longest begun (p ++ q) ≡ ended_from longest begun p ++ ended_from longest (open_from begun p) q
ended-append longest begun [] q = refl
ended-append longest begun (b ∷ p) q = elim (b == 10) as (λ (v : Bool). (if v then unless_empty longest (without_cr begun) ++ ended_from longest [] (p ++ q) else ended_from longest (begun ++ b ∷ []) (p ++ q)) ≡ (if v then unless_empty longest (without_cr begun) ++ ended_from longest [] p else ended_from longest (begun ++ b ∷ []) p) ++ ended_from longest (if v then open_from [] p else open_from (begun ++ b ∷ []) p) q) [
  | true ↦ ap (λ (l : List Line). unless_empty longest (without_cr begun) ++ l) (ended-append longest [] p q) ∙ sym (append_assoc (unless_empty longest (without_cr begun)) (ended_from longest [] p) (ended_from longest (open_from [] p) q))
  | false ↦ ended-append longest (begun ++ b ∷ []) p q
]

pub open-append : (begun p q : List ℕ) → open_from begun (p ++ q) ≡ open_from (open_from begun p) q
open-append begun [] q = refl
open-append begun (b ∷ p) q = elim (b == 10) as (λ (v : Bool). (if v then open_from [] (p ++ q) else open_from (begun ++ b ∷ []) (p ++ q)) ≡ open_from (if v then open_from [] p else open_from (begun ++ b ∷ []) p) q) [
  | true ↦ open-append [] p q
  | false ↦ open-append (begun ++ b ∷ []) p q
]

not_feed : (b : ℕ) → b ≢ 10 → (b == 10) ≡ false
not_feed b ne = grind (arith, nat_tests)

first_of : (b : ℕ) (p : List ℕ) → HasNoFeed (b ∷ p) → b ≢ 10
first_of b p none = none 0 0 (omega arith)

rest_of : (b : ℕ) (p : List ℕ) → HasNoFeed (b ∷ p) → HasNoFeed p
rest_of b p none = λ k d lt. none (suc k) d (omega (arith, lt))

-- a piece without a line feed
pub ended-no_feed : (longest : ℕ) (begun p : List ℕ) → HasNoFeed p → ended_from longest begun p ≡ []
ended-no_feed longest begun [] none = refl
ended-no_feed longest begun (b ∷ p) none = rw (not_feed b (first_of b p none)) (ended-no_feed longest (begun ++ b ∷ []) p (rest_of b p none))

pub open-no_feed : (begun p : List ℕ) → HasNoFeed p → open_from begun p ≡ begun ++ p
open-no_feed begun [] none = sym (append-nil begun)
open-no_feed begun (b ∷ p) none = rw (not_feed b (first_of b p none)) (open-no_feed (begun ++ b ∷ []) p (rest_of b p none) ∙ append_assoc begun (b ∷ []) p)

-- the next line
pub ended-next : (longest : ℕ) (begun p q : List ℕ) → HasNoFeed p → ended_from longest begun (p ++ 10 ∷ q) ≡ unless_empty longest (without_cr (begun ++ p)) ++ ended_from longest [] q
ended-next longest begun p q none =
    ended-append longest begun p (10 ∷ q)
    ∙ ap (λ (l : List Line). l ++ ended_from longest (open_from begun p) (10 ∷ q)) (ended-no_feed longest begun p none)
    ∙ ap (λ (r : List ℕ). ended_from longest r (10 ∷ q)) (open-no_feed begun p none)

pub open-next : (begun p q : List ℕ) → HasNoFeed p → open_from begun (p ++ 10 ∷ q) ≡ open_from [] q
open-next begun p q none = open-append begun p (10 ∷ q)

-- a line that is too long is shown as any other
pub too_long : (longest : ℕ) (line : List ℕ) → longest < length line → unless_empty longest line ≡ None ∷ []
too_long longest line long =
    let some : (length line == 0) ≡ false = grind (arith, nat_tests) in
    let more : nat_lt longest (length line) ≡ true = grind (arith, nat_tests) in
    rw (some, more) refl

pub without_cr-length : (line : List ℕ) → length line ≤ length (without_cr line) + 1
without_cr-length line = elim (get_or line (length line - 1) 0 == 13) as (λ (v : Bool). length line ≤ length (if v then take (length line - 1) line else line) + 1) [
  | true ↦ omega (arith, length-take (length line - 1) line)
  | false ↦ omega arith
]

pub kept_ended : (longest : ℕ) (line : List ℕ) → unless_empty longest (without_cr (take (longest + 2) line)) ≡ unless_empty longest (without_cr line)
kept_ended longest line = ⊎_elim
    (λ (long : longest + 2 < length line).
    too_long longest (without_cr (take (longest + 2) line)) (omega (arith, without_cr-length (take (longest + 2) line), length-take (longest + 2) line, long))
    ∙ sym (too_long longest (without_cr line) (omega (arith, without_cr-length line, long))))
    (λ (short : length line ≤ longest + 2). ap (λ (l : List ℕ). unless_empty longest (without_cr l)) (take_all (longest + 2) line short))
    (cases_lt (longest + 2) (length line))

pub kept_last : (longest : ℕ) (line : List ℕ) → unless_empty longest (take (longest + 2) line) ≡ unless_empty longest line
kept_last longest line = ⊎_elim
    (λ (long : longest + 2 < length line).
    too_long longest (take (longest + 2) line) (omega (arith, length-take (longest + 2) line, long))
    ∙ sym (too_long longest line (omega (arith, long))))
    (λ (short : length line ≤ longest + 2). ap (λ (l : List ℕ). unless_empty longest l) (take_all (longest + 2) line short))
    (cases_lt (longest + 2) (length line))

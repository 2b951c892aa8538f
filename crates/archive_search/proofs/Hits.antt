-- What is found among the first publications.
use Rattle.std.proofs.Common.{◌≡◌, ℕ, ◌+◌, ◌-◌, ◌<◌, ◌≤◌, Bool, true, false, List, [], ◌∷◌, ◌++◌, length, take, map, Option, Some, None, refl, sym, ap, subst, ◌∙◌, arith, length-append}
use Rattle.std.specs.Prelude.{◌==◌, if◌then◌else◌, filter, reverse}
use Rattle.std.proofs.lemmas.Bool.{eqb-true, eq-eqb}
use mathlib.Core.Bool.{true≢false}
use Rattle.std.proofs.lemmas.List.{reverse-append, take-append-le, map-append, length-reverse}
use Rattle.std.proofs.lemmas.List.Elements.{filter-append}
use Rattle.std.proofs.Math.Seq.{take-append_seam, take-length}
use Rattle.news_types.specs.Due.{Pub, shown}
use Rattle.news_types.specs.Answers.{publication_at}
use Rattle.news_types.proofs.Numbering.{CountsDown}
use Rattle.news_types.proofs.Members.{some_is}
use Rattle.archive_query.specs.Query.{Query, meaning}
use Rattle.archive_search.specs.Pages.{hits_at}

-- the numbers of those of these publications of which the query is true
abbrev pub hits_in : Query → List Pub → List ℕ
hits_in q ps = map (λ (p : Pub). p.number) (filter (λ (p : Pub). meaning q (shown p)) ps)

-- the publication of that number, which follows those of smaller numbers
pub record IsNumbered (ps : List Pub) (n : ℕ) : Type 0 where
  pub at : Pub
  pub found : publication_at n ps ≡ Some at
  pub number_is : at.number ≡ n
  pub follows : take n (reverse ps) ≡ take (n - 1) (reverse ps) ++ at ∷ []

reverse_cons : (p : Pub) (ps : List Pub) → reverse (p ∷ ps) ≡ reverse ps ++ p ∷ []
reverse_cons p ps = reverse-append (p ∷ []) ps

last_numbered : (p : Pub) (ps : List Pub) (n : ℕ) → n ≡ length ps + 1 → take n (reverse (p ∷ ps)) ≡ take (n - 1) (reverse (p ∷ ps)) ++ p ∷ []
last_numbered p ps n is =
    let before : n - 1 ≡ length (reverse ps) = omega (arith, length-reverse ps) in
    let whole : n ≡ length (reverse ps ++ p ∷ []) = omega (arith, length-reverse ps, length-append (reverse ps) (p ∷ [])) in
    ap (take n) (reverse_cons p ps) ∙ ap (λ (k : ℕ). take k (reverse ps ++ p ∷ [])) whole ∙ take-length (reverse ps ++ p ∷ [])
    ∙ ap (λ (l : List Pub). l ++ p ∷ []) (sym (ap (take (n - 1)) (reverse_cons p ps) ∙ ap (λ (k : ℕ). take k (reverse ps ++ p ∷ [])) before ∙ take-append_seam (reverse ps) (p ∷ [])))

older_numbered : (p q : Pub) (ps : List Pub) (n : ℕ) → n ≤ length ps → take n (reverse ps) ≡ take (n - 1) (reverse ps) ++ q ∷ [] → take n (reverse (p ∷ ps)) ≡ take (n - 1) (reverse (p ∷ ps)) ++ q ∷ []
older_numbered p q ps n fits h =
    ap (take n) (reverse_cons p ps) ∙ take-append-le n (reverse ps) (p ∷ []) (omega (arith, length-reverse ps)) ∙ h
    ∙ ap (λ (l : List Pub). l ++ q ∷ []) (sym (ap (take (n - 1)) (reverse_cons p ps) ∙ take-append-le (n - 1) (reverse ps) (p ∷ []) (omega (arith, length-reverse ps))))

pub numbered : (ps : List Pub) (n : ℕ) → CountsDown ps → 0 < n → n ≤ length ps → IsNumbered ps n
numbered [] n down above fits = absurd (omega arith)
numbered (p ∷ ps) n down above fits =
    elim (p.number == n) as (λ v. (p.number == n) ≡ v → IsNumbered (p ∷ ps) n) [
      | true ↦ λ same.
          let is = eqb-true p.number n same in
          record { at = p; found = ap (λ (b : Bool). if b then Some p else publication_at n ps) same; number_is = is; follows = last_numbered p ps n (omega (arith, down.0)) }
      | false ↦ λ other.
          let off : p.number ≡ n → ⊥ = λ e. true≢false (sym (eq-eqb p.number n e) ∙ other) in
          let before : n ≤ length ps = omega (arith, off, down.0) in
          let rec = numbered ps n down.1 above before in
          record { at = rec.at; found = ap (λ (b : Bool). if b then Some p else publication_at n ps) other ∙ rec.found; number_is = rec.number_is; follows = older_numbered p rec.at ps n before rec.follows }
    ] refl

hits_one : (q : Query) (p : Pub) → hits_in q (p ∷ []) ≡ hits_at q (Some p)
hits_one q p =
    elim (meaning q (shown p)) as (λ v. meaning q (shown p) ≡ v → hits_in q (p ∷ []) ≡ hits_at q (Some p)) [
      | true ↦ λ is. rw is refl
      | false ↦ λ is. rw is refl
    ] refl

-- what is found with one publication more
pub hits_step : (q : Query) (ps : List Pub) (n : ℕ) → CountsDown ps → n < length ps → hits_in q (take (n + 1) (reverse ps)) ≡ hits_in q (take n (reverse ps)) ++ hits_at q (publication_at (n + 1) ps)
hits_step q ps n down fits =
    let there = numbered ps (n + 1) down (omega arith) (omega arith) in
    let before : n + 1 - 1 ≡ n = omega arith in
    ap (hits_in q) (there.follows ∙ ap (λ (k : ℕ). take k (reverse ps) ++ there.at ∷ []) before)
    ∙ ap (map (λ (p : Pub). p.number)) (filter-append (λ (p : Pub). meaning q (shown p)) (take n (reverse ps)) (there.at ∷ []))
    ∙ map-append (λ (p : Pub). p.number) (filter (λ (p : Pub). meaning q (shown p)) (take n (reverse ps))) (filter (λ (p : Pub). meaning q (shown p)) (there.at ∷ []))
    ∙ ap (λ (l : List ℕ). hits_in q (take n (reverse ps)) ++ l) (hits_one q there.at ∙ ap (hits_at q) (sym there.found))

-- and with all of them
pub hits_all : (q : Query) (ps : List Pub) (n : ℕ) → n ≡ length ps → hits_in q (take n (reverse ps)) ≡ hits_in q (reverse ps)
hits_all q ps n is = ap (λ (k : ℕ). hits_in q (take k (reverse ps))) (is ∙ sym (length-reverse ps)) ∙ ap (hits_in q) (take-length (reverse ps))

-- a publication that is found by its number has it
pub found_number : (n : ℕ) (ps : List Pub) (p : Pub) → publication_at n ps ≡ Some p → p.number ≡ n
found_number n [] p is = absurd cc
found_number n (q ∷ ps) p is =
    elim (q.number == n) as (λ v. (q.number == n) ≡ v → (if v then Some q else publication_at n ps) ≡ Some p → p.number ≡ n) [
      | true ↦ λ same this. ap (λ (x : Pub). x.number) (sym (some_is q p this)) ∙ eqb-true q.number n same
      | false ↦ λ other that. found_number n ps p that
    ] refl is

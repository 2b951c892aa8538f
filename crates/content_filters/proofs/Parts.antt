-- What a search for a part says.
use Rattle.std.proofs.Common.{◌≡◌, ℕ, zero, suc, ◌≤◌, Bool, true, false, ◌||◌, [], ◌∷◌, Option, Some, None, length, take, drop, refl, sym, ap, ◌∙◌, arith, length-drop, min}
use Rattle.std.proofs.lemmas.List.{length-take}
use Rattle.std.proofs.Common.{is_some}
use Rattle.std.specs.List.{starts_with}
use Rattle.std.specs.Prelude.{nat_eq}
use Rattle.std.specs.Cmp.Lexicographic.{bytes_decides}
use Rattle.memchr.specs.Find.{OccursAt, FindsNeedle}
use Rattle.memchr.proofs.lemmas.MatchLemmas.{OccursAt-part, OccursAt-from_part}
use Rattle.news_types.specs.Names.{Bytes}
use Rattle.news_types.specs.Conditions.{has_part}

-- the text begins with the part
begins : (text part : Bytes) → take (length part) text ≡ part → starts_with nat_eq text part ≡ true
begins text part e = (bytes_decides part (take (length part) text)).1 (sym e)

begun : (text part : Bytes) → starts_with nat_eq text part ≡ true → take (length part) text ≡ part
begun text part holds = sym ((bytes_decides part (take (length part) text)).0 holds)

or_true : (a b : Bool) → b ≡ true → (a || b) ≡ true
or_true true b holds = refl
or_true false b holds = holds

true_or : (a b : Bool) → a ≡ true → (a || b) ≡ true
true_or a b holds = rw holds refl

-- a part that stands at some place is in the text
has_part_at : (text part : Bytes) (k : ℕ) → take (length part) (drop k text) ≡ part → has_part text part ≡ true
has_part_at [] part zero e = begins [] part e
has_part_at [] part (suc k) e = begins [] part e
has_part_at (b ∷ text) part zero e = true_or (starts_with nat_eq (b ∷ text) part) (has_part text part) (begins (b ∷ text) part e)
has_part_at (b ∷ text) part (suc k) e = or_true (starts_with nat_eq (b ∷ text) part) (has_part text part) (has_part_at text part k e)

-- a part that is in the text stands at some place
place_of_part : (text part : Bytes) → has_part text part ≡ true → (k : ℕ) × (k ≤ length text) × (take (length part) (drop k text) ≡ part)
place_of_part [] part holds = (0, omega arith, begun [] part holds)
place_of_part (b ∷ text) part holds =
    elim (starts_with nat_eq (b ∷ text) part) as (λ v. starts_with nat_eq (b ∷ text) part ≡ v → (v || has_part text part) ≡ true → (k : ℕ) × (k ≤ suc (length text)) × (take (length part) (drop k (b ∷ text)) ≡ part)) [
      | true ↦ λ here some. (0, omega arith, begun (b ∷ text) part here)
      | false ↦ λ here some. let later = place_of_part text part some in (suc later.0, omega (arith, later.1), later.2)
    ] refl holds

fits_there : (text part : Bytes) (k : ℕ) → k ≤ length text → take (length part) (drop k text) ≡ part → OccursAt text part k
fits_there text part k within e = OccursAt-from_part text part k (let long : min (length part) (length (drop k text)) ≡ length part = sym (length-take (length part) (drop k text)) ∙ ap length e in omega (arith, length-drop k text)) e

-- the search found one exactly where there is one
pub finds_part : (text part : Bytes) (r : Option ℕ) → FindsNeedle text part 0 r → is_some r ≡ has_part text part
finds_part text part None nowhere =
    elim (has_part text part) as (λ v. has_part text part ≡ v → false ≡ v) [
      | true ↦ λ holds. let p = place_of_part text part holds in absurd (nowhere p.0 (omega arith) (omega (arith, p.1)) (fits_there text part p.0 p.1 p.2))
      | false ↦ λ fails. refl
    ] refl
finds_part text part (Some k) found = sym (has_part_at text part k (OccursAt-part text part k found.1))

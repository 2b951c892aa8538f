-- What providers call the items of a list.
use Rattle.std.proofs.Common.{◌≡◌, ℕ, zero, suc, ◌+◌, ◌-◌, ◌<◌, ◌==◌, ◌&&◌, Bool, true, false, cond, List, [], ◌∷◌, ◌++◌, length, Option, Some, None, refl, sym, ap, ◌∙◌, arith}
use Rattle.std.specs.Prelude.{unwrap_or}
use Rattle.std.proofs.lemmas.Bool.{false≢true}
use Rattle.std.proofs.lemmas.Bool.Decides.{nat_tests}
use Rattle.std.specs.List.{slice_get}
use Rattle.news_types.specs.Names.{Bytes, same}
use Rattle.news_types.specs.Items.{Item, item_numbered, changed_at, changed, is_from, known_from, known}
use Rattle.news_types.proofs.Members.{same_is}
use Rattle.item_table.specs.declared.identity.Identity.{Identity}
use Rattle.item_table.specs.Identities.{same_identity, identity_of}
use Rattle.item_table.specs.Steps.{IsCalled}

module _ (p t : Bytes) where
  -- an item that is changed is called what it was
  known_changed_at : (change : Item → Item) (n k : ℕ) (xs : List Item) → ((it : Item) → slice_get xs k ≡ Some it → is_from p t (change it).origin ≡ is_from p t it.origin) → known_from n p t (changed_at k change xs) ≡ known_from n p t xs
  known_changed_at change n k [] alike = refl
  known_changed_at change n zero (x ∷ xs) alike = rw (alike x refl) refl
  known_changed_at change n (suc k) (x ∷ xs) alike = ap (λ r. cond (is_from p t x.origin) n r) (known_changed_at change (n + 1) k xs alike)

  pub known_changed : (change : Item → Item) (i : ℕ) (xs : List Item) → ((it : Item) → item_numbered xs i ≡ Some it → is_from p t (change it).origin ≡ is_from p t it.origin) → known p t (changed i change xs) ≡ known p t xs
  known_changed change zero xs alike = refl
  known_changed change (suc i) xs alike =
      let no : (suc i == 0) ≡ false = grind (arith, nat_tests) in
      let less : suc i - 1 ≡ i = omega arith in
      rw (no, less) (known_changed_at change 1 i xs (λ it is. alike it (rw (no, less) is)))

  -- a new item that is not called so
  known_more : (x : Item) (n : ℕ) (xs : List Item) → is_from p t x.origin ≡ false → known_from n p t (xs ++ x ∷ []) ≡ known_from n p t xs
  known_more x n [] other = rw other refl
  known_more x n (y ∷ xs) other = ap (λ r. cond (is_from p t y.origin) n r) (known_more x (n + 1) xs other)

  -- a new item that is called so, where none was
  known_new : (x : Item) (n : ℕ) (xs : List Item) → 0 < n → is_from p t x.origin ≡ true → known_from n p t xs ≡ 0 → known_from n p t (xs ++ x ∷ []) ≡ n + length xs
  known_new x n [] some is none = rw is (omega arith)
  known_new x n (y ∷ xs) some is none =
      elim (is_from p t y.origin) as (λ b. cond b n (known_from (n + 1) p t xs) ≡ 0 → cond b n (known_from (n + 1) p t (xs ++ x ∷ [])) ≡ n + length (y ∷ xs)) [
        | true ↦ λ zero. absurd (omega (arith, zero, some))
        | false ↦ λ zero. let rest = known_new x (n + 1) xs (omega arith) is zero in omega (arith, rest)
      ] none

both : (a b : Bool) → (a && b) ≡ true → (a ≡ true) × (b ≡ true)
both true b is = (refl, is)
both false b is = absurd (false≢true is)

-- the number of what a provider calls an item, with one more item
pub called_new : (key : Identity) (it : Item) (xs : List Item) (n : ℕ) (p t : Bytes) (before : Option ℕ) → n ≡ 1 + length xs → IsCalled (Some key) it xs → unwrap_or before 0 ≡ known p t xs
    → unwrap_or (cond (same_identity key (identity_of p t)) (Some n) before) 0 ≡ known p t (xs ++ it ∷ [])
called_new key it xs n p t before counted called is =
    elim (same_identity key (identity_of p t)) as (λ b. same_identity key (identity_of p t) ≡ b → unwrap_or (cond b (Some n) before) 0 ≡ known p t (xs ++ it ∷ [])) [
      | true ↦ λ so.
          let parts = both _ _ so in
          let provider : key.provider ≡ p = same_is key.provider p parts.0 in
          let text : key.text ≡ t = same_is key.text t parts.1 in
          let none : known p t xs ≡ 0 = rw (← provider, ← text) called.1 in
          counted ∙ sym (known_new p t it 1 xs (omega arith) (called.0 p t ∙ so) none)
      | false ↦ λ other. is ∙ sym (known_more p t it 1 xs (called.0 p t ∙ other))
    ] refl

pub called_none : (key : Option Identity) (it : Item) (xs : List Item) (p t : Bytes) → ((k : Identity) → key ≡ Some k → ⊥) → IsCalled key it xs → known p t (xs ++ it ∷ []) ≡ known p t xs
called_none (Some k) it xs p t none called = absurd (none k refl)
called_none None it xs p t none called = known_more p t it 1 xs (called p t)

-- the item that has the number
found_at : (p t : Bytes) (n : ℕ) (xs : List Item) → 0 < n → (known_from n p t xs ≡ 0 → ⊥)
    → (k : ℕ) × (it : Item) × (known_from n p t xs ≡ n + k) × (slice_get xs k ≡ Some it) × (is_from p t it.origin ≡ true)
found_at p t n [] some there = absurd (there refl)
found_at p t n (x ∷ xs) some there =
    elim (is_from p t x.origin) as (λ b. is_from p t x.origin ≡ b → (cond b n (known_from (n + 1) p t xs) ≡ 0 → ⊥)
    → (k : ℕ) × (it : Item) × (cond b n (known_from (n + 1) p t xs) ≡ n + k) × (slice_get (x ∷ xs) k ≡ Some it) × (is_from p t it.origin ≡ true)) [
      | true ↦ λ is some_there. (0, x, omega arith, refl, is)
      | false ↦ λ isnt rest_there. let rest = found_at p t (n + 1) xs (omega arith) rest_there in (suc rest.0, rest.1, omega (arith, rest.2), rest.3, rest.4)
    ] refl there

pub found : (p t : Bytes) (xs : List Item) → (known p t xs ≡ 0 → ⊥) → (it : Item) × (item_numbered xs (known p t xs) ≡ Some it) × (is_from p t it.origin ≡ true)
found p t xs there =
    let at = found_at p t 1 xs (omega arith) there in
    let no : (known p t xs == 0) ≡ false = grind (arith, nat_tests) in
    let less : known p t xs - 1 ≡ at.0 = omega (arith, at.2) in
    (at.1, rw (no, less) at.3, at.4)

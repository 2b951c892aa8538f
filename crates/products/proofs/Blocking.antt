-- What holds of a global block holds of the filter of that name.
use Rattle.std.proofs.Common.{◌≡◌, Bool, true, false, not, ◌&&◌, ◌||◌, cond, List, [], ◌∷◌, refl, sym, ap, ◌∙◌}
use Rattle.std.proofs.lemmas.Bool.{false≢true}
use Rattle.std.specs.List.{list_any, filter}
use Rattle.news_types.proofs.Members.{same_is, same_self}
use Rattle.news_types.specs.Names.{Bytes, same, is_in}
use Rattle.news_types.specs.declared.story.Story.{Story}
use Rattle.news_types.specs.History.{History}
use Rattle.news_types.specs.Filters.{Filter, filters, matches}
use Rattle.products.specs.Asked.{AreBlocking}
use Rattle.content_filters.specs.Kept.{is_block, AreBlocks}

alike : (a b : Bool) → (a ≡ true → b ≡ true) → (b ≡ true → a ≡ true) → a ≡ b
alike true b one two = sym (one refl)
alike false true one two = two refl
alike false false one two = refl

both : (a b : Bool) → (a && b) ≡ true → (a ≡ true) × (b ≡ true)
both true b is = (refl, is)
both false b is = absurd (false≢true is)

pub and_assoc : (a b c : Bool) → (a && b && c) ≡ (a && (b && c))
and_assoc true b c = refl
and_assoc false b c = refl

and_true : (a : Bool) → (a && true) ≡ a
and_true true = refl
and_true false = refl

and_false : (a : Bool) → (a && false) ≡ false
and_false true = refl
and_false false = refl

pub any_alike : {A : Type 0} (p q : A → Bool) (xs : List A) → ((x : A) → p x ≡ q x) → list_any p xs ≡ list_any q xs
any_alike p q [] is = refl
any_alike p q (x ∷ xs) is = rw (is x, any_alike p q xs is) refl

module _ (p : Bytes → Bool) where
  named_some : (names : List Bytes) → list_any p names ≡ true → (x : Bytes) × (is_in x names ≡ true) × (p x ≡ true)
  named_some [] is = absurd (false≢true is)
  named_some (y ∷ names) is =
      elim (p y) as (λ b. p y ≡ b → (b || list_any p names) ≡ true → (x : Bytes) × (is_in x (y ∷ names) ≡ true) × (p x ≡ true)) [
        | true ↦ λ holds some. (y, ap (λ b. b || is_in y names) (same_self y), holds)
        | false ↦ λ fails some.
            let rest = named_some names some in
            (rest.0, later (same rest.0 y) (is_in rest.0 names) rest.1, rest.2)
      ] refl is
    where
      later : (a b : Bool) → b ≡ true → (a || b) ≡ true
      later true b is = refl
      later false b is = is

  named_any : (names : List Bytes) (x : Bytes) → is_in x names ≡ true → p x ≡ true → list_any p names ≡ true
  named_any [] x is holds = absurd (false≢true is)
  named_any (y ∷ names) x is holds =
      elim (same x y) as (λ b. same x y ≡ b → (b || is_in x names) ≡ true → (p y || list_any p names) ≡ true) [
        | true ↦ λ here some. let e : x ≡ y = same_is x y here in rw (← e, holds) refl
        | false ↦ λ isnt some. later (p y) (list_any p names) (named_any names x some holds)
      ] refl is
    where
      later : (a b : Bool) → b ≡ true → (a || b) ≡ true
      later true b is = refl
      later false b is = is

  block_any : (fs : List Filter) (x : Bytes) → is_block fs x ≡ true → p x ≡ true → list_any (λ (f : Filter). f.blocks && p f.name) fs ≡ true
  block_any [] x is holds = absurd (false≢true is)
  block_any (f ∷ fs) x is holds =
      elim (same f.name x && f.blocks) as (λ b. (same f.name x && f.blocks) ≡ b → (b || is_block fs x) ≡ true → (f.blocks && p f.name || list_any (λ (g : Filter). g.blocks && p g.name) fs) ≡ true) [
        | true ↦ λ here some.
            let parts = both (same f.name x) f.blocks here in
            let e : f.name ≡ x = same_is f.name x parts.0 in
            rw (parts.1, e, holds) refl
        | false ↦ λ isnt some. later (f.blocks && p f.name) (list_any (λ (g : Filter). g.blocks && p g.name) fs) (block_any fs x some holds)
      ] refl is
    where
      later : (a b : Bool) → b ≡ true → (a || b) ≡ true
      later true b is = refl
      later false b is = is

  block_some : (fs : List Filter) → list_any (λ (f : Filter). f.blocks && p f.name) fs ≡ true → (x : Bytes) × (is_block fs x ≡ true) × (p x ≡ true)
  block_some [] is = absurd (false≢true is)
  block_some (f ∷ fs) is =
      elim (f.blocks && p f.name) as (λ b. (f.blocks && p f.name) ≡ b → (b || list_any (λ (g : Filter). g.blocks && p g.name) fs) ≡ true → (x : Bytes) × (is_block (f ∷ fs) x ≡ true) × (p x ≡ true)) [
        | true ↦ λ here some.
            let parts = both f.blocks (p f.name) here in
            (f.name, rw (same_self f.name, parts.0) refl, parts.1)
        | false ↦ λ isnt some.
            let rest = block_some fs some in
            (rest.0, later (same f.name rest.0 && f.blocks) (is_block fs rest.0) rest.1, rest.2)
      ] refl is
    where
      later : (a b : Bool) → b ≡ true → (a || b) ≡ true
      later true b is = refl
      later false b is = is

  -- it holds of a global block
  pub any_block : (fs : List Filter) (names : List Bytes) → AreBlocks fs names → list_any p names ≡ list_any (λ (f : Filter). f.blocks && p f.name) fs
  any_block fs names are =
      alike (list_any p names) (list_any (λ (f : Filter). f.blocks && p f.name) fs)
      (λ is. let some = named_some names is in block_any fs some.0 (sym (are.each some.0) ∙ some.1) some.2)
      (λ is. let some = block_some fs is in named_any names some.0 (are.each some.0 ∙ some.1) some.2)

any_filtered : (p q : Bytes → Bool) (names : List Bytes) → list_any p (filter q names) ≡ list_any (λ name. p name && q name) names
any_filtered p q [] = refl
any_filtered p q (name ∷ names) =
    elim (q name) as (λ b. list_any p (cond b (name ∷ filter q names) (filter q names)) ≡ ((p name && b) || list_any (λ other. p other && q other) names)) [
      | true ↦ rw (and_true (p name), any_filtered p q names) refl
      | false ↦ rw (and_false (p name), any_filtered p q names) refl
    ]

-- those of the global blocks that match
pub are_blocking : (h : History) (story : Story) (blocks names : List Bytes) → AreBlocks (filters h) blocks → names ≡ filter (λ name. matches h name story) blocks → AreBlocking names h story
are_blocking h story blocks names are is off =
    let p : Bytes → Bool = λ name. not (is_in name off) in
    let q : Bytes → Bool = λ name. matches h name story in
    ap (list_any p) is
    ∙ any_filtered p q blocks
    ∙ any_block (λ name. p name && q name) (filters h) blocks are
    ∙ any_alike _ _ (filters h) (λ f. sym (and_assoc f.blocks (not (is_in f.name off)) (matches h f.name story)))

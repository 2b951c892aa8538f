-- A story is permitted where the verdict says so, and the cause that it gives is one.
use Rattle.std.proofs.Common.{◌≡◌, Bool, true, false, not, ◌&&◌, ◌||◌, cond, Option, Some, None, List, [], ◌∷◌, refl, sym, ap, subst, ◌∙◌}
use Rattle.std.specs.Prelude.{is_some, option_map}
use Rattle.std.specs.List.{find, list_any}
use mathlib.Core.Bool.{true≢false}
use Rattle.news_types.specs.declared.story.Story.{Story}
use Rattle.news_types.specs.declared.words.How.{How}
use Rattle.news_types.specs.declared.words.How.TheVariants.{Permitting, Blocking}
use Rattle.news_types.specs.Names.{Bytes}
use Rattle.news_types.specs.History.{History}
use Rattle.news_types.specs.Members.{Each}
use Rattle.news_types.specs.Filters.{Filter, filters, matches}
use Rattle.news_types.specs.Products.{Subscriber, subscriber, product_permits, permits, is_target, is_blocked, permitted_if_there}
use Rattle.feed_reasons.specs.declared.verdict.Verdict.TheVariants.{Inactive, NotTarget}
use Rattle.feed_reasons.specs.Verdicts.{passes, stops, block, by_products, by_blocks, by_subscriber, says_permitted}
use Rattle.feed_reasons.specs.Laws.{PermittedIsSaid, IsFirst, blocks_by, IsRefused, IsTrueVerdict, VerdictsAreTrue}

-- ---- the first that passes

any_found : {A : Type 0} (t : A → Bool) (xs : List A) → list_any t xs ≡ is_some (find t xs)
any_found t [] = refl
any_found t (x ∷ xs) = by (t x) (any_found t xs)
  where
    by : (b : Bool) → list_any t xs ≡ is_some (find t xs) → (b || list_any t xs) ≡ is_some (cond b (Some x) (find t xs))
    by true rest = refl
    by false rest = rest

mapped : {A B : Type 0} (f : A → B) (o : Option A) → is_some o ≡ is_some (option_map f o)
mapped f None = refl
mapped f (Some x) = refl

some_of : {A : Type 0} (x y : A) → Some x ≡ Some y → x ≡ y
some_of x y same = cc

-- what was found is the first of them that passes
pub found_is : {A : Type 0} (t : A → Bool) (xs : List A) (x : A) → find t xs ≡ Some x → IsFirst t xs x
found_is t [] x is = absurd (cc (is))
found_is t (y ∷ xs) x is = by (t y) refl is (λ later. found_is t xs x later)
  where
    by : (b : Bool) → t y ≡ b → cond b (Some y) (find t xs) ≡ Some x → (find t xs ≡ Some x → IsFirst t xs x) → IsFirst t (y ∷ xs) x
    by true passes found later = (subst (λ z. t z ≡ true) (some_of y x found) passes, [], xs, ap (λ z. z ∷ xs) (some_of y x found), tt)
    by false fails found later =
        let rest = later found in
        (rest.0, y ∷ rest.1, rest.2, ap (λ zs. y ∷ zs) rest.3, (fails, rest.4))

-- where none was found, none passes
none_passes : {A : Type 0} (t : A → Bool) (xs : List A) → find t xs ≡ None → Each (λ x. t x ≡ false) xs
none_passes t [] is = tt
none_passes t (y ∷ xs) is = by (t y) refl is (λ later. none_passes t xs later)
  where
    by : (b : Bool) → t y ≡ b → cond b (Some y) (find t xs) ≡ None → (find t xs ≡ None → Each (λ x. t x ≡ false) xs) → (t y ≡ false) × Each (λ x. t x ≡ false) xs
    by true passes found later = absurd (cc (found))
    by false fails found later = (fails, later found)

-- ---- permission

module _ (h : History) (story : Story) (targets : List Bytes) (s : Bytes) where
  products_say : (names : List Bytes) (o : Option Bytes) → says_permitted (by_products h story names o) ≡ is_some o
  products_say names None = refl
  products_say names (Some name) = refl

  blocks_say : (names : List Bytes) (o : Option Bytes) → says_permitted (by_blocks h story names o) ≡ (not (is_some o) && list_any (passes h story) names)
  blocks_say names (Some name) = refl
  blocks_say names None = products_say names (find (passes h story) names) ∙ sym (any_found (passes h story) names)

  blocked_is : (off : List Bytes) → is_blocked h story off ≡ is_some (block h story off)
  blocked_is off = any_found (stops h story off) (filters h) ∙ mapped (λ (f : Filter). f.name) (find (stops h story off) (filters h))

  rest_says : (it : Subscriber) → (not (is_blocked h story it.off) && list_any (passes h story) it.products) ≡ says_permitted (by_blocks h story it.products (block h story it.off))
  rest_says it = ap (λ (b : Bool). not b && list_any (passes h story) it.products) (blocked_is it.off) ∙ sym (blocks_say it.products (block h story it.off))

  said_by : (o : Option Subscriber) → permitted_if_there h story targets s o ≡ says_permitted (by_subscriber h story targets s o)
  said_by None = refl
  said_by (Some it) = by it.active (is_target s targets)
    where
      by : (active target : Bool) → (((active && target) && not (is_blocked h story it.off)) && list_any (passes h story) it.products)
          ≡ says_permitted (cond active (cond target (by_blocks h story it.products (block h story it.off)) NotTarget) Inactive)
      by true true = rest_says it
      by true false = refl
      by false target = refl

pub permitted_is_said : PermittedIsSaid
permitted_is_said h story targets s = said_by h story targets s (subscriber h s)

-- ---- causes

module _ (h : History) (story : Story) where
  refused_by : (how : How) (filter : Option Bytes) → permits h story (record { how = how; filter = filter }) ≡ false → (name : Bytes) × (filter ≡ Some name) × (matches h name story ≡ blocks_by how)
  refused_by how None is = absurd (true≢false is)
  refused_by Permitting (Some name) is = (name, refl, is)
  refused_by Blocking (Some name) is = (name, refl, turned (matches h name story) is)
    where
      turned : (b : Bool) → not b ≡ false → b ≡ true
      turned true is = refl
      turned false is = sym is

  is_refused : (name : Bytes) → passes h story name ≡ false → IsRefused h story name
  is_refused name fails = record { fails = fails; why = λ p is. refused_by p.how p.filter (ap (product_permits h story) (sym is) ∙ fails) }

  each_refused : (names : List Bytes) → Each (λ name. passes h story name ≡ false) names → Each (IsRefused h story) names
  each_refused [] each = tt
  each_refused (name ∷ names) each = (is_refused name each.0, each_refused names each.1)

module _ (h : History) (story : Story) (targets : List Bytes) (s : Bytes) (it : Subscriber) (is : subscriber h s ≡ Some it) where
  products_true : (o : Option Bytes) → find (passes h story) it.products ≡ o → IsTrueVerdict h story targets s (by_products h story it.products o)
  products_true (Some name) found = (it, is, found_is (passes h story) it.products name found)
  products_true None found = (it, is, (refl, each_refused h story it.products (none_passes (passes h story) it.products found)))

  blocks_true : it.active ≡ true → is_target s targets ≡ true → (o : Option Filter) → find (stops h story it.off) (filters h) ≡ o
      → IsTrueVerdict h story targets s (by_blocks h story it.products (option_map (λ (f : Filter). f.name) o))
  blocks_true active target (Some f) found = (it, is, (active, target, f, refl, found_is (stops h story it.off) (filters h) f found))
  blocks_true active target None found = products_true (find (passes h story) it.products) refl

  there_true : (active target : Bool) → it.active ≡ active → is_target s targets ≡ target
      → IsTrueVerdict h story targets s (cond active (cond target (by_blocks h story it.products (block h story it.off)) NotTarget) Inactive)
  there_true true true active target = blocks_true active target (find (stops h story it.off) (filters h)) refl
  there_true true false active target = (it, is, (active, target))
  there_true false target active other = (it, is, active)

pub verdicts_are_true : VerdictsAreTrue
verdicts_are_true h story targets s = by (subscriber h s) refl
  where
    by : (o : Option Subscriber) → subscriber h s ≡ o → IsTrueVerdict h story targets s (by_subscriber h story targets s o)
    by None is = is
    by (Some it) is = there_true h story targets s it is it.active (is_target s targets) refl refl

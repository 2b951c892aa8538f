-- Those to whom something is due have one release each.
use Rattle.std.proofs.Common.{◌≡◌, ℕ, Bool, true, false, cond, ◌||◌, List, [], ◌∷◌, Some, None, refl, sym, ap, ◌∙◌}
use mathlib.Core.Bool.{true≢false}
use Rattle.std.specs.List.{list_any}
use Rattle.std.specs.Cmp.Lexicographic.{nat_list_eq_equiv}
use Rattle.news_types.specs.declared.query.Due.{Due}
use Rattle.news_types.specs.Names.{Bytes, same, is_in}
use Rattle.news_types.specs.Members.{Each}
use Rattle.news_types.specs.Due.{release_to}
use Rattle.news_types.proofs.Members.{same_is, same_self, some_is, none_some}
use Rattle.publish_queue.specs.Order.{Differ}
use Rattle.publish_queue.specs.Many.{names_in}
use Rattle.publish_queue.specs.Keeps.{Agree}
use Rattle.publish_queue.proofs.SomeOf.{both_ways, or_left, or_right, from_any}

-- each of these is the release of its subscriber
abbrev pub Listed : List Due → List Due → Type 0
Listed all due = Each (λ (d : Due). release_to d.subscriber all ≡ Some d.release) due

agreed : (f : Bytes → ℕ) (d : Due) (ds es : List Due) → d.release ≡ f d.subscriber → Each (λ (e : Due). e.release ≡ f e.subscriber) es → Listed ds es → Listed (d ∷ ds) es
agreed f d ds [] here all listed = tt
agreed f d ds (e ∷ es) here all listed = (by (same e.subscriber d.subscriber) refl, agreed f d ds es here all.1 listed.1)
  where
    by : (b : Bool) → same e.subscriber d.subscriber ≡ b → cond b (Some d.release) (release_to e.subscriber ds) ≡ Some e.release
    by true is = ap Some (here ∙ ap f (sym (same_is e.subscriber d.subscriber is)) ∙ sym all.0)
    by false is = listed.0

first_listed : (d : Due) (ds : List Due) → release_to d.subscriber (d ∷ ds) ≡ Some d.release
first_listed d ds = rw (same_self d.subscriber) refl

listed_by : (f : Bytes → ℕ) (due : List Due) → Each (λ (d : Due). d.release ≡ f d.subscriber) due → Listed due due
listed_by f [] all = tt
listed_by f (d ∷ ds) all = (first_listed d ds, agreed f d ds ds all.0 all.1 (listed_by f ds all.1))

pub agree_listed : (due : List Due) → Agree due → Listed due due
agree_listed due agree = listed_by agree.0 due agree.1

differed : (d : Due) (ds es : List Due) → is_in d.subscriber (names_in es) ≡ false → Listed ds es → Listed (d ∷ ds) es
differed d ds [] apart listed = tt
differed d ds (e ∷ es) apart listed = by (same d.subscriber e.subscriber) refl apart (differed d ds es)
  where
    by : (b : Bool) → same d.subscriber e.subscriber ≡ b → (b || is_in d.subscriber (names_in es)) ≡ false → (is_in d.subscriber (names_in es) ≡ false → Listed ds es → Listed (d ∷ ds) es) → Listed (d ∷ ds) (e ∷ es)
    by true is none rest = absurd (true≢false none)
    by false is none rest = (rw (nat_list_eq_equiv.symm e.subscriber d.subscriber ∙ is) listed.0, rest none listed.1)

pub differ_listed : (due : List Due) → Differ (names_in due) → Listed due due
differ_listed [] differ = tt
differ_listed (d ∷ ds) differ = (first_listed d ds, differed d ds ds differ.0 (differ_listed ds differ.1))

-- ---- a test of the releases

-- the release of a subscriber that passes
pub any_of : (t : ℕ → Bool) (s : Bytes) (due : List Due) (r : ℕ) → release_to s due ≡ Some r → t r ≡ true → list_any (λ (d : Due). t d.release) due ≡ true
any_of t s [] r is passes = absurd (none_some r is)
any_of t s (d ∷ ds) r is passes = by (same s d.subscriber) is (any_of t s ds r)
  where
    by : (b : Bool) → cond b (Some d.release) (release_to s ds) ≡ Some r → (release_to s ds ≡ Some r → t r ≡ true → list_any (λ (e : Due). t e.release) ds ≡ true) → (t d.release || list_any (λ (e : Due). t e.release) ds) ≡ true
    by true here rest = or_left (t d.release) _ (ap t (some_is d.release r here) ∙ passes)
    by false there rest = or_right (t d.release) _ (rest there passes)

-- one that passes is that of a subscriber
pub any_has : (t : ℕ → Bool) (due : List Due) (C : Type 0) → Listed due due → list_any (λ (d : Due). t d.release) due ≡ true → ((s : Bytes) (r : ℕ) → release_to s due ≡ Some r → t r ≡ true → C) → C
any_has t due C listed is then = from_any (λ (d : Due). release_to d.subscriber due ≡ Some d.release) (λ (d : Due). t d.release) due C listed is (λ d here passes. then d.subscriber d.release here passes)

-- lists that give each subscriber the same release have the same releases
pub any_same : (t : ℕ → Bool) (xs ys : List Due) → Listed xs xs → Listed ys ys → ((s : Bytes) → release_to s xs ≡ release_to s ys) → list_any (λ (d : Due). t d.release) xs ≡ list_any (λ (d : Due). t d.release) ys
any_same t xs ys one other alike = both_ways _ _
    (λ is. any_has t xs _ one is (λ s r here passes. any_of t s ys r (sym (alike s) ∙ here) passes))
    (λ is. any_has t ys _ other is (λ s r here passes. any_of t s xs r (alike s ∙ here) passes))

-- ---- who is among them

pub in_some : (s : Bytes) (due : List Due) (r : ℕ) → release_to s due ≡ Some r → is_in s (names_in due) ≡ true
in_some s [] r is = absurd (none_some r is)
in_some s (d ∷ ds) r is = by (same s d.subscriber) is (in_some s ds r)
  where
    by : (b : Bool) → cond b (Some d.release) (release_to s ds) ≡ Some r → (release_to s ds ≡ Some r → is_in s (names_in ds) ≡ true) → (b || is_in s (names_in ds)) ≡ true
    by true here rest = refl
    by false there rest = rest there

pub not_in : (s : Bytes) (due : List Due) → is_in s (names_in due) ≡ false → release_to s due ≡ None
not_in s [] none = refl
not_in s (d ∷ ds) none = by (same s d.subscriber) none (not_in s ds)
  where
    by : (b : Bool) → (b || is_in s (names_in ds)) ≡ false → (is_in s (names_in ds) ≡ false → release_to s ds ≡ None) → cond b (Some d.release) (release_to s ds) ≡ None
    by true none rest = absurd (true≢false none)
    by false none rest = rest none

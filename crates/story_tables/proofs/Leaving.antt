-- What a kill or a recall leaves.
use Rattle.std.proofs.Common.{◌≡◌, ◌==◌, ℕ, ◌≤◌, max, min, ◌&&◌, ◌||◌, Bool, true, false, cond, List, [], ◌∷◌, Option, Some, None, refl, arith}
use Rattle.std.specs.Prelude.{nat_le, is_some, unwrap_or}
use Rattle.std.proofs.lemmas.Bool.Decides.{nat_tests}
use Rattle.news_types.specs.Names.{Bytes}
use Rattle.news_types.specs.Members.{Each}
use Rattle.news_types.specs.History.{History}
use Rattle.news_types.specs.Due.{Pub, release_to, is_by, had, had_by, latest, given_by, taken_back}
use Rattle.news_types.specs.Publications.{standing}
use Rattle.news_types.proofs.Dues.{IsFair, release_given, standing_are_fair}
use Rattle.publications.specs.Later.{Leaves}

-- a release by the moment, or none
abbrev left_of : ℕ → Option ℕ → Option ℕ
left_of m o = cond (is_by m o) o None

some_left : (m : ℕ) (o : Option ℕ) → is_some (left_of m o) ≡ is_by m o
some_left m None = refl
some_left m (Some r) = elim (nat_le r m) as (λ b. is_some (cond b (Some r) None) ≡ b) [ true ↦ refl | false ↦ refl ]

early_least : (r n m : ℕ) → nat_le r m ≡ true → nat_le r n ≡ nat_le r (min n m)
early_least r n m is = grind (arith, nat_tests)

late_least : (r n m : ℕ) → nat_le r m ≡ false → false ≡ nat_le r (min n m)
late_least r n m is = grind (arith, nat_tests)

by_left : (n m : ℕ) (o : Option ℕ) → is_by n (left_of m o) ≡ is_by (min n m) o
by_left n m None = refl
by_left n m (Some r) = by (nat_le r m) refl
  where
    by : (b : Bool) → nat_le r m ≡ b → is_by n (cond b (Some r) None) ≡ nat_le r (min n m)
    by true is = early_least r n m is
    by false is = late_least r n m is

left_within : (m : ℕ) (o : Option ℕ) → unwrap_or (left_of m o) 0 ≤ m
left_within m None = omega arith
left_within m (Some r) = by (nat_le r m) refl
  where
    by : (b : Bool) → nat_le r m ≡ b → unwrap_or (cond b (Some r) None) 0 ≤ m
    by true is = grind (arith, nat_tests)
    by false is = omega arith

module _ (m i : ℕ) (s : Bytes) where
  -- the release for the subscriber that is left
  left_to : (p : Pub) → IsFair p → release_to s (given_by m p.due) ≡ left_of m (release_to s p.due)
  left_to p fair = release_given fair.agree.0 m s p.due fair.agree.1

  had_left : (ps : List Pub) → Each IsFair ps → had (taken_back m i ps) i s ≡ had_by m ps i s
  had_left [] fair = refl
  had_left (p ∷ ps) fair = by (p.item == i) (had_left ps fair.1)
    where
      by : (b : Bool) → had (taken_back m i ps) i s ≡ had_by m ps i s
          → ((b && is_some (release_to s (cond b (given_by m p.due) p.due))) || had (taken_back m i ps) i s) ≡ ((b && is_by m (release_to s p.due)) || had_by m ps i s)
      by true rest = rw (left_to p fair.0, some_left m (release_to s p.due), rest) refl
      by false rest = rest

  had_by_left : (n : ℕ) (ps : List Pub) → Each IsFair ps → had_by n (taken_back m i ps) i s ≡ had_by (min n m) ps i s
  had_by_left n [] fair = refl
  had_by_left n (p ∷ ps) fair = by (p.item == i) (had_by_left n ps fair.1)
    where
      by : (b : Bool) → had_by n (taken_back m i ps) i s ≡ had_by (min n m) ps i s
          → ((b && is_by n (release_to s (cond b (given_by m p.due) p.due))) || had_by n (taken_back m i ps) i s) ≡ ((b && is_by (min n m) (release_to s p.due)) || had_by (min n m) ps i s)
      by true rest = rw (left_to p fair.0, by_left n m (release_to s p.due), rest) refl
      by false rest = rest

  latest_left : (ps : List Pub) → Each IsFair ps → latest (taken_back m i ps) i s ≤ m
  latest_left [] fair = omega arith
  latest_left (p ∷ ps) fair = by (p.item == i) (latest_left ps fair.1)
    where
      both : (a b : ℕ) → a ≤ m → b ≤ m → max a b ≤ m
      both a b one two = omega (arith, one, two)

      by : (b : Bool) → latest (taken_back m i ps) i s ≤ m → cond b (max (unwrap_or (release_to s (cond b (given_by m p.due) p.due)) 0) (latest (taken_back m i ps) i s)) (latest (taken_back m i ps) i s) ≤ m
      by true rest = rw (left_to p fair.0) (both _ _ (left_within m (release_to s p.due)) rest)
      by false rest = rest

pub leaves_of : (h : History) (m i : ℕ) → Leaves m i (standing h)
leaves_of h m i = record {
  had_one = λ s. had_left m i s (standing h) (standing_are_fair h);
  given = λ n s. had_by_left m i s n (standing h) (standing_are_fair h);
  last = λ s. latest_left m i s (standing h) (standing_are_fair h);
}

-- Filters by their age.
use Rattle.std.proofs.Common.{◌≡◌, ℕ, zero, suc, ◌<◌, ◌≤◌, Bool, true, false, ◌||◌, cond, List, [], ◌∷◌, ◌++◌, length, map, Option, Some, None, is_some, refl, sym, ◌+◌, ◌∙◌, arith, length-append}
use Rattle.std.proofs.lemmas.List.{length-map, map-append}
use Rattle.std.proofs.lemmas.Bool.{false≢true}
use Rattle.std.specs.List.{slice_get, list_any}
use Rattle.std.specs.Option.{option_map, option_and_then, unwrap_or}
use Rattle.std.proofs.lemmas.Option.{slice_get_past}
use Rattle.news_types.proofs.Members.{same_is, same_self, some_is, none_some}
use Rattle.news_types.specs.Names.{Bytes, same}
use Rattle.news_types.specs.Filters.{Filter, has_filter, older, holds, matches_by}
use Rattle.content_filters.specs.declared.table.KeptFilter.{KeptFilter}
use Rattle.content_filters.specs.Kept.{oldest_first, filter_named, age, AreApart, kept_of}
use Rattle.content_filters.specs.Keeps.{matches_of}

pub get_front : {A : Type 0} (xs ys : List A) (k : ℕ) → k < length xs → slice_get (xs ++ ys) k ≡ slice_get xs k
get_front [] ys k lt = absurd (omega arith)
get_front (x ∷ xs) ys zero lt = refl
get_front (x ∷ xs) ys (suc k) lt = get_front xs ys k (omega arith)

pub get_end : {A : Type 0} (xs : List A) (y : A) → slice_get (xs ++ y ∷ []) (length xs) ≡ Some y
get_end [] y = refl
get_end (x ∷ xs) y = get_end xs y

-- a filter has an age exactly where it is there
pub aged : (fs : List Filter) (name : Bytes) → is_some (age fs name) ≡ has_filter name fs
aged [] name = refl
aged (f ∷ fs) name =
    elim (same f.name name) as (λ b. is_some (cond b (Some (length fs)) (age fs name)) ≡ (b || has_filter name fs)) [
      | true ↦ refl
      | false ↦ aged fs name
    ]

pub age_below : (fs : List Filter) (name : Bytes) (p : ℕ) → age fs name ≡ Some p → p < length fs
age_below [] name p is = absurd (none_some p is)
age_below (f ∷ fs) name p is =
    elim (same f.name name) as (λ b. cond b (Some (length fs)) (age fs name) ≡ Some p → p < suc (length fs)) [
      | true ↦ λ here. let e : length fs ≡ p = some_is (length fs) p here in omega arith
      | false ↦ λ older. let lt : p < length fs = age_below fs name p older in omega arith
    ] is

pub long : (fs : List Filter) → length (oldest_first fs) ≡ length fs
long [] = refl
long (f ∷ fs) = length-append (oldest_first fs) (f ∷ []) ∙ omega (arith, long fs)

pub kept_long : (fs : List Filter) → length (map kept_of (oldest_first fs)) ≡ length fs
kept_long fs = length-map (oldest_first fs) kept_of ∙ long fs

pub matches_long : (true_of : Bytes → Bool) (fs : List Filter) → length (matches_of true_of fs) ≡ length fs
matches_long true_of [] = refl
matches_long true_of (f ∷ fs) = length-append (matches_of true_of fs) (matches_by true_of (f ∷ fs) f.name ∷ []) ∙ omega (arith, matches_long true_of fs)

-- a name of an older filter is no name of a newer one
pub older_there : (f : Filter) (fs : List Filter) (name : Bytes) → has_filter f.name fs ≡ false → same f.name name ≡ true → has_filter name fs ≡ false
older_there f fs name none is = rw (same_is f.name name is) at none

-- the age of a filter is the number of those that are older
pub counted : (fs : List Filter) (name : Bytes) → cond (has_filter name fs) (Some (length (older name fs) + 1)) None ≡ option_map (λ (n : ℕ). n + 1) (age fs name)
counted [] name = refl
counted (f ∷ fs) name =
    elim (same f.name name) as (λ b. cond (b || has_filter name fs) (Some (length (cond b fs (older name fs)) + 1)) None ≡ option_map (λ (n : ℕ). n + 1) (cond b (Some (length fs)) (age fs name))) [
      | true ↦ refl
      | false ↦ counted fs name
    ]

-- what is kept at the age of a filter is the filter
pub kept_at : (fs : List Filter) (name : Bytes) → option_and_then (λ place. slice_get (map kept_of (oldest_first fs)) place) (age fs name) ≡ option_map kept_of (filter_named name fs)
kept_at [] name = refl
kept_at (f ∷ fs) name =
    let olds : List KeptFilter = map kept_of (oldest_first fs) in
    elim (same f.name name) as (λ b. option_and_then (λ place. slice_get (map kept_of (oldest_first fs ++ f ∷ [])) place) (cond b (Some (length fs)) (age fs name)) ≡ option_map kept_of (cond b (Some f) (filter_named name fs))) [
      | true ↦ rw (map-append kept_of (oldest_first fs) (f ∷ []), ← kept_long fs) (get_end olds (kept_of f))
      | false ↦ rw (map-append kept_of (oldest_first fs) (f ∷ [])) (below (age fs name) (kept_of f) (λ p is. age_below fs name p is) (kept_at fs name))
    ]
  where
    below : (o : Option ℕ) (more : KeptFilter) → ((p : ℕ) → o ≡ Some p → p < length fs) → option_and_then (λ place. slice_get (map kept_of (oldest_first fs)) place) o ≡ option_map kept_of (filter_named name fs)
        → option_and_then (λ place. slice_get (map kept_of (oldest_first fs) ++ more ∷ []) place) o ≡ option_map kept_of (filter_named name fs)
    below None more within is = is
    below (Some p) more within is =
        let lt : p < length (map kept_of (oldest_first fs)) = omega (arith, within p refl, kept_long fs) in
        rw (get_front (map kept_of (oldest_first fs)) (more ∷ []) p lt) is

-- what the list of verdicts has at the age of a filter
pub at_age : (true_of : Bytes → Bool) (fs : List Filter) (name : Bytes) → unwrap_or (option_and_then (λ place. slice_get (matches_of true_of fs) place) (age fs name)) false ≡ matches_by true_of fs name
at_age true_of [] name = refl
at_age true_of (f ∷ fs) name =
    let olds : List Bool = matches_of true_of fs in
    let new : Bool = list_any (holds true_of (λ other. matches_by true_of fs other)) f.statements in
    let self : matches_by true_of (f ∷ fs) f.name ≡ new = rw (same_self f.name) refl in
    elim (same f.name name) as (λ b. unwrap_or (option_and_then (λ place. slice_get (olds ++ matches_by true_of (f ∷ fs) f.name ∷ []) place) (cond b (Some (length fs)) (age fs name))) false ≡ cond b new (matches_by true_of fs name)) [
      | true ↦ rw (self, ← matches_long true_of fs, get_end olds new) refl
      | false ↦ below (age fs name) (matches_by true_of (f ∷ fs) f.name) (λ p is. age_below fs name p is) (at_age true_of fs name)
    ]
  where
    below : (o : Option ℕ) (more : Bool) → ((p : ℕ) → o ≡ Some p → p < length fs) → unwrap_or (option_and_then (λ place. slice_get (matches_of true_of fs) place) o) false ≡ matches_by true_of fs name
        → unwrap_or (option_and_then (λ place. slice_get (matches_of true_of fs ++ more ∷ []) place) o) false ≡ matches_by true_of fs name
    below None more within is = is
    below (Some p) more within is =
        let lt : p < length (matches_of true_of fs) = omega (arith, within p refl, matches_long true_of fs) in
        rw (get_front (matches_of true_of fs) (more ∷ []) p lt) is

none_matches : (true_of : Bytes → Bool) (fs : List Filter) (name : Bytes) → has_filter name fs ≡ false → matches_by true_of fs name ≡ false
none_matches true_of [] name none = refl
none_matches true_of (f ∷ fs) name none =
    elim (same f.name name) as (λ b. (b || has_filter name fs) ≡ false → cond b (list_any (holds true_of (λ other. matches_by true_of fs other)) f.statements) (matches_by true_of fs name) ≡ false) [
      | true ↦ λ here. absurd (false≢true (sym here))
      | false ↦ λ rest. none_matches true_of fs name rest
    ] none

-- it is there among the newer and the older
not_older : (newer fs : List Filter) (name : Bytes) → has_filter name (newer ++ fs) ≡ false → has_filter name fs ≡ false
not_older [] fs name none = none
not_older (g ∷ newer) fs name none =
    elim (same g.name name) as (λ b. (b || has_filter name (newer ++ fs)) ≡ false → has_filter name fs ≡ false) [
      | true ↦ λ here. absurd (false≢true (sym here))
      | false ↦ λ rest. not_older newer fs name rest
    ] none

-- what the verdicts on the older filters have at the age of a filter: nothing where it is a newer one
pub at_age_among : (true_of : Bytes → Bool) (newer fs : List Filter) (name : Bytes) → AreApart (newer ++ fs)
    → unwrap_or (option_and_then (λ place. slice_get (matches_of true_of fs) place) (age (newer ++ fs) name)) false ≡ matches_by true_of fs name
at_age_among true_of [] fs name apart = at_age true_of fs name
at_age_among true_of (g ∷ newer) fs name apart =
    let olds : List Bool = matches_of true_of fs in
    elim (same g.name name) as (λ b. same g.name name ≡ b → unwrap_or (option_and_then (λ place. slice_get olds place) (cond b (Some (length (newer ++ fs))) (age (newer ++ fs) name))) false ≡ matches_by true_of fs name) [
      | true ↦ λ here.
          let past : length olds ≤ length (newer ++ fs) = omega (arith, matches_long true_of fs, length-append newer fs) in
          rw (slice_get_past olds (length (newer ++ fs)) past) (sym (none_matches true_of fs name (not_older newer fs name (older_there g (newer ++ fs) name apart.0 here))))
      | false ↦ λ there. at_age_among true_of newer fs name apart.1
    ] refl

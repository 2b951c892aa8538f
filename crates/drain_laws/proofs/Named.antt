-- Whose feed is chosen is one of those who were named.
use Rattle.std.proofs.Common.{◌≡◌, ℕ, Bool, true, false, ◌||◌, cond, Option, Some, None, List, [], ◌∷◌, refl, subst}
use Rattle.std.specs.Prelude.{filter_map}
use Rattle.std.specs.Option.{option_map}
use Rattle.news_types.specs.declared.query.Ready.{Ready}
use Rattle.news_types.specs.declared.query.Ready.TheVariants.{Now, Later}
use Rattle.news_types.specs.Names.{Bytes, same, is_in}
use Rattle.news_types.specs.Members.{Each}
use Rattle.news_types.specs.History.{History}
use Rattle.news_types.specs.Delivery.{ready_at, is_ready, Candidate, candidate, ready_candidate, earliest, chosen, choice}
use Rattle.news_types.proofs.Members.{same_self, some_is, none_some, each_map}
use Rattle.world_laws.proofs.Followers.{each_cons, earliest_one}

abbrev IsNamed : List Bytes → Candidate → Type 0
IsNamed names c = is_in c.name names ≡ true

or_more : (a b : Bool) → b ≡ true → (a || b) ≡ true
or_more true b is = refl
or_more false b is = is

named_one : (s : Bytes) (names : List Bytes) (o : Option ℕ) (c : Candidate) → option_map (candidate s) o ≡ Some c → IsNamed (s ∷ names) c
named_one s names None c is = absurd (none_some c is)
named_one s names (Some at) c is = subst (IsNamed (s ∷ names)) (some_is (candidate s at) c is) (rw (same_self s) refl)

named_ready : (h : History) (m : ℕ) (s : Bytes) (names : List Bytes) (c : Candidate) → ready_candidate h m s ≡ Some c → IsNamed (s ∷ names) c
named_ready h m s names c =
    elim (is_ready h s m) as (λ b. cond b (option_map (candidate s) (ready_at h s)) None ≡ Some c → IsNamed (s ∷ names) c) [
      | true ↦ λ is. named_one s names (ready_at h s) c is
      | false ↦ λ is. absurd (none_some c is)
    ]

all_named : (h : History) (m : ℕ) (names : List Bytes) → Each (IsNamed names) (filter_map (ready_candidate h m) names)
all_named h m [] = tt
all_named h m (s ∷ names) =
    each_cons (IsNamed (s ∷ names)) (ready_candidate h m s) (filter_map (ready_candidate h m) names) (named_ready h m s names)
    (each_map (IsNamed names) (IsNamed (s ∷ names)) (filter_map (ready_candidate h m) names) (λ c there. or_more (same c.name s) (is_in c.name names) there) (all_named h m names))

abbrev IsOneOf : List Bytes → Ready → Type 0
IsOneOf names (Now s k) = is_in s names ≡ true
IsOneOf names (Later next) = Unit {0}

chosen_one : (h : History) (names : List Bytes) (o : Option Candidate) → ((c : Candidate) → o ≡ Some c → IsNamed names c) → IsOneOf names (chosen h o names)
chosen_one h names None named = tt
chosen_one h names (Some c) named = named c refl

pub choice_named : (h : History) (names : List Bytes) (m : ℕ) (s : Bytes) (k : ℕ) → choice h names m ≡ Now s k → is_in s names ≡ true
choice_named h names m s k is =
    subst (IsOneOf names) is (chosen_one h names (earliest (filter_map (ready_candidate h m) names)) (earliest_one (IsNamed names) _ (all_named h m names)))

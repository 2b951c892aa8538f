-- Places and their numbers.
use Rattle.std.proofs.Common.{◌≡◌, ℕ, Bool, true, false, ◌&&◌, cond, List, [], ◌∷◌, ◌++◌, length, Option, Some, refl, sym, ap, ◌∙◌}
use Rattle.std.proofs.lemmas.Bool.{false≢true}
use Rattle.std.specs.List.{slice_get}
use Rattle.news_types.proofs.Members.{same_is, same_self, some_is, get_more}
use Rattle.news_types.specs.declared.rules.Place.{Place}
use Rattle.news_types.specs.Names.{Bytes, same}
use Rattle.desk_rules.specs.declared.on_desk.OnDesk.{OnDesk}
use Rattle.desk_rules.specs.Keys.{same_on, place_of}
use Rattle.desk_rules.specs.Places.{key_of}

pub both : (a b : Bool) → (a && b) ≡ true → (a ≡ true) × (b ≡ true)
both true b is = (refl, is)
both false b is = absurd (false≢true is)

pub same_flip : (a b : Bytes) → same a b ≡ same b a
same_flip a b =
    elim (same a b) as (λ v. same a b ≡ v → v ≡ same b a) [
      | true ↦ λ is. let e : a ≡ b = same_is a b is in rw e (sym (same_self b))
      | false ↦ λ isnt. elim (same b a) as (λ v. same b a ≡ v → false ≡ v) [
        | true ↦ λ is. let e : b ≡ a = same_is b a is in absurd (false≢true (sym isnt ∙ rw e (same_self a)))
        | false ↦ λ _. refl
      ] refl
    ] refl

get_end : {A : Type 0} (xs : List A) (x : A) → slice_get (xs ++ x ∷ []) (length xs) ≡ Some x
get_end [] x = refl
get_end (y ∷ xs) x = get_end xs x

-- a stage with the name of another is that one
pub place_is : (place : Place) (key : OnDesk) → same_on (key_of place) key ≡ true → place ≡ place_of key
place_is place key is =
    let parts = both _ _ is in
    let desk : place.desk ≡ key.desk = same_is place.desk key.desk parts.0 in
    let stage : place.stage ≡ key.name = same_is place.stage key.name parts.1 in
    λ i. record { desk = desk i; stage = stage i }

-- the place that a number has among one more
pub one_more : (list : List Place) (place : Place) (key : OnDesk) (before : Option ℕ) (b : Bool) (n : ℕ) → (b ≡ true → place ≡ place_of key)
    → ((m : ℕ) → before ≡ Some m → slice_get list m ≡ Some (place_of key)) → cond b (Some (length list)) before ≡ Some n → slice_get (list ++ place ∷ []) n ≡ Some (place_of key)
one_more list place key before true n is placed here =
    let e : length list ≡ n = some_is (length list) n here in
    rw (← e) (get_end list place ∙ ap Some (is refl))
one_more list place key before false n is placed there = get_more list (place ∷ []) n (place_of key) (placed n there)

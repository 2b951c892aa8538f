-- A desk or a stage is added.
use Rattle.std.proofs.Common.{◌≡◌, ℕ, ◌+◌, Bool, true, false, ◌&&◌, ◌||◌, cond, Option, Some, None, is_some, refl, sym, ap, ◌∙◌, add-zero, arith}
use Rattle.std.specs.Prelude.{if◌then◌else◌}
use Rattle.std.proofs.lemmas.Bool.{false≢true}
use Rattle.std.specs.List.{slice_get}
use Rattle.std.specs.Option.{unwrap_or}
use Rattle.std.specs.HashMap.{get, hash_map_len}
use Rattle.news_types.proofs.Members.{same_is, none_some}
use Rattle.news_types.specs.declared.rules.Place.{Place}
use Rattle.news_types.specs.Names.{Bytes, same}
use Rattle.news_types.specs.Desks.{incoming, working}
use Rattle.desk_rules.specs.declared.table.Desks.{Desks}
use Rattle.desk_rules.specs.Keys.{same_on}
use Rattle.desk_rules.specs.Spots.{IsPlace}
use Rattle.desk_rules.specs.Places.{key_of}
use Rattle.desk_rules.specs.Facts.{Facts}
use Rattle.desk_rules.specs.Keeps.{Keeps, IsEmptyDesk}
use Rattle.desk_rules.specs.Steps.{IsThere}
use Rattle.desk_rules.proofs.Numbers.{both, same_flip}

pub neither : (a b : Bool) → (a || b) ≡ false → (a ≡ false) × (b ≡ false)
neither true b is = absurd (false≢true (sym is))
neither false b is = (refl, is)

-- one more entry of a map
pub more_of : {A : Type 0} (old : Option A) (n m k : ℕ) → m ≡ n + (if is_some old then 0 else 1) → n ≡ k → old ≡ None → m ≡ k + 1
more_of None n m k counted is none = omega (arith, counted, is)
more_of (Some x) n m k counted is none = absurd (none_some x (sym none))

pub same_of : {A : Type 0} (old : Option A) (n m k : ℕ) → m ≡ n + (if is_some old then 0 else 1) → n ≡ k → is_some old ≡ true → m ≡ k
same_of None n m k counted is some = absurd (false≢true some)
same_of (Some x) n m k counted is some = omega (arith, counted, is)

-- ---- a desk

new_stages : (e w i is added : Bool) (o : Option ℕ) (m n : ℕ) → is_some o ≡ (is && (i || w || added)) → (e ≡ true → (is ≡ false) × (added ≡ false))
    → is_some (cond (e && w) (Some m) (cond (e && i) (Some n) o)) ≡ ((e || is) && (i || w || added))
new_stages false w i is added o m n before new = before
new_stages true true true is added o m n before new = refl
new_stages true true false is added o m n before new = refl
new_stages true false true is added o m n before new = refl
new_stages true false false is added o m n before new = let facts = new refl in before ∙ rw (facts.0, facts.1) refl

module _ (t : Desks) (f : Facts) (keeps : Keeps t f) (desk : Bytes) (none : f.is_desk desk ≡ false) where
  desk_none : get same t.desks desk ≡ None
  desk_none = keeps.desks desk ∙ ap (λ b. cond b (Some (f.stages desk)) None) none

  pub desks_counted : (m : ℕ) → m ≡ hash_map_len t.desks + (if is_some (get same t.desks desk) then 0 else 1) → m ≡ f.desks + 1
  desks_counted m counted = more_of (get same t.desks desk) (hash_map_len t.desks) m f.desks counted keeps.desk_count desk_none

  empty_named : (name : Bytes) → same desk name ≡ true → (f.is_desk name ≡ false) × IsEmptyDesk f name
  empty_named name is = let e : desk ≡ name = same_is desk name is in let no : f.is_desk name ≡ false = rw (← e) none in (no, keeps.others name no)

  pub desk_there : (name : Bytes) → cond (same desk name) (Some 2) (get same t.desks name) ≡ cond (same desk name || f.is_desk name) (Some (f.stages name)) None
  desk_there name =
      elim (same desk name) as (λ b. same desk name ≡ b → cond b (Some 2) (get same t.desks name) ≡ cond (b || f.is_desk name) (Some (f.stages name)) None) [
        | true ↦ λ is. ap Some (sym (empty_named name is).1.two)
        | false ↦ λ isnt. keeps.desks name
      ] refl

  pub stages_there : (other stage : Bytes) (m n : ℕ) →
      is_some (cond (same desk other && same working stage) (Some m) (cond (same desk other && same incoming stage) (Some n) (get same_on t.places.numbers (record { desk = other; name = stage }))))
      ≡ ((same desk other || f.is_desk other) && (same stage incoming || same stage working || f.is_added other stage))
  stages_there other stage m n =
      rw (same_flip working stage, same_flip incoming stage)
      (new_stages (same desk other) (same stage working) (same stage incoming) (f.is_desk other) (f.is_added other stage) (get same_on t.places.numbers (record { desk = other; name = stage })) m n
      (keeps.stages other stage)
      (λ is. ((empty_named other is).0, (empty_named other is).1.none_added stage)))

-- ---- a stage

more_stages : (e is i w added : Bool) (o : Option ℕ) (m : ℕ) → is_some o ≡ (is && (i || w || added)) → (e ≡ true → is ≡ true) → is_some (cond e (Some m) o) ≡ (is && (i || w || (e || added)))
more_stages false is i w added o m before new = before
more_stages true is true w added o m before new = rw (new refl) refl
more_stages true is false true added o m before new = rw (new refl) refl
more_stages true is false false added o m before new = rw (new refl) refl

module _ (t : Desks) (f : Facts) (keeps : Keeps t f) (place : Place) (there : f.is_desk place.desk ≡ true) where
  desk_some : get same t.desks place.desk ≡ Some (f.stages place.desk)
  desk_some = keeps.desks place.desk ∙ ap (λ b. cond b (Some (f.stages place.desk)) None) there

  pub desks_same : (m : ℕ) → m ≡ hash_map_len t.desks + (if is_some (get same t.desks place.desk) then 0 else 1) → m ≡ f.desks
  desks_same m counted = same_of (get same t.desks place.desk) (hash_map_len t.desks) m f.desks counted keeps.desk_count (ap is_some desk_some)

  there_named : (name : Bytes) → same place.desk name ≡ true → (place.desk ≡ name) × (f.is_desk name ≡ true)
  there_named name is = let e : place.desk ≡ name = same_is place.desk name is in (e, rw (← e) there)

  pub count_there : (name : Bytes) → cond (same place.desk name) (Some (unwrap_or (get same t.desks place.desk) 0 + 1)) (get same t.desks name)
      ≡ cond (f.is_desk name) (Some (f.stages name + (if same place.desk name then 1 else 0))) None
  count_there name =
      elim (same place.desk name) as (λ b. same place.desk name ≡ b → cond b (Some (unwrap_or (get same t.desks place.desk) 0 + 1)) (get same t.desks name) ≡ cond (f.is_desk name) (Some (f.stages name + (if b then 1 else 0))) None) [
        | true ↦ λ is.
            let e : place.desk ≡ name = (there_named name is).0 in
            let yes : f.is_desk name ≡ true = (there_named name is).1 in
            rw (desk_some, yes, e) refl
        | false ↦ λ isnt. keeps.desks name ∙ ap (λ n. cond (f.is_desk name) (Some n) None) (sym (add-zero (f.stages name)))
      ] refl

  pub stage_there : (other stage : Bytes) (m : ℕ) → is_some (cond (same place.desk other && same place.stage stage) (Some m) (get same_on t.places.numbers (record { desk = other; name = stage })))
      ≡ (f.is_desk other && (same stage incoming || same stage working || (same place.desk other && same place.stage stage || f.is_added other stage)))
  stage_there other stage m =
      more_stages (same place.desk other && same place.stage stage) (f.is_desk other) (same stage incoming) (same stage working) (f.is_added other stage) (get same_on t.places.numbers (record { desk = other; name = stage })) m
      (keeps.stages other stage)
      (λ is. (there_named other (both _ _ is).0).1)

  pub other_desk : (other : Bytes) → f.is_desk other ≡ false → same place.desk other ≡ false
  other_desk other none =
      elim (same place.desk other) as (λ b. same place.desk other ≡ b → b ≡ false) [
        | true ↦ λ is. absurd (false≢true (sym none ∙ (there_named other is).1))
        | false ↦ λ isnt. refl
      ] refl

-- ---- a place that is there

some_of : (o : Option ℕ) → is_some o ≡ true → (n : ℕ) × (o ≡ Some n)
some_of None is = absurd (false≢true is)
some_of (Some n) is = (n, refl)

module _ (t : Desks) (f : Facts) (keeps : Keeps t f) where
  pub number_there : (place : Place) → IsThere f place → IsPlace t.places.list.items (get same_on t.places.numbers (key_of place)) (Some place)
  number_there place there =
      let o : Option ℕ = get same_on t.places.numbers (key_of place) in
      let some = some_of o (keeps.stages place.desk place.stage ∙ there) in
      let at : slice_get t.places.list.items some.0 ≡ Some place = keeps.placed (key_of place) some.0 some.1 in
      rw some.1 (place, at, refl)

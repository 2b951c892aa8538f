-- Where items stand, and who holds them.
use Rattle.std.specs.Prelude.{◌≡◌, ℕ, zero, suc, ◌-◌, ◌==◌, List, [], ◌∷◌, Option, Some, None, option_and_then, slice_get, if◌then◌else◌}
use Rattle.news_types.specs.declared.rules.Place.{Place}
use Rattle.news_types.specs.declared.query.Holder.{Holder}
use Rattle.desk_rules.specs.declared.seats.Seat.{Seat}

-- where an item stands, and who holds it
pub record Spot : Type 0 where
  pub place : Option Place
  pub holder : Option Holder

-- the member of that number, from 1
abbrev pub numbered : {A : Type 0} → List A → ℕ → Option A
numbered xs i = if i == 0 then None else slice_get xs (i - 1)

-- the member at a place, from 0, changed
abbrev pub changed_at : {A : Type 0} → ℕ → (A → A) → List A → List A
changed_at i change [] = []
changed_at zero change (x ∷ xs) = change x ∷ xs
changed_at (suc i) change (x ∷ xs) = x ∷ changed_at i change xs

-- the member of that number, from 1, changed
abbrev pub changed : {A : Type 0} → ℕ → (A → A) → List A → List A
changed i change xs = if i == 0 then xs else changed_at (i - 1) change xs

-- the number is that of the place, if there is one
abbrev pub IsPlace : List Place → Option ℕ → Option Place → Type 0
IsPlace places None place = place ≡ None
IsPlace places (Some n) place = (p : Place) × (slice_get places n ≡ Some p) × (place ≡ Some p)

-- what is kept says where the item stands, and who holds it
pub record IsSeat (places : List Place) (seat : Seat) (spot : Spot) : Type 0 where
  pub place : IsPlace places seat.place spot.place
  pub holder : seat.holder ≡ spot.holder

-- item for item
abbrev pub AreSeats : List Place → List Seat → List Spot → Type 0
AreSeats places [] [] = Unit {0}
AreSeats places (seat ∷ seats) (spot ∷ spots) = IsSeat places seat spot × AreSeats places seats spots
AreSeats places seats spots = ⊥

-- the number of an item's place, the place, and who holds it, by what is kept of it
abbrev pub number_at : Option Seat → Option ℕ
number_at seat = option_and_then (λ (s : Seat). s.place) seat

abbrev pub place_at : List Place → Option Seat → Option Place
place_at places seat = option_and_then (λ (n : ℕ). slice_get places n) (number_at seat)

abbrev pub holder_at : Option Seat → Option Holder
holder_at seat = option_and_then (λ (s : Seat). s.holder) seat

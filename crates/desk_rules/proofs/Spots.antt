-- Lists of which one member is changed.
use Rattle.std.proofs.Common.{◌≡◌, ℕ, zero, suc, ◌-◌, ◌==◌, true, false, cond, List, [], ◌∷◌, ◌++◌, length, set, get_or, ◌<◌, ◌≤◌, arith, Option, Some, None, refl, ap}
use Rattle.std.proofs.lemmas.Bool.Decides.{nat_tests}
use Rattle.std.specs.List.{slice_get}
use Rattle.news_types.proofs.Members.{get_more}
use Rattle.news_types.specs.declared.rules.Place.{Place}
use Rattle.desk_rules.specs.declared.seats.Seat.{Seat}
use Rattle.desk_rules.specs.Spots.{Spot, numbered, changed_at, changed, IsPlace, IsSeat, AreSeats}

-- ---- a member that is written

pub set_changed : {A : Type 0} (xs : List A) (k : ℕ) (x : A) (change : A → A) → k < length xs → ((d : A) → x ≡ get_or xs k d) → set xs k (change x) ≡ changed_at k change xs
set_changed [] k x change lt is = absurd (omega arith)
set_changed (y ∷ xs) zero x change lt is = let e : x ≡ y = is x in rw e refl
set_changed (y ∷ xs) (suc k) x change lt is = rw (set_changed xs k x change (omega arith) is) refl

pub past_changed : {A : Type 0} (xs : List A) (k : ℕ) (change : A → A) → length xs ≤ k → xs ≡ changed_at k change xs
past_changed [] k change past = refl
past_changed (y ∷ xs) zero change past = absurd (omega arith)
past_changed (y ∷ xs) (suc k) change past = ap (λ zs. y ∷ zs) (past_changed xs k change (omega arith))

-- number 0 is nobody's
pub numbered_changed : {A : Type 0} (i : ℕ) (change : A → A) (xs ys : List A) → (i ≡ 0 → ⊥) → ys ≡ changed_at (i - 1) change xs → ys ≡ changed i change xs
numbered_changed i change xs ys some is = let no : (i == 0) ≡ false = grind (arith, nat_tests) in rw no is

-- ---- more places

place_more : (places more : List Place) (n : Option ℕ) (place : Option Place) → IsPlace places n place → IsPlace (places ++ more) n place
place_more places more None place is = is
place_more places more (Some n) place is = (is.0, get_more places more n is.0 is.1, is.2)

pub seats_more : (places more : List Place) (seats : List Seat) (spots : List Spot) → AreSeats places seats spots → AreSeats (places ++ more) seats spots
seats_more places more [] [] are = tt
seats_more places more [] (spot ∷ spots) are = absurd are
seats_more places more (seat ∷ seats) [] are = absurd are
seats_more places more (seat ∷ seats) (spot ∷ spots) are =
    let one = are.0 in
    (record { place = place_more places more seat.place spot.place one.place; holder = one.holder }, seats_more places more seats spots are.1)

-- ---- one more item

pub seats_end : (places : List Place) (seats : List Seat) (spots : List Spot) (seat : Seat) (spot : Spot) → AreSeats places seats spots → IsSeat places seat spot
    → AreSeats places (seats ++ seat ∷ []) (spots ++ spot ∷ [])
seats_end places [] [] seat spot are is = (is, tt)
seats_end places [] (t ∷ spots) seat spot are is = absurd are
seats_end places (s ∷ seats) [] seat spot are is = absurd are
seats_end places (s ∷ seats) (t ∷ spots) seat spot are is = (are.0, seats_end places seats spots seat spot are.1 is)

-- ---- an item that is changed

module _ (places : List Place) (f : Seat → Seat) (g : Spot → Spot) (alike : (seat : Seat) (spot : Spot) → IsSeat places seat spot → IsSeat places (f seat) (g spot)) where
  seats_changed_at : (k : ℕ) (seats : List Seat) (spots : List Spot) → AreSeats places seats spots → AreSeats places (changed_at k f seats) (changed_at k g spots)
  seats_changed_at k [] [] are = tt
  seats_changed_at k [] (spot ∷ spots) are = absurd are
  seats_changed_at k (seat ∷ seats) [] are = absurd are
  seats_changed_at zero (seat ∷ seats) (spot ∷ spots) are = (alike seat spot are.0, are.1)
  seats_changed_at (suc k) (seat ∷ seats) (spot ∷ spots) are = (are.0, seats_changed_at k seats spots are.1)

  pub seats_changed : (i : ℕ) (seats : List Seat) (spots : List Spot) → AreSeats places seats spots → AreSeats places (changed i f seats) (changed i g spots)
  seats_changed i seats spots are =
      elim (i == 0) as (λ b. AreSeats places (cond b seats (changed_at (i - 1) f seats)) (cond b spots (changed_at (i - 1) g spots))) [
        | true ↦ are
        | false ↦ seats_changed_at (i - 1) seats spots are
      ]

-- ---- what is found

-- both are there, or neither
abbrev pub AreFound : List Place → Option Seat → Option Spot → Type 0
AreFound places None None = Unit {0}
AreFound places (Some seat) (Some spot) = IsSeat places seat spot
AreFound places seat spot = ⊥

found_at : (places : List Place) (k : ℕ) (seats : List Seat) (spots : List Spot) → AreSeats places seats spots → AreFound places (slice_get seats k) (slice_get spots k)
found_at places k [] [] are = tt
found_at places k [] (spot ∷ spots) are = absurd are
found_at places k (seat ∷ seats) [] are = absurd are
found_at places zero (seat ∷ seats) (spot ∷ spots) are = are.0
found_at places (suc k) (seat ∷ seats) (spot ∷ spots) are = found_at places k seats spots are.1

pub found : (places : List Place) (i : ℕ) (seats : List Seat) (spots : List Spot) → AreSeats places seats spots → AreFound places (numbered seats i) (numbered spots i)
found places i seats spots are =
    elim (i == 0) as (λ b. AreFound places (cond b None (slice_get seats (i - 1))) (cond b None (slice_get spots (i - 1)))) [
      | true ↦ tt
      | false ↦ found_at places (i - 1) seats spots are
    ]

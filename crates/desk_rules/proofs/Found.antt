-- What the table keeps of an item is what the list says of it.
use Rattle.std.proofs.Common.{◌≡◌, ℕ, ◌-◌, ◌==◌, true, false, cond, List, map, Option, Some, None, refl, sym, ap, ◌∙◌}
use Rattle.std.proofs.lemmas.Option.{slice_get-map}
use Rattle.std.specs.List.{slice_get}
use Rattle.std.specs.Option.{option_map, option_and_then}
use Rattle.news_types.specs.declared.rules.Place.{Place}
use Rattle.news_types.specs.History.{History}
use Rattle.news_types.specs.Items.{Item}
use Rattle.news_types.specs.Publications.{made, item}
use Rattle.news_types.specs.Items as items
use Rattle.desk_rules.specs.declared.seats.Seat.{Seat}
use Rattle.desk_rules.specs.declared.table.Desks.{Desks}
use Rattle.desk_rules.specs.Spots.{numbered, IsPlace, place_at, holder_at}
use Rattle.desk_rules.specs.Facts.{spot_of}
use Rattle.desk_rules.specs.Keeps.{KeepsFacts}
use Rattle.desk_rules.specs.Asked.{place_in, holder_in, IsHeldAs}
use Rattle.desk_rules.proofs.Spots.{AreFound, found}

spot_numbered : (xs : List Item) (i : ℕ) → numbered (map spot_of xs) i ≡ option_map spot_of (items.item_numbered xs i)
spot_numbered xs i =
    elim (i == 0) as (λ b. cond b None (slice_get (map spot_of xs) (i - 1)) ≡ option_map spot_of (cond b None (slice_get xs (i - 1)))) [
      | true ↦ refl
      | false ↦ slice_get-map spot_of xs (i - 1)
    ]

abbrev pub IsItem : Desks → ℕ → Option Item → Type 0
IsItem t i it = AreFound t.places.list.items (numbered t.seats.items i) (option_map spot_of it)

pub item_found : (t : Desks) (h : History) (i : ℕ) → KeepsFacts t h → IsItem t i (item h i)
item_found t h i keeps = rw (← spot_numbered ((made h).items) i) (found t.places.list.items i t.seats.items (map spot_of ((made h).items)) keeps.seats)

place_is : (places : List Place) (n : Option ℕ) (place : Option Place) → IsPlace places n place → option_and_then (λ (n : ℕ). slice_get places n) n ≡ place
place_is places None place is = sym is
place_is places (Some n) place is = is.1 ∙ sym is.2

pub place_found : (places : List Place) (seat : Option Seat) (it : Option Item) → AreFound places seat (option_map spot_of it) → place_at places seat ≡ place_in it
place_found places None None is = refl
place_found places None (Some it) is = absurd is
place_found places (Some seat) None is = absurd is
place_found places (Some seat) (Some it) is = place_is places seat.place it.place is.place

pub holder_found : (places : List Place) (seat : Option Seat) (it : Option Item) → AreFound places seat (option_map spot_of it) → holder_at seat ≡ holder_in it
holder_found places None None is = refl
holder_found places None (Some it) is = absurd is
holder_found places (Some seat) None is = absurd is
holder_found places (Some seat) (Some it) is = is.holder

pub held_found : (places : List Place) (seat : Option Seat) (it : Option Item) → AreFound places seat (option_map spot_of it) → IsHeldAs seat it
held_found places None None is = refl
held_found places None (Some it) is = absurd is
held_found places (Some seat) None is = absurd is
held_found places (Some seat) (Some it) is = ap Some is.holder

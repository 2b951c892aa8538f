-- The messages of a body fit.
use Rattle.std.proofs.Common.{◌<◌, ◌^◌, List, [], ◌∷◌, ℕ, length, map, All}
use Rattle.std.proofs.lemmas.List.Elements.{All-nil, All-cons, All-head, All-tail}
use Rattle.agency_wires.specs.declared.found.Found.{Found}
use Rattle.agency_wires.specs.declared.found.Found.TheVariants as found
use Rattle.agency_wires.specs.Messages.{messages}
use Rattle.agency_runs.specs.Places.{IsPlaced}
use Rattle.agency_runs.proofs.Places.{messages_placed}
use Rattle.wire_bodies.specs.Bodies.{agency_member, FitsMember}

placed_fits : (x : Found) → IsPlaced x → FitsMember (agency_member x)
placed_fits (found.Message at bytes) placed = placed
placed_fits (found.TooLong at) placed = tt

all_fit : (xs : List Found) → All IsPlaced xs → All FitsMember (map agency_member xs)
all_fit [] all = All-nil FitsMember
all_fit (x ∷ xs) all = All-cons FitsMember (agency_member x) (map agency_member xs) (placed_fits x (All-head IsPlaced x xs all)) (all_fit xs (All-tail IsPlaced x xs all))

pub messages_fit : (bytes : List ℕ) → length bytes < 2 ^ 63 → All FitsMember (map agency_member (messages bytes))
messages_fit bytes lt = all_fit (messages bytes) (messages_placed bytes lt)

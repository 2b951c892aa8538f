-- What a state of reading stands for.
use Rattle.std.specs.Prelude.{◌≡◌, ℕ, ◌+◌, ◌-◌, ◌<◌, ◌≤◌, List, [], ◌∷◌, ◌++◌, length, Option, Some, None}
use Rattle.agency_wires.specs.declared.found.Found.{Found}
use Rattle.agency_wires.specs.declared.found.Found.TheVariants as found
use Rattle.agency_wires.specs.declared.phase.Phase.{Phase}
use Rattle.agency_wires.specs.declared.phase.Phase.TheVariants.{Head}
use Rattle.agency_wires.specs.declared.reach.End.{End}
use Rattle.agency_wires.specs.declared.reach.End.TheVariants.{Whole, TooLong}
use Rattle.agency_wires.specs.Messages.{messages_from}
use Rattle.agency_wires.specs.Machine.{Leads}

-- what has come of a message leads to its phase, and outside a message nothing is held
abbrev pub IsOpen : ℕ → Option Phase → List ℕ → Type 0
IsOpen at None held = held ≡ []
IsOpen at (Some p) held = (length held < at) × (length held ≤ 1_048_576) × Leads Head held p

-- what the rest of the input has, together with what has come of a message
abbrev pub ahead_of : ℕ → Option Phase → List ℕ → List ℕ → List Found
ahead_of at None held more = messages_from at more
ahead_of at (Some p) held more = messages_from (at - (length held + 1)) (1 ∷ (held ++ more))

-- what is over before this place
abbrev pub closing : ℕ → List ℕ → End → Found
closing at held Whole = found.Message (at - (length held + 1)) held
closing at held TooLong = found.TooLong at

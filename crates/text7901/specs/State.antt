-- What a state of reading stands for.
use Rattle.std.specs.Prelude.{◌≡◌, ℕ, ◌+◌, ◌-◌, ◌<◌, ◌≤◌, List, [], ◌∷◌, ◌++◌, length, Option, Some, None}
use Rattle.text7901.specs.declared.found.What.{What}
use Rattle.text7901.specs.declared.found.Found.{Found}
use Rattle.text7901.specs.declared.found.Found.TheVariants.{Story, Fault}
use Rattle.text7901.specs.declared.phase.Phase.{Phase}
use Rattle.text7901.specs.declared.phase.Phase.TheVariants.{Source}
use Rattle.text7901.specs.Fields.{incoming}
use Rattle.text7901.specs.Wire.{wire_from}
use Rattle.text7901.specs.Machine.{Leads}

-- what has come of a message leads to its phase, and outside a message nothing is held
abbrev pub IsOpen : ℕ → Option Phase → List ℕ → Type 0
IsOpen at None held = held ≡ []
IsOpen at (Some p) held = (length held < at) × (length held ≤ 131071) × Leads (Source 0) held p

-- what the rest of the input has, together with what has come of a message
abbrev pub ahead_of : ℕ → Option Phase → List ℕ → List ℕ → List Found
ahead_of at None held more = wire_from at more
ahead_of at (Some p) held more = wire_from (at - (length held + 1)) (1 ∷ (held ++ more))

-- the member that ends at this place
abbrev pub closing : ℕ → List ℕ → Option What → Found
closing at held None = Story (incoming held)
closing at held (Some w) = Fault at w

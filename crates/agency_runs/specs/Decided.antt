-- What the first bytes of a wire decide.
use Rattle.std.specs.Prelude.{ℕ, ◌+◌, ◌<◌, Bool, ◌||◌, nat_lt, ◌==◌, if◌then◌else◌, List, [], ◌∷◌, ◌++◌, length, All}
use Rattle.agency_wires.specs.declared.found.Found.{Found}
use Rattle.agency_wires.specs.Gives.{IsPrefixOf}
use Rattle.agency_wires.specs.Messages.{message, found_at, messages}

-- the message behind a SOH, behind which these bytes stand, has come to its end: a byte shows it, or it has too many
abbrev pub is_decided : List ℕ → Bool
is_decided bytes = nat_lt (length (message bytes)) (length bytes) || nat_lt 1_048_576 (length (message bytes))

-- all messages of these bytes, but the last where it is not decided
abbrev pub decided_from : ℕ → List ℕ → List Found
decided_from at [] = []
decided_from at (b ∷ bytes) =
    if b == 1 then (if is_decided bytes then found_at at (message bytes) ∷ decided_from (at + 1) bytes else [])
    else decided_from (at + 1) bytes

abbrev pub decided : List ℕ → List Found
decided bytes = decided_from 0 bytes

-- whatever follows these bytes, the wire begins with these messages
abbrev pub Decide : List ℕ → List Found → Type 0
Decide bytes members = (more : List ℕ) → All (λ b. b < 256) more → IsPrefixOf members (messages (bytes ++ more))

-- these messages, and no further one
pub record AreDecided (bytes : List ℕ) (members : List Found) : Type 0 where
  pub first : Decide bytes members
  pub most : (x : Found) → Decide bytes (members ++ x ∷ []) → ⊥

abbrev pub DecidedIsMost : Type 0
DecidedIsMost = (bytes : List ℕ) → AreDecided bytes (decided bytes)

-- What the first bytes of a wire decide.
use Rattle.std.specs.Prelude.{ℕ, ◌+◌, ◌<◌, Bool, ◌||◌, nat_lt, ◌==◌, if◌then◌else◌, List, [], ◌∷◌, ◌++◌, length, All}
use Rattle.text7901.specs.declared.found.Found.{Found}
use Rattle.text7901.specs.Gives.{IsPrefixOf}
use Rattle.text7901.specs.Wire.{chunk, end_of, member, wire}

-- a message, of which these bytes stand behind its SOH, has come to its end: a byte shows it, or there are too many
abbrev pub has_ended : List ℕ → Bool
has_ended message = nat_lt 0 (end_of message).left || nat_lt 131071 (length message)

-- the message behind a SOH is decided where the next SOH has come, or where it has ended before
abbrev pub is_decided : List ℕ → Bool
is_decided bytes = nat_lt (length (chunk bytes)) (length bytes) || has_ended (chunk bytes)

-- all members of these bytes, but the last where it is not decided
abbrev pub decided_from : ℕ → List ℕ → List Found
decided_from at [] = []
decided_from at (b ∷ bytes) =
    if b == 1 then (if is_decided bytes then member at (chunk bytes) ∷ decided_from (at + 1) bytes else [])
    else decided_from (at + 1) bytes

abbrev pub decided : List ℕ → List Found
decided bytes = decided_from 0 bytes

-- whatever follows these bytes, the wire begins with these members
abbrev pub Decide : List ℕ → List Found → Type 0
Decide bytes members = (more : List ℕ) → All (λ b. b < 256) more → IsPrefixOf members (wire (bytes ++ more))

-- these members, and no further one
pub record AreDecided (bytes : List ℕ) (members : List Found) : Type 0 where
  pub first : Decide bytes members
  pub most : (x : Found) → Decide bytes (members ++ x ∷ []) → ⊥

abbrev pub DecidedIsMost : Type 0
DecidedIsMost = (bytes : List ℕ) → AreDecided bytes (decided bytes)

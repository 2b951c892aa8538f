-- What a reader still gives.
use Rattle.std.specs.Prelude.{◌≡◌, ℕ, ◌<◌, Bool, if◌then◌else◌, List, [], ◌∷◌, ◌++◌, All, Option}
use Rattle.agency_wires.specs.declared.found.Found.{Found}
use Rattle.agency_wires.specs.declared.phase.Phase.{Phase}
use Rattle.agency_wires.specs.State.{ahead_of}

-- A reader, as its caller sees it: the members that are ready, the place of the next byte, how far a message has come
-- and its bytes, and whether the input ended.
pub record Pending : Type 0 where
  pub ready : List Found
  pub at : ℕ
  pub phase : Option Phase
  pub held : List ℕ
  pub ended : Bool

-- all that it gives where more comes, and then the end
abbrev pub gives : Pending → List ℕ → List Found
gives r more = r.ready ++ (if r.ended then [] else ahead_of r.at r.phase r.held more)

abbrev pub IsPrefixOf : List Found → List Found → Type 0
IsPrefixOf xs ys = (rest : List Found) × (xs ++ rest ≡ ys)

abbrev pub BeginsWith : Found → List Found → Type 0
BeginsWith x ys = (rest : List Found) × (x ∷ rest ≡ ys)

-- no member comes next whatever bytes follow
abbrev pub IsUndecided : Pending → Type 0
IsUndecided r = (x : Found) → ((more : List ℕ) → All (λ b. b < 256) more → BeginsWith x (gives r more)) → ⊥

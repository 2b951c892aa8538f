-- How far a wire was read.
use Rattle.std.specs.Prelude.{◌≡◌, ℕ, false, List, [], ◌++◌, length}
use Rattle.agency_wires.specs.Gives.{Pending, gives}
use Rattle.agency_wires.specs.Messages.{messages}
use Rattle.agency_runs.specs.Decided.{decided}

-- a reader of a wire has taken these bytes, and what they decide was taken from it
pub record HasTaken (r : Pending) (read : List ℕ) : Type 0 where
  pub going : r.ended ≡ false
  pub place : r.at ≡ length read
  pub none : r.ready ≡ []
  pub rest : (more : List ℕ) → decided read ++ gives r more ≡ messages (read ++ more)

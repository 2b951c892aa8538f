-- Counts of device calls of a journal.
use Rattle.std.specs.Prelude.{ℕ, ◌+◌, ◌≤◌, Bool, true, false}

-- at most so many were made
pub record CalledWithin (most before now : ℕ) : Type 0 where
  pub later : before ≤ now
  pub at_most : now ≤ before + most

-- a gate that may stand open is written and synced first
abbrev pub quieting_calls : Bool → ℕ
quieting_calls true = 2
quieting_calls false = 0

-- a record is written and synced, and then its gate
abbrev pub append_calls : Bool → ℕ
append_calls ajar = quieting_calls ajar + 4

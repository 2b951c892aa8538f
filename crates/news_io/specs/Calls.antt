-- Counts of device calls.
use Rattle.std.specs.Prelude.{ℕ, ◌+◌, ◌≤◌}

-- One call was made. It counts as at most one, because a counter of 64 bits stays at its last value and an adapter need keep none.
-- So a run of n calls has counted at most n, and only such upper bounds can be told.
pub record Called (before now : ℕ) : Type 0 where
  pub later : before ≤ now
  pub at_most_one : now ≤ before + 1

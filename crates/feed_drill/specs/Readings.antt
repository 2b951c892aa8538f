-- What becomes of the clock that is read as a drill goes on.
use Rattle.std.specs.Prelude.{◌≡◌, ℕ, ◌+◌, ◌≤◌, length}
use Rattle.news_io.specs.Clock.{ClockMeaning}
use Rattle.run_status.specs.declared.status.Status.{Status}
use Rattle.run_status.specs.declared.status.Status.TheVariants as status
use Rattle.drill_plan.specs.Plan.{plan}

module _ {C : Type 0} (clock : ClockMeaning C) where
  -- it was read so many times, and the readings behind those are still to come
  pub record IsRead (n : ℕ) (old new : C) : Type 0 where
    pub told : clock.tells old → clock.tells new
    pub ahead : clock.tells old → (k : ℕ) → clock.ahead new k ≡ clock.ahead old (n + k)

  -- it was read no more often
  abbrev pub IsReadAtMost : ℕ → C → C → Type 0
  IsReadAtMost most old new = (n : ℕ) × (n ≤ most) × IsRead n old new

  -- a drill of n stories with this seed reads it once for each planned request, or, where there is no report, no more often
  abbrev pub IsReadByDrill : ℕ → ℕ → C → C → Status → Type 0
  IsReadByDrill n seed old new status.Done = IsRead (length (plan n seed)) old new
  IsReadByDrill n seed old new status.Output = IsRead (length (plan n seed)) old new
  IsReadByDrill n seed old new status.Memory = IsReadAtMost (length (plan n seed)) old new
  IsReadByDrill n seed old new status.Full = IsReadAtMost (length (plan n seed)) old new
  IsReadByDrill n seed old new _ = ⊥

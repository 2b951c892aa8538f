-- The two numbers beside a call: how often the keeper has failed, and the bytes that it uses.
use Rattle.std.specs.Prelude.{ℕ}

pub record Beside : Type 0 where
  pub faults : ℕ
  pub used : ℕ
  pub later_faults : ℕ
  pub later_used : ℕ

abbrev pub beside : ℕ → ℕ → ℕ → ℕ → Beside
beside faults used later_faults later_used = record { faults = faults; used = used; later_faults = later_faults; later_used = later_used }

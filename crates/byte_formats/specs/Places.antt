-- Where bytes stop being a spelling.
use Rattle.std.specs.Prelude.{◌≡◌, ℕ, ◌<◌, ◌≤◌, ◌+◌, List, length, take}
use Rattle.byte_formats.specs.Lawful.{Begins}

-- The bytes are no value's, and none goes on with those up to and with the place.
pub record IsDeadAt {A : Type 0} (spell : A → List ℕ) (P : A → Type 0) (bytes : List ℕ) (at : ℕ) : Type 0 where
  pub within : at ≤ length bytes
  pub here : at < length bytes → Begins spell P (take (at + 1) bytes) → ⊥
  pub none : (x : A) → P x → spell x ≡ bytes → ⊥

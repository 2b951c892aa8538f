-- Where bytes stop being a spelling.
use Rattle.std.specs.Prelude.{◌≡◌, ℕ, ◌<◌, ◌≤◌, ◌+◌, List, length, take}
use Rattle.byte_formats.specs.Lawful.{Begins}

-- The bytes are no value's. Those before the place begin a value's, and those up to and with it don't.
pub record IsFaultAt {A : Type 0} (spell : A → List ℕ) (P : A → Type 0) (bytes : List ℕ) (at : ℕ) : Type 0 where
  pub within : at ≤ length bytes
  pub before : Begins spell P (take at bytes)
  pub here : at < length bytes → Begins spell P (take (at + 1) bytes) → ⊥
  pub none : (x : A) → P x → spell x ≡ bytes → ⊥

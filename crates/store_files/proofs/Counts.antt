-- Counts of two disks, as their sum.
use Rattle.std.proofs.Common.{◌≡◌, inl, inr, ℕ, ◌+◌, ◌≤◌, Result, Ok, Err, arith}
use Rattle.std.specs.Prelude.{OnOk}
use Rattle.news_io.specs.Faults.{Rose}

-- a rise of one count is one of the sum
pub rose_left : (a a' b b' : ℕ) → b ≤ b' → Rose a a' → Rose (a + b) (a' + b')
rose_left a a' b b' le (inl more) = inl (omega (arith, le, more))
rose_left a a' b b' le (inr last) = inr (omega (arith, le, last))

pub rose_right : (a a' b b' : ℕ) → a ≤ a' → Rose b b' → Rose (a + b) (a' + b')
rose_right a a' b b' le (inl more) = inl (omega (arith, le, more))
rose_right a a' b b' le (inr last) = inr (omega (arith, le, last))

-- and without a failure it is as it was
pub side_calm : {E : Type 0} (a a' b b' : ℕ) → a' ≡ a → (r : Result (Unit {0}) E) → OnOk r (b' ≡ b) → OnOk r (a' + b' ≡ a + b)
side_calm a a' b b' first (Ok u) second = omega (arith, first, second)
side_calm a a' b b' first (Err e) second = tt

-- what follows without a failure
pub on_ok_then : {E P Q : Type 0} → (P → Q) → (r : Result (Unit {0}) E) → OnOk r P → OnOk r Q
on_ok_then f (Ok u) p = f p
on_ok_then f (Err e) p = tt

-- The moment of a text, by its parts.
use Rattle.std.specs.Prelude.{◌≡◌, ℕ, ℤ, ◌≤◌, ◌-ℤ◌, nat_lt, false, List, length, take, drop, Some}
use Rattle.std.proofs.Common.{arith, refl}
use Rattle.std.proofs.lemmas.Bool.Decides.{nat_tests}
use Rattle.agency_items.specs.Moments.{second_at, behind_second, clock_seconds_of, zone_at, from_1970, moment_of}

pub from_1970-moment_of : (text rest : List ℕ) (second : ℕ) (seconds offset : ℤ) → 16 ≤ length text
    → second_at (drop 16 text) ≡ Some second → clock_seconds_of (take 16 text) (Some second) ≡ Some seconds
    → behind_second (drop 16 text) ≡ Some rest → zone_at rest ≡ Some offset
    → from_1970 (seconds -ℤ offset) ≡ moment_of text
from_1970-moment_of text rest second seconds offset long at clock zone ahead =
    let there : nat_lt (length text) 16 ≡ false = grind (arith, nat_tests) in
    rw (there, at, clock, zone, ahead) refl

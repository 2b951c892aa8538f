-- The room in a row, and what a place among those that wait can hold.
use Rattle.std.specs.Prelude.{◌≡◌, ℕ, ◌+◌, ◌<◌, ◌≤◌, Bool, ◌&&◌, nat_le, nat_lt, List, vec_len, vec_capacity}
use Rattle.std.specs.List.{All}
use Rattle.news_types.specs.declared.query.Due.{Due}
use Rattle.publish_queue.specs.declared.release.Release.{Release}
use Rattle.publish_queue.specs.declared.row.Row.{Row}

-- so many entries more take no memory
pub record HasPlaces (n : ℕ) (row : Row) : Type 0 where
  pub numbers : vec_len row.numbers + n ≤ vec_capacity row.numbers
  pub releases : vec_len row.numbers + n ≤ vec_capacity row.releases

-- the row has not lost room
pub record KeepsPlaces (old new : Row) : Type 0 where
  pub long : vec_len new.numbers ≡ vec_len old.numbers
  pub numbers : vec_capacity old.numbers ≤ vec_capacity new.numbers
  pub releases : vec_capacity old.releases ≤ vec_capacity new.releases

-- ---- those that wait

-- it can wait: its number has 26 bits and is not 0, and its moment has 38
pub record FitsPlace (r : Release) : Type 0 where
  pub from : 1 ≤ r.number
  pub number : r.number < 67108864
  pub moment : r.moment < 274877906944

-- the same, as a test
abbrev pub fits_place : Release → Bool
fits_place r = nat_le 1 r.number && (nat_lt r.number 67108864 && nat_lt r.moment 274877906944)

-- the publication of that number, for one to whom it is due
abbrev pub fits_due : ℕ → Due → Bool
fits_due number d = fits_place (record { moment = d.release; number = number })

-- and for all of them
abbrev pub AllFit : ℕ → List Due → Type 0
AllFit number due = All (λ (d : Due). FitsPlace (record { moment = d.release; number = number })) due

-- the publication of that number can wait until its own release, and for all to whom it is due
pub record FitsPlaces (number release : ℕ) (due : List Due) : Type 0 where
  pub own : FitsPlace (record { moment = release; number = number })
  pub each : AllFit number due

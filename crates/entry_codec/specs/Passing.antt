-- What a call answers that passes over a value and does not make it.
use Rattle.std.specs.Prelude.{◌≡◌, ℕ, List, Result, Ok, Err}
use Rattle.news_types.specs.declared.entry.Entry.{Entry}
use Rattle.byte_formats.specs.declared.stop.Stopped.{Stopped}
use Rattle.byte_formats.specs.Gives.{Fails}

-- what is left behind a value that is read
abbrev pub left_behind : {A : Type 0} → Result (A × List ℕ) ℕ → Result (List ℕ) ℕ
left_behind (Ok x) = Ok x.1
left_behind (Err left) = Err left

-- It leaves what reading leaves, and stops where reading stops, unless memory ran out.
abbrev pub Passes : {A B : Type 0} → Result B Stopped → List ℕ → Result (A × List ℕ) ℕ → Type 0
Passes (Ok done) rest read = left_behind read ≡ Ok rest
Passes (Err e) rest read = Fails e read

-- an entry's moment, and what is left behind the entry
abbrev pub moment_behind : Result (Entry × List ℕ) ℕ → Result (ℕ × List ℕ) ℕ
moment_behind (Ok x) = Ok (x.0.moment, x.1)
moment_behind (Err left) = Err left

abbrev pub PassesEntry : Result ℕ Stopped → List ℕ → Result (Entry × List ℕ) ℕ → Type 0
PassesEntry (Ok moment) rest read = moment_behind read ≡ Ok (moment, rest)
PassesEntry (Err e) rest read = Fails e read

-- the same of an entry that all of the bytes spell
abbrev pub moment_alone : Result Entry ℕ → Result ℕ ℕ
moment_alone (Ok e) = Ok e.moment
moment_alone (Err left) = Err left

abbrev pub PassesAll : Result ℕ Stopped → Result Entry ℕ → Type 0
PassesAll (Ok moment) read = moment_alone read ≡ Ok moment
PassesAll (Err e) read = Fails e read

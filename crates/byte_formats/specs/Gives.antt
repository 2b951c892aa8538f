-- What a call that reads answers, beside what the format's own reading gives.
use Rattle.std.specs.Prelude.{◌≡◌, ℕ, List, length, take, drop, ◌+◌, Option, Some, None, Result, Ok, Err, ◌==◌, if◌then◌else◌}
use Rattle.std.specs.Global.{Vec}
use Rattle.byte_formats.specs.declared.stop.Stopped.{Stopped}
use Rattle.byte_formats.specs.declared.stop.Stopped.TheVariants as stopped
use Rattle.byte_formats.specs.declared.line.Move.{Move}
use Rattle.byte_formats.specs.declared.line.Move.TheVariants as move
use Rattle.byte_formats.specs.Format.{Format, ◌>>=◌}

-- Reading fails with as many bytes left; want of memory says nothing.
abbrev pub Fails : {A : Type 0} → Stopped → Result A ℕ → Type 0
Fails stopped.Memory read = Unit {0}
Fails (stopped.Left left) read = read ≡ Err left

-- It stopped at a fault, and not for want of memory.
abbrev pub IsFault : Stopped → Type 0
IsFault stopped.Memory = ⊥
IsFault (stopped.Left left) = Unit {0}

-- What a call returned, and what it left, is what reading gives, unless memory ran out.
abbrev pub Gives : {A : Type 0} → Result A Stopped → List ℕ → Result (A × List ℕ) ℕ → Type 0
Gives (Ok x) rest read = read ≡ Ok (x, rest)
Gives (Err e) rest read = Fails e read

-- the same of a vector's items
abbrev pub GivesItems : {A : Type 0} → Result (Vec A) Stopped → List ℕ → Result (List A × List ℕ) ℕ → Type 0
GivesItems (Ok v) rest read = read ≡ Ok (v.items, rest)
GivesItems (Err e) rest read = Fails e read

-- the same of a value that all of the bytes spell
abbrev pub GivesAll : {A : Type 0} → Result A Stopped → Result A ℕ → Type 0
GivesAll (Ok x) read = read ≡ Ok x
GivesAll (Err e) read = Fails e read

-- Where no fault is found, the first n bytes are read.
abbrev pub Judges : Option ℕ → ℕ → List ℕ → Result (List ℕ × List ℕ) ℕ → Type 0
Judges None n bytes read = read ≡ Ok (take n bytes, drop n bytes)
Judges (Some left) n bytes read = read ≡ Err left

-- all of the bytes: a byte too many is a fault
unfoldable pub all_of : {A : Type 0} → Format A → List ℕ → Result A ℕ
all_of F bytes = F.read bytes >>= λ x. if length x.1 == 0 then Ok x.0 else Err (length x.1)

-- Where a word is found, its n bytes and the one that ends it are read.
abbrev pub GivesWord : Result ℕ ℕ → List ℕ → Result (List ℕ × List ℕ) ℕ → Type 0
GivesWord (Ok n) bytes read = read ≡ Ok (take n bytes, drop (n + 1) bytes)
GivesWord (Err left) bytes read = read ≡ Err left

-- Where a number is found, its digits and the byte that ends it are read.
abbrev pub GivesNumber : Result (ℕ × ℕ) ℕ → List ℕ → Result (ℕ × List ℕ) ℕ → Type 0
GivesNumber (Ok found) bytes read = read ≡ Ok (found.0, drop (found.1 + 1) bytes)
GivesNumber (Err left) bytes read = read ≡ Err left

-- what a byte does to the number so far
abbrev pub IsMove : Move → Option ℕ → Option (Option (Option ℕ)) → Type 0
IsMove (move.On next) value step = step ≡ Some (Some (Some next))
IsMove (move.End found) value step = (step ≡ Some None) × (value ≡ Some found)
IsMove move.Refused value step = step ≡ None

-- The laws of the parts of a path.
use Rattle.std.specs.Prelude.{◌≡◌, ◌↔◌, ◌<◌, ℕ, suc, false, List, [], ◌∷◌, ◌++◌, ◌==◌, slice_get, decimal, Some}
use Rattle.std.specs.List.{list_any}
use Rattle.news_types.specs.Names.{Bytes}
use Rattle.news_types.specs.Members.{Each}
use Rattle.desk_routes.specs.Paths.{part, number_in}

-- each number below 4294967296 is read from its own decimal, and from nothing else
abbrev pub NumbersAreDecimals : Type 0
NumbersAreDecimals = (text : Bytes) (n : ℕ) → (number_in text ≡ Some n) ↔ ((n < 4294967296) × (text ≡ decimal n))

-- a part has no slash in it
abbrev pub IsPlain : Bytes → Type 0
IsPlain text = list_any (λ b. b == 47) text ≡ false

-- the path of these parts, each behind a slash
abbrev pub path_of : List Bytes → Bytes
path_of [] = []
path_of (text ∷ parts) = 47 ∷ text ++ path_of parts

-- a path that is made of parts gives each of them back
abbrev pub PartsComeBack : Type 0
PartsComeBack = (parts : List Bytes) (i : ℕ) (text : Bytes) → Each IsPlain parts → slice_get parts i ≡ Some text → part (suc i) (path_of parts) ≡ text

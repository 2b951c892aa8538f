-- A log in the making.
use Rattle.std.specs.Prelude.{◌≡◌, ◌⊎◌, ℕ, List, [], Option, Some, length, take}
use Rattle.news_journal.specs.Damage.{damage}
use Rattle.news_journal.specs.Log.{header_bytes}
use Rattle.news_journal.specs.Opened.{IsLog}
use Rattle.news_journal.specs.declared.header.Header.{Header}
use Rattle.news_journal.specs.declared.header.Header.TheVariants.{Room, Receiver}

abbrev pub IsDamaged : List ℕ → Type 0
IsDamaged file = (found : ℕ × Option ℕ) × (damage file ≡ Some found)

-- a file that is empty, or damaged, or a log with the header that a new one is given, and without a record
abbrev pub IsInTheMaking : Header → List ℕ → Type 0
IsInTheMaking header file = (file ≡ []) ⊎ (IsDamaged file ⊎ (IsLog header [] file × (take 64 file ≡ header_bytes header)))

abbrev pub IsRoom : Header → Type 0
IsRoom (Room store) = length store ≡ 16
IsRoom (Receiver name) = ⊥

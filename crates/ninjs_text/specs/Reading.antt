-- How an item is read: one property after another, and the first that is faulty ends it.
use Rattle.std.specs.Prelude.{◌≡◌, ℕ, List, Option, None, Result, Ok, Err, if◌then◌else◌}
use Rattle.std.specs.Str.{is_utf8}
use Rattle.serde_json.specs.Data.{Data}
use Rattle.serde_json.specs.Read.{read}
use Rattle.ninjs_text.specs.declared.fault.NinjsFault.{NinjsFault}
use Rattle.ninjs_text.specs.declared.fault.NinjsFault.TheVariants.{NotJson, Memory}

-- the value of a whole text of UTF-8, nested at most 127 deep
abbrev pub json_of : List ℕ → Option Data
json_of bytes = if is_utf8 bytes then read bytes else None

-- the fault of bytes that are not JSON, or want of memory
abbrev pub IsNoJson : List ℕ → NinjsFault → Type 0
IsNoJson bytes NotJson = json_of bytes ≡ None
IsNoJson bytes Memory = Unit {0}
IsNoJson bytes _ = ⊥

-- what is said is what was read, the first fault, or want of memory
abbrev pub IsRead : {A : Type 0} → Result A NinjsFault → Result A NinjsFault → Type 0
IsRead said (Ok a) = said ≡ Ok a
IsRead said (Err Memory) = Unit {0}
IsRead said (Err fault) = said ≡ Err fault

-- one property and then the next
abbrev pub then_read : {A B : Type 0} → Result A NinjsFault → (A → Result B NinjsFault) → Result B NinjsFault
then_read (Ok a) next = next a
then_read (Err fault) next = Err fault

-- How an item is read: one part after another, and the first that is faulty ends it.
use Rattle.std.specs.Prelude.{◌≡◌, ℕ, List, [], Option, Some, None, Result, Ok, Err}
use Rattle.news_types.specs.Names.{Bytes}
use Rattle.ninjs_text.specs.Reading.{json_of}
use Rattle.agency_items.specs.declared.fault.ItemFault.{ItemFault}
use Rattle.agency_items.specs.declared.fault.ItemFault.TheVariants.{NotJson}
use Rattle.agency_items.specs.declared.fault.Refusal.{Refusal}
use Rattle.agency_items.specs.declared.fault.Refusal.TheVariants.{Memory, Fault}

-- what is said is what was read, the first fault, or want of memory
abbrev pub IsRead : {A : Type 0} → Result A ItemFault → Result A Refusal → Type 0
IsRead said (Ok a) = said ≡ Ok a
IsRead said (Err Memory) = Unit {0}
IsRead said (Err (Fault fault)) = said ≡ Err fault

-- one part and then the next
abbrev pub then_read : {A B : Type 0} → Result A ItemFault → (A → Result B ItemFault) → Result B ItemFault
then_read (Ok a) next = next a
then_read (Err fault) next = Err fault

-- a part, or where it is missing another one
abbrev pub else_read : {A : Type 0} → Result (Option A) ItemFault → Result (Option A) ItemFault → Result (Option A) ItemFault
else_read (Ok None) other = other
else_read (Ok (Some a)) other = Ok (Some a)
else_read (Err fault) other = Err fault

-- a text that may be missing
abbrev pub or_empty : Option Bytes → Bytes
or_empty None = []
or_empty (Some bytes) = bytes

-- the fault of bytes that are not JSON, or want of memory
abbrev pub IsNoJson : List ℕ → Refusal → Type 0
IsNoJson bytes Memory = Unit {0}
IsNoJson bytes (Fault NotJson) = json_of bytes ≡ None
IsNoJson bytes (Fault _) = ⊥

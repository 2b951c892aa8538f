-- How an object is read: one property after another, and the first that is bad ends it.
use Rattle.std.specs.Prelude.{◌≡◌, ℕ, suc, List, [], ◌∷◌, nat_le, ◌&&◌, Bool, true, is_some, Option, Some, None, option_and_then, Result, Ok, Err, if◌then◌else◌}
use Rattle.std.specs.Str.{is_utf8}
use Rattle.serde_json.specs.Data.{Data, Items, no_items, item}
use Rattle.serde_json.specs.Find.{get, as_null, as_array, as_object}
use Rattle.serde_json.specs.Read.{read}
use Rattle.desk_lines.specs.declared.property.LineProperty.{LineProperty}
use Rattle.desk_lines.specs.declared.property.LineFault.{LineFault}
use Rattle.desk_lines.specs.declared.property.LineFault.TheVariants.{Bad, Memory}
use Rattle.desk_lines.specs.Properties.{property_word}

-- the value of a whole text of UTF-8, nested at most 127 deep
abbrev pub json_of : List ℕ → Option Data
json_of bytes = if is_utf8 bytes then read bytes else None

-- what a value says, if it is of the form
abbrev pub Form : Type 0 → Type 0
Form A = Data → Option A

-- what an object says, or its first bad property
abbrev pub Says : Type 0 → Type 0
Says A = Data → Result A LineProperty

-- what is said is what was read, the first bad property, or want of memory
abbrev pub IsRead : {A : Type 0} → Result A LineProperty → Result A LineFault → Type 0
IsRead said (Ok a) = said ≡ Ok a
IsRead said (Err (Bad property)) = said ≡ Err property
IsRead said (Err Memory) = Unit {0}

-- the same of a value that is seen otherwise
abbrev pub IsReadAs : {A B : Type 0} → (B → A) → Result A LineProperty → Result B LineFault → Type 0
IsReadAs seen said (Ok b) = said ≡ Ok (seen b)
IsReadAs seen said (Err (Bad property)) = said ≡ Err property
IsReadAs seen said (Err Memory) = Unit {0}

abbrev pub then_read : {A B : Type 0} → Result A LineProperty → (A → Result B LineProperty) → Result B LineProperty
then_read (Ok a) next = next a
then_read (Err property) next = Err property

-- ---- one property after another: `do desk ← needs the.Desk name; stage ← needs the.Stage name; gives (AddStage desk stage)`

infixl 10 ◌>>=◌
abbrev pub ◌>>=◌ : {A B : Type 0} → Says A → (A → Says B) → Says B
(says >>= next) d = then_read (says d) (λ a. next a d)

abbrev pub gives : {A : Type 0} → A → Says A
gives a d = Ok a

-- ---- one property

abbrev pub or_bad : {A : Type 0} → LineProperty → Option A → Result A LineProperty
or_bad p None = Err p
or_bad p (Some a) = Ok a

abbrev pub property : LineProperty → Data → Option Data
property p d = get (property_word p) d

-- it has to be there
abbrev pub needed : {A : Type 0} → LineProperty → Form A → Option Data → Result A LineProperty
needed p form None = Err p
needed p form (Some v) = or_bad p (form v)

abbrev pub needs : {A : Type 0} → LineProperty → Form A → Says A
needs p form d = needed p form (property p d)

-- it may be missing, and then counts as this
abbrev pub or_default : {A : Type 0} → LineProperty → Form A → A → Option Data → Result A LineProperty
or_default p form default None = Ok default
or_default p form default (Some v) = or_bad p (form v)

abbrev pub may : {A : Type 0} → LineProperty → Form A → A → Says A
may p form default d = or_default p form default (property p d)

-- it is given, or missing or null
abbrev pub unless_null : {A : Type 0} → Form A → Form (Option A)
unless_null form v = if is_some (as_null v) then Some None else option_and_then (λ a. Some (Some a)) (form v)

abbrev pub option : {A : Type 0} → LineProperty → Form A → Says (Option A)
option p form d = or_default p (unless_null form) None (property p d)

-- ---- objects inside

abbrev pub object_in : {A : Type 0} → LineProperty → Says A → Data → Result A LineProperty
object_in p says v = if is_some (as_object v) then says v else Err p

abbrev pub needed_object : {A : Type 0} → LineProperty → Says A → Option Data → Result A LineProperty
needed_object p says None = Err p
needed_object p says (Some v) = object_in p says v

-- an object that has to be there
abbrev pub inside : {A : Type 0} → LineProperty → Says A → Says A
inside p says d = needed_object p says (property p d)

abbrev pub given_object : {A : Type 0} → LineProperty → Says A → Option Data → Result (Option A) LineProperty
given_object p says None = Ok None
given_object p says (Some v) = if is_some (as_null v) then Ok None else then_read (object_in p says v) (λ a. Ok (Some a))

-- an object, or missing or null
abbrev pub may_inside : {A : Type 0} → LineProperty → Says A → Says (Option A)
may_inside p says d = given_object p says (property p d)

-- ---- lists of objects: the list is judged whole, and then what stands inside, one after another

abbrev pub count : Items → ℕ
count no_items = 0
count (item d ds) = suc (count ds)

abbrev pub all_objects : Items → Bool
all_objects no_items = true
all_objects (item d ds) = is_some (as_object d) && all_objects ds

abbrev pub put_first : {A : Type 0} → A → Result (List A) LineProperty → Result (List A) LineProperty
put_first first (Ok found) = Ok (first ∷ found)
put_first first (Err p) = Err p

abbrev pub read_each : {A : Type 0} → Says A → Items → Result (List A) LineProperty
read_each says no_items = Ok []
read_each says (item d ds) = then_read (says d) (λ first. put_first first (read_each says ds))

abbrev pub each_of : {A : Type 0} → LineProperty → ℕ → Says A → Option Items → Result (List A) LineProperty
each_of p limit says None = Err p
each_of p limit says (Some ds) = if nat_le (count ds) limit && all_objects ds then read_each says ds else Err p

abbrev pub each_given : {A : Type 0} → LineProperty → ℕ → Says A → Option Data → Result (List A) LineProperty
each_given p limit says None = Ok []
each_given p limit says (Some v) = each_of p limit says (as_array v)

-- at most so many objects, none where the list is missing
abbrev pub each : {A : Type 0} → LineProperty → ℕ → Says A → Says (List A)
each p limit says d = each_given p limit says (property p d)

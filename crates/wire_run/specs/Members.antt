-- What the members of an input are answered: a story as what answers stories means it, a fault by its line.
use Rattle.std.specs.Prelude.{◌≡◌, ℕ, false, List, [], ◌∷◌, codes, Option, Some, None, Result, Ok, Err, Vec}
use Rattle.std.specs.declared.alloc.Global.{Global}
use Rattle.news_types.specs.Names.{Bytes}
use Rattle.news_types.specs.declared.story.Incoming.{Incoming}
use Rattle.line_run.specs.Life.{Outcome, Meaning}
use Rattle.line_run.specs.declared.answering.Stopped.{Stopped}
use Rattle.line_run.specs.declared.answering.Stopped.TheVariants as stopped
use Rattle.text7901.specs.declared.found.What.{What}
use Rattle.text7901.specs.declared.found.What.TheVariants as what
use Rattle.text7901.specs.declared.found.Found.{Found}
use Rattle.text7901.specs.declared.found.Found.TheVariants as found
use Rattle.ninjs_text.specs.declared.fault.NinjsFault.{NinjsFault}
use Rattle.ninjs_text.specs.declared.fault.NinjsFault.TheVariants as fault
use Rattle.ninjs_text.specs.Properties.{property_name}
use Rattle.ninjs_text.specs.Item.{ninjs}
use Rattle.desk_answers.specs.Answers.{fault_bytes}

-- this text, and nothing is added or read
abbrev pub only_told : {T : Type 0} → List ℕ → Outcome T
only_told text = record { text = text; adds = []; passes = false; took = [] }

-- the text, or want of memory for it
abbrev pub IsText : List ℕ → Result (Vec ℕ Global) Stopped → Type 0
IsText bytes (Ok text) = text.items ≡ bytes
IsText bytes (Err why) = why ≡ stopped.Memory

-- ---- a wire

abbrev pub what_word : What → Bytes
what_word what.NoHeader = codes "NoHeader"
what_word what.NoText = codes "NoText"
what_word what.NoEnd = codes "NoEnd"
what_word what.TooLong = codes "TooLong"

abbrev pub of_found : {T : Type 0} → Meaning T Incoming → Meaning T Found
of_found M h (found.Story incoming) at = M h incoming at
of_found M h (found.Fault place is) at = only_told (fault_bytes (Some place) (what_word is) None)

-- ---- an item

abbrev pub fault_word : NinjsFault → Bytes
fault_word fault.NotJson = codes "NotJson"
fault_word fault.NotObject = codes "NotObject"
fault_word fault.NoUri = codes "NoUri"
fault_word (fault.WrongType property) = codes "WrongType"
fault_word (fault.TooLong property) = codes "TooLong"
fault_word fault.Memory = codes "Memory"

-- the property that a fault is of
abbrev pub fault_property : NinjsFault → Option Bytes
fault_property (fault.WrongType property) = Some (property_name property)
fault_property (fault.TooLong property) = Some (property_name property)
fault_property _ = None

abbrev pub of_item : {T : Type 0} → Meaning T Incoming → Meaning T (Result Incoming NinjsFault)
of_item M h (Ok incoming) at = M h incoming at
of_item M h (Err is) at = only_told (fault_bytes None (fault_word is) (fault_property is))

-- the whole input is one item
abbrev pub one_item : List ℕ → List (Result Incoming NinjsFault)
one_item bytes = ninjs bytes ∷ []

-- before its end the input decides none
abbrev pub no_item : List ℕ → List (Result Incoming NinjsFault)
no_item bytes = []

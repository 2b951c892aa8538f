-- What the members of an input, as agencies send it, are answered: a story as what answers stories means it, a fault by its line.
use Rattle.std.specs.Prelude.{ℕ, ◌+◌, false, List, [], ◌∷◌, codes, Option, Some, None, Result, Ok, Err}
use Rattle.news_types.specs.Names.{Bytes}
use Rattle.news_types.specs.declared.story.Incoming.{Incoming}
use Rattle.line_run.specs.Life.{Outcome, Meaning}
use Rattle.desk_answers.specs.Answers.{fault_bytes}
use Rattle.wire_run.specs.Members.{only_told}
use Rattle.agency_wires.specs.declared.fault.What.{What}
use Rattle.agency_wires.specs.declared.fault.What.TheVariants as what
use Rattle.agency_wires.specs.declared.fault.WireFault.{WireFault}
use Rattle.agency_wires.specs.declared.fault.WireFault.TheVariants as wire_fault
use Rattle.agency_wires.specs.declared.found.Found.{Found}
use Rattle.agency_wires.specs.declared.found.Found.TheVariants as found
use Rattle.agency_wires.specs.Reading.{told}
use Rattle.agency_items.specs.declared.fault.ItemFault.{ItemFault}
use Rattle.agency_items.specs.declared.fault.ItemFault.TheVariants as item_fault
use Rattle.agency_items.specs.Names.{lower_name}

-- ---- a wire

abbrev pub what_word : What → Bytes
what_word what.NotThisForm = codes "NotThisForm"
what_word what.NoHeader = codes "NoHeader"
what_word what.NoText = codes "NoText"
what_word what.NoEnd = codes "NoEnd"
what_word what.TooLong = codes "TooLong"

-- a message that is too long, at the first byte for which it has no room
abbrev pub too_long_bytes : ℕ → List ℕ
too_long_bytes at = fault_bytes (Some at) (codes "TooLong") None

-- a fault of the message whose SOH stands at a place of the input, so many bytes behind the SOH
abbrev pub message_fault_bytes : ℕ → ℕ → What → List ℕ
message_fault_bytes at within is = fault_bytes (Some (at + 1 + within)) (what_word is) None

-- this text by one reading of the clock, and nothing is added
abbrev pub told_once : {T : Type 0} → ℕ → List ℕ → Outcome T
told_once reading text = record { text = text; adds = []; passes = false; took = reading ∷ [] }

-- What a message comes to that was read on the day of a reading. No message says that there is no memory.
abbrev pub of_told : {T : Type 0} → Meaning T Incoming → List T → ℕ → ℕ → Result Incoming WireFault → Outcome T
of_told M h at reading (Ok incoming) = M h incoming reading
of_told M h at reading (Err (wire_fault.Fault within is)) = told_once reading (message_fault_bytes at within is)
of_told M h at reading (Err wire_fault.Memory) = told_once reading (fault_bytes (Some at) (codes "Memory") None)

-- what was cut out of a wire, each message by one reading of the clock
abbrev pub of_message : {T : Type 0} → Meaning T Incoming → Meaning T Found
of_message M h (found.Message at bytes) reading = of_told M h at reading (told reading bytes)
of_message M h (found.TooLong at) reading = only_told (too_long_bytes at)

-- ---- items

abbrev pub item_word : ItemFault → Bytes
item_word item_fault.NotJson = codes "NotJson"
item_word item_fault.NotObject = codes "NotObject"
item_word item_fault.NoUri = codes "NoUri"
item_word item_fault.WrongKind = codes "WrongKind"
item_word (item_fault.WrongType property) = codes "WrongType"
item_word (item_fault.TooLong property) = codes "TooLong"

-- the property that a fault is of
abbrev pub item_property : ItemFault → Option Bytes
item_property (item_fault.WrongType property) = Some (lower_name property)
item_property (item_fault.TooLong property) = Some (lower_name property)
item_property _ = None

abbrev pub of_read : {T : Type 0} → Meaning T Incoming → Meaning T (Result Incoming ItemFault)
of_read M h (Ok incoming) reading = M h incoming reading
of_read M h (Err is) reading = only_told (fault_bytes None (item_word is) (item_property is))

-- before its end the input decides none
abbrev pub no_item : List ℕ → List (Result Incoming ItemFault)
no_item bytes = []

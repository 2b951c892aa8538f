-- Stories that come in from a provider as events of the world.
use Rattle.std.specs.Prelude.{ℕ, List, [], ◌∷◌, codes, Option, Some, None, Result, Ok, Err}
use Rattle.news_types.specs.declared.story.Incoming.{Incoming}
use Rattle.news_types.specs.Names.{Bytes}
use Rattle.news_types.specs.Calls.{Fate}
use Rattle.text7901.specs.Wire.{wire}
use Rattle.text7901.specs.declared.found.Found.{Found}
use Rattle.text7901.specs.declared.found.Found.TheVariants as found
use Rattle.ninjs_text.specs.declared.fault.NinjsFault.{NinjsFault}
use Rattle.desk_answers.specs.Answers.{fault_bytes}
use Rattle.wire_run.specs.Decided.{decided}
use Rattle.wire_run.specs.Members.{what_word, fault_word, fault_property, one_item, no_item}
use Rattle.world_laws.specs.World.{World, Event, Ingests}
use Rattle.agency_wires.specs.declared.fault.WireFault.{WireFault}
use Rattle.agency_wires.specs.declared.found.Found as agency
use Rattle.agency_wires.specs.declared.found.Found.TheVariants as cut
use Rattle.agency_wires.specs.Messages.{messages}
use Rattle.agency_wires.specs.declared.fault.WireFault.TheVariants as wire_fault
use Rattle.agency_wires.specs.Reading.{head_of, text_of, told, wrong}
use Rattle.agency_items.specs.declared.fault.ItemFault.{ItemFault}
use Rattle.agency_items.specs.Items.{items}
use Rattle.agency_runs.specs.Decided as agency_wire
use Rattle.agency_runs.specs.Members.{message_fault_bytes, too_long_bytes, item_word, item_property}
use Rattle.command_words.specs.declared.words.IngestFormat.{IngestFormat}
use Rattle.command_words.specs.declared.words.IngestFormat.TheVariants.{Wire, Item, AgencyWire, AgencyItems}
use Rattle.newsdesk_cli.specs.Ingests.{Member}
use Rattle.program_events.specs.Events.{Input, newest_text}

-- a member of a wire: a story, or a fault, which is no event
abbrev pub found_events : Bytes → Found → ℕ → Fate → List Event
found_events provider (found.Story come) at fate = Ingests provider come at fate ∷ []
found_events provider (found.Fault place is) at fate = []

abbrev pub found_readings : Found → ℕ → List ℕ
found_readings (found.Story come) at = at ∷ []
found_readings (found.Fault place is) at = []

abbrev pub found_text : World → Found → Bytes
found_text w (found.Story come) = newest_text w.out
found_text w (found.Fault place is) = fault_bytes (Some place) (what_word is) None

abbrev pub wire_input : Bytes → Input Found
wire_input provider = record { decided = decided; all = wire; events = found_events provider; readings = found_readings; text = found_text }

-- an input that is one item
abbrev pub item_events : Bytes → Result Incoming NinjsFault → ℕ → Fate → List Event
item_events provider (Ok come) at fate = Ingests provider come at fate ∷ []
item_events provider (Err is) at fate = []

abbrev pub item_readings : Result Incoming NinjsFault → ℕ → List ℕ
item_readings (Ok come) at = at ∷ []
item_readings (Err is) at = []

abbrev pub item_text : World → Result Incoming NinjsFault → Bytes
item_text w (Ok come) = newest_text w.out
item_text w (Err is) = fault_bytes None (fault_word is) (fault_property is)

abbrev pub item_input : Bytes → Input (Result Incoming NinjsFault)
item_input provider = record { decided = no_item; all = one_item; events = item_events provider; readings = item_readings; text = item_text }

-- a message of an agency's wire, read on the day of the reading: a story, or one that is not read, which is no event
abbrev pub read_events : Bytes → Result Incoming WireFault → ℕ → Fate → List Event
read_events provider (Ok come) at fate = Ingests provider come at fate ∷ []
read_events provider (Err is) at fate = []

abbrev pub message_events : Bytes → agency.Found → ℕ → Fate → List Event
message_events provider (cut.Message place bytes) at fate = read_events provider (told at bytes) at fate
message_events provider (cut.TooLong place) at fate = []

-- the clock is read for each message
abbrev pub message_readings : agency.Found → ℕ → List ℕ
message_readings (cut.Message place bytes) at = at ∷ []
message_readings (cut.TooLong place) at = []

-- what is wrong with a message, if anything is, does not depend on the day
abbrev pub read_text : World → ℕ → Option WireFault → Bytes
read_text w place None = newest_text w.out
read_text w place (Some (wire_fault.Fault within is)) = message_fault_bytes place within is
read_text w place (Some wire_fault.Memory) = fault_bytes (Some place) (codes "Memory") None

abbrev pub message_text : World → agency.Found → Bytes
message_text w (cut.Message place bytes) = read_text w place (wrong bytes (head_of bytes) (text_of bytes))
message_text w (cut.TooLong place) = too_long_bytes place

abbrev pub message_input : Bytes → Input agency.Found
message_input provider = record { decided = agency_wire.decided; all = messages; events = message_events provider; readings = message_readings; text = message_text }

-- an input that is one item or a list of items, as agencies send them
abbrev pub told_events : Bytes → Result Incoming ItemFault → ℕ → Fate → List Event
told_events provider (Ok come) at fate = Ingests provider come at fate ∷ []
told_events provider (Err is) at fate = []

abbrev pub told_readings : Result Incoming ItemFault → ℕ → List ℕ
told_readings (Ok come) at = at ∷ []
told_readings (Err is) at = []

abbrev pub told_text : World → Result Incoming ItemFault → Bytes
told_text w (Ok come) = newest_text w.out
told_text w (Err is) = fault_bytes None (item_word is) (item_property is)

abbrev pub told_input : Bytes → Input (Result Incoming ItemFault)
told_input provider = record { decided = λ bytes. []; all = items; events = told_events provider; readings = told_readings; text = told_text }

-- by the format
abbrev pub ingest_input : (format : IngestFormat) → Bytes → Input (Member format)
ingest_input Wire provider = wire_input provider
ingest_input Item provider = item_input provider
ingest_input AgencyWire provider = message_input provider
ingest_input AgencyItems provider = told_input provider

-- What a message comes to that was read.
use Rattle.std.specs.Prelude.{◌≡◌, ℕ, Result, Ok, Err}
use Rattle.news_types.specs.Fits.{FitsIncoming}
use Rattle.news_types.specs.declared.story.Incoming.{Incoming}
use Rattle.line_run.specs.declared.answering.Stopped.{Stopped}
use Rattle.line_run.specs.declared.answering.Stopped.TheVariants as stopped
use Rattle.agency_wires.specs.declared.fault.What.{What}
use Rattle.agency_wires.specs.declared.fault.WireFault.{WireFault}
use Rattle.agency_wires.specs.declared.fault.WireFault.TheVariants as wire_fault
use Rattle.agency_runs.specs.Members.{message_fault_bytes}
use Rattle.agency_runs.specs.declared.messages.Told.{Told}
use Rattle.agency_runs.specs.declared.messages.Told.TheVariants as told

-- the story that the message is, or the line of its fault, or want of memory; its SOH stands at a place of the input
abbrev pub IsTold : ℕ → Result Incoming WireFault → Result Told Stopped → Type 0
IsTold at said (Ok (told.Story incoming)) = (said ≡ Ok incoming) × FitsIncoming incoming
IsTold at said (Ok (told.Line text)) = (within : ℕ) × ((is : What) × (said ≡ Err (wire_fault.Fault within is)) × (text.items ≡ message_fault_bytes at within is))
IsTold at said (Err why) = why ≡ stopped.Memory

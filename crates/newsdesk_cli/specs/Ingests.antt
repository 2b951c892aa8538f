-- What a provider sends, by its format: its members, what each is answered, and which of them the first bytes of an input decide.
use Rattle.std.specs.Prelude.{ℕ, List, Result}
use Rattle.news_types.specs.Books.{Book}
use Rattle.news_types.specs.Names.{Bytes}
use Rattle.news_types.specs.declared.entry.Entry.{Entry}
use Rattle.news_types.specs.declared.story.Incoming.{Incoming}
use Rattle.news_io.specs.Keeper.{KeeperMeaning}
use Rattle.news_io.specs.Clock.{ClockMeaning}
use Rattle.news_io.specs.Source.{SourceMeaning}
use Rattle.news_io.specs.Sink.{SinkMeaning}
use Rattle.line_run.specs.Life.{Meaning}
use Rattle.text7901.specs.Wire.{wire}
use Rattle.text7901.specs.declared.found.Found as text
use Rattle.ninjs_text.specs.declared.fault.NinjsFault.{NinjsFault}
use Rattle.agency_wires.specs.Messages.{messages}
use Rattle.agency_wires.specs.declared.found.Found as agency
use Rattle.agency_items.specs.Items.{items}
use Rattle.agency_items.specs.declared.fault.ItemFault.{ItemFault}
use Rattle.wire_run.specs.Decided as text_wire
use Rattle.wire_run.specs.Members.{of_found, of_item, one_item, no_item}
use Rattle.agency_runs.specs.Decided as agency_wire
use Rattle.agency_runs.specs.Members.{of_message, of_read}
use Rattle.agency_runs.specs.Members as agency_run
use Rattle.news_room.specs.declared.room.Room.{Room}
use Rattle.room_runs.specs.Members.{MembersAnswered}
use Rattle.room_runs.specs.Wires.{of_incoming, wire_hand}
use Rattle.command_words.specs.declared.words.IngestFormat.{IngestFormat}
use Rattle.command_words.specs.declared.words.IngestFormat.TheVariants.{Wire, Item, AgencyWire, AgencyItems}

-- a member of an input
abbrev pub Member : IngestFormat → Type 0
Member Wire = text.Found
Member Item = Result Incoming NinjsFault
Member AgencyWire = agency.Found
Member AgencyItems = Result Incoming ItemFault

-- what a member is answered that comes in from a provider, where the log has so many bytes before its first record
abbrev pub answer_of : (format : IngestFormat) → Bytes → ℕ → Meaning Entry (Member format)
answer_of Wire provider start = of_found (of_incoming start provider)
answer_of Item provider start = of_item (of_incoming start provider)
answer_of AgencyWire provider start = of_message (of_incoming start provider)
answer_of AgencyItems provider start = of_read (of_incoming start provider)

-- the members that the first bytes of an input decide
abbrev pub decided : (format : IngestFormat) → List ℕ → List (Member format)
decided Wire = text_wire.decided
decided Item = no_item
decided AgencyWire = agency_wire.decided
decided AgencyItems = agency_run.no_item

-- all members of an input
abbrev pub all : (format : IngestFormat) → List ℕ → List (Member format)
all Wire = wire
all Item = one_item
all AgencyWire = messages
all AgencyItems = items

-- the members of the input were answered
abbrev pub IngestAnswered : {K C S O : Type 0} → KeeperMeaning K → ClockMeaning C → SourceMeaning S → SinkMeaning O → Bytes → IngestFormat → Room K → Room K → C → C → S → S → O → O → Book → ℕ → ℕ → Type 0
IngestAnswered keeper clock source sink provider format = MembersAnswered keeper clock source sink wire_hand (answer_of format provider) (decided format) (all format)

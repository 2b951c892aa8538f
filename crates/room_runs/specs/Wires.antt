-- A run over the stories that come in from a provider, by a room and a clock.
use Rattle.std.specs.Prelude.{ℕ}
use Rattle.news_types.specs.Books.{Book}
use Rattle.news_types.specs.Names.{Bytes}
use Rattle.news_types.specs.Outcome.{ingest}
use Rattle.news_types.specs.declared.entry.Entry.{Entry}
use Rattle.news_types.specs.declared.story.Incoming.{Incoming}
use Rattle.line_run.specs.Life.{Meaning}
use Rattle.text7901.specs.Wire.{wire}
use Rattle.wire_run.specs.Decided.{decided}
use Rattle.wire_run.specs.Members.{of_found, of_item, one_item, no_item}
use Rattle.agency_wires.specs.Messages.{messages}
use Rattle.agency_items.specs.Items.{items}
use Rattle.agency_runs.specs.Decided as agency
use Rattle.agency_runs.specs.Members.{of_message, of_read}
use Rattle.agency_runs.specs.Members as agency_run
use Rattle.news_room.specs.declared.room.Room.{Room}
use Rattle.room_runs.specs.Lines.{of_outcome}
use Rattle.room_runs.specs.Desk.{Hand}
use Rattle.room_runs.specs.Members.{MembersAnswered}
use Rattle.room_runs.specs.declared.wire.WireDesk.{WireDesk}
use Rattle.news_io.specs.Keeper.{KeeperMeaning}
use Rattle.news_io.specs.Clock.{ClockMeaning}
use Rattle.news_io.specs.Source.{SourceMeaning}
use Rattle.news_io.specs.Sink.{SinkMeaning}

abbrev pub wire_hand : {K C : Type 0} → WireDesk K C → Hand K C
wire_hand d = record { room = d.room; clock = d.clock; provider = d.provider }

-- a story that comes in from a provider
abbrev pub of_incoming : ℕ → Bytes → Meaning Entry Incoming
of_incoming before provider h come at = of_outcome before h at (ingest h provider come at)

module _ {K C S O : Type 0} (keeper : KeeperMeaning K) (clock : ClockMeaning C) (source : SourceMeaning S) (sink : SinkMeaning O) (provider : Bytes) where
  -- the stories and faults of the wire that the input is were answered
  abbrev pub WireAnswered : Room K → Room K → C → C → S → S → O → O → Book → ℕ → ℕ → Type 0
  WireAnswered = MembersAnswered keeper clock source sink wire_hand (λ start. of_found (of_incoming start provider)) decided wire

  -- the one item that the whole input is was answered
  abbrev pub ItemAnswered : Room K → Room K → C → C → S → S → O → O → Book → ℕ → ℕ → Type 0
  ItemAnswered = MembersAnswered keeper clock source sink wire_hand (λ start. of_item (of_incoming start provider)) no_item one_item

  -- the messages and faults of the wire that the input is, as agencies send them, were answered
  abbrev pub AgencyWireAnswered : Room K → Room K → C → C → S → S → O → O → Book → ℕ → ℕ → Type 0
  AgencyWireAnswered = MembersAnswered keeper clock source sink wire_hand (λ start. of_message (of_incoming start provider)) agency.decided messages

  -- the item or the items that the input is, as agencies send them, were answered
  abbrev pub AgencyItemsAnswered : Room K → Room K → C → C → S → S → O → O → Book → ℕ → ℕ → Type 0
  AgencyItemsAnswered = MembersAnswered keeper clock source sink wire_hand (λ start. of_read (of_incoming start provider)) agency_run.no_item items

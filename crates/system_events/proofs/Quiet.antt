-- The events of the newsroom's runs are events of the newsroom.
use Rattle.std.proofs.Common.{◌≡◌, inl, inr, ℕ, ◌+◌, Option, Some, None, Bool, true, false, if◌then◌else◌, List, [], ◌∷◌, ◌++◌, Result, Ok, Err, sym, subst}
use Rattle.news_types.specs.declared.entry.Entry.{Entry}
use Rattle.news_types.specs.declared.query.Query.{Query}
use Rattle.news_types.specs.declared.command.Command.TheVariants.{Stop}
use Rattle.news_types.specs.Names.{Bytes}
use Rattle.news_types.specs.History.{History, last_number}
use Rattle.news_types.specs.Products.{is_subscriber}
use Rattle.news_types.specs.Frames.{Writer}
use Rattle.news_types.specs.Calls.{Fate, IsKept, IsFull, IsFailed, IsStarved}
use Rattle.news_io.specs.Clock.{ClockMeaning}
use Rattle.news_io.specs.Keeper.{KeeperMeaning}
use Rattle.news_io.specs.Sink.{SinkMeaning}
use Rattle.news_io.specs.Source.{SourceMeaning}
use Rattle.line_run.specs.Turns.{Turn}
use Rattle.line_run.specs.declared.ending.Ending.{Ending}
use Rattle.line_run.specs.declared.ending.Ending.TheVariants as end
use Rattle.text7901.specs.declared.found.Found.TheVariants as found
use Rattle.desk_lines.specs.declared.asked.Asked.{Asked}
use Rattle.desk_lines.specs.declared.asked.Asked.TheVariants as asked
use Rattle.desk_lines.specs.declared.property.LineProperty.{LineProperty}
use Rattle.news_room.specs.declared.claim.Claimed.{Claimed}
use Rattle.news_room.specs.declared.room.Room.{Room}
use Rattle.package_rules.specs.declared.publish.Packaged.{Packaged}
use Rattle.package_rules.specs.Composed.{Composed}
use Rattle.subscriber_import.specs.declared.import.Imported.{Imported}
use Rattle.subscriber_import.specs.Fields.{Wanted, wanted_of, command_of}
use Rattle.subscriber_import.specs.Import.{behind, imported}
use Rattle.subscriber_import.specs.Table.{Row, rows_of, behind_head}
use Rattle.whole_runs.specs.Importing.{IsImport}
use Rattle.whole_runs.specs.Packaging.{IsPackageRun}
use Rattle.publish_workers.specs.Events.{sendings}
use Rattle.publish_workers.specs.LinkDrains.{LinkDrain}
use Rattle.publish_workers.specs.Turns.{Exchange, Unsent, Unread, Replied, Receipted, is_sent}
use Rattle.agency_wires.specs.declared.fault.WireFault.{WireFault}
use Rattle.agency_wires.specs.declared.found.Found.TheVariants as cut
use Rattle.agency_wires.specs.Reading.{told}
use Rattle.command_words.specs.declared.words.IngestFormat.{IngestFormat}
use Rattle.command_words.specs.declared.words.IngestFormat.TheVariants.{Wire, Item, AgencyWire, AgencyItems}
use Rattle.news_types.specs.declared.story.Incoming.{Incoming}
use Rattle.world_laws.specs.World.{World, Event, Requests, Ticks, Sends}
use Rattle.program_events.specs.Events.{Input, line_input, asks_for, events_if, events_of, question_events, turn_events, AreBegun}
use Rattle.program_events.specs.Stories.{wire_input, item_input, message_input, told_input, ingest_input, read_events}
use Rattle.program_events.specs.Leads.{StopsAt, BeforeAttempt, IsBegunOf}
use Rattle.program_events.specs.Imports.{wanted_events, row_events, AreStopped, AreOfTable, ImportRunHappened}
use Rattle.program_events.specs.Packages.{AreOfPackage, PackageRunHappened}
use Rattle.program_events.specs.Drains.{WorldTurn, arrival, arrivals, pushed, DrainHappened}
use Rattle.program_events.specs.Runs.{RunHappened, ReportHappened, Happened}
use Rattle.system_events.proofs.Worlds.{AllOf, all_then, OfNewsroom}

abbrev pub Quiet : List Event → Type 0
Quiet events = AllOf OfNewsroom events

quiet_is : (events these : List Event) → events ≡ these → Quiet these → Quiet events
quiet_is events these is q = subst (AllOf OfNewsroom) (sym is) q

-- ---- what a stop has left of an event

stops_quiet : (whole e : Event) → StopsAt whole e → OfNewsroom e
stops_quiet whole e (BeforeAttempt names reading first second) = tt

pub begun_quiet : (events begun : List Event) → IsBegunOf events begun → Quiet begun
begun_quiet events [] is = tt
begun_quiet [] (e ∷ begun) is = absurd is
begun_quiet (whole ∷ events) (e ∷ begun) is = (stops_quiet whole e is.0, quiet_is begun [] is.1 tt)

-- ---- members of an input

question_quiet : (q : Query) (at : ℕ) (fate : Fate) → Quiet (question_events q at fate)
question_quiet q at IsKept = (tt, (tt, tt))
question_quiet q at IsFull = (tt, tt)
question_quiet q at IsFailed = (tt, tt)
question_quiet q at IsStarved = (tt, tt)

asked_quiet : (what : Asked) (at : ℕ) (fate : Fate) → Quiet (events_of what at fate)
asked_quiet (asked.Request caller number command) at fate = (tt, tt)
asked_quiet (asked.Query query) at fate = question_quiet query at fate
asked_quiet (asked.Receipt subscriber n) at fate = (tt, tt)
asked_quiet (asked.Archive page query) at fate = (tt, tt)
asked_quiet (asked.Desk question) at fate = (tt, tt)

read_quiet : (r : Result Asked LineProperty) (at : ℕ) (fate : Fate) → Quiet (events_if r at fate)
read_quiet (Ok what) at fate = asked_quiet what at fate
read_quiet (Err p) at fate = tt

abbrev pub IsQuiet : {X : Type 0} → Input X → Type 0
IsQuiet {X = X} input = (x : X) (at : ℕ) (fate : Fate) → Quiet (input.events x at fate)

pub line_quiet : IsQuiet line_input
line_quiet line at fate = read_quiet (asks_for line) at fate

wire_quiet : (provider : Bytes) → IsQuiet (wire_input provider)
wire_quiet provider (found.Story come) at fate = (tt, tt)
wire_quiet provider (found.Fault place is) at fate = tt

item_quiet : (provider : Bytes) → IsQuiet (item_input provider)
item_quiet provider (Ok come) at fate = (tt, tt)
item_quiet provider (Err is) at fate = tt

message_read_quiet : (provider : Bytes) (r : Result Incoming WireFault) (at : ℕ) (fate : Fate) → Quiet (read_events provider r at fate)
message_read_quiet provider (Ok come) at fate = (tt, tt)
message_read_quiet provider (Err is) at fate = tt

message_quiet : (provider : Bytes) → IsQuiet (message_input provider)
message_quiet provider (cut.Message place bytes) at fate = message_read_quiet provider (told at bytes) at fate
message_quiet provider (cut.TooLong place) at fate = tt

told_quiet : (provider : Bytes) → IsQuiet (told_input provider)
told_quiet provider (Ok come) at fate = (tt, tt)
told_quiet provider (Err is) at fate = tt

pub ingest_quiet : (format : IngestFormat) (provider : Bytes) → IsQuiet (ingest_input format provider)
ingest_quiet Wire provider = wire_quiet provider
ingest_quiet Item provider = item_quiet provider
ingest_quiet AgencyWire provider = message_quiet provider
ingest_quiet AgencyItems provider = told_quiet provider

module _ {X : Type 0} (input : Input X) (quiet : IsQuiet input) where
  turns_quiet : (turns : List (Turn X)) → Quiet (turn_events input turns)
  turns_quiet [] = tt
  turns_quiet (t ∷ ts) = all_then OfNewsroom (turn_events input ts) (input.events t.line t.at IsKept) (turns_quiet ts) (quiet t.line t.at IsKept)

  next_quiet : (later : List X) (why : Ending) (took : List ℕ) (events : List Event) → AreBegun input later why took events → Quiet events
  next_quiet [] why took events b = quiet_is events [] b.1 tt
  next_quiet (x ∷ later) why took events b = quiet_is events (input.events x b.0 b.1) b.4 (quiet x b.0 b.1)

  module _ {C O : Type 0} (clock : ClockMeaning C) (sink : SinkMeaning O) (write : Writer) (w : World) (c c' : C) (o o' : O) (events : List Event) (read more : List ℕ) where
    happened_quiet : (r : Result (Unit {0}) Ending) → Happened input clock sink write w c c' o o' read more r events → Quiet events
    happened_quiet (Ok u) h = quiet_is events (turn_events input h.turns) h.events_are (turns_quiet h.turns)
    happened_quiet (Err end.Read) h = quiet_is events (turn_events input h.turns) h.events_are (turns_quiet h.turns)
    happened_quiet (Err end.TooLong) h = quiet_is events (turn_events input h.turns) h.events_are (turns_quiet h.turns)
    happened_quiet (Err end.Write) h = quiet_is events (turn_events input h.turns ++ h.begun) h.events_are (all_then OfNewsroom (turn_events input h.turns) h.begun (turns_quiet h.turns) (next_quiet h.later end.Write h.took h.begun h.next))
    happened_quiet (Err end.Store) h = quiet_is events (turn_events input h.turns ++ h.begun) h.events_are (all_then OfNewsroom (turn_events input h.turns) h.begun (turns_quiet h.turns) (next_quiet h.later end.Store h.took h.begun h.next))
    happened_quiet (Err end.Full) h = quiet_is events (turn_events input h.turns ++ h.begun) h.events_are (all_then OfNewsroom (turn_events input h.turns) h.begun (turns_quiet h.turns) (next_quiet h.later end.Full h.took h.begun h.next))
    happened_quiet (Err end.Memory) h = quiet_is events (turn_events input h.turns ++ h.begun) h.events_are (all_then OfNewsroom (turn_events input h.turns) h.begun (turns_quiet h.turns) (next_quiet h.later end.Memory h.took h.begun h.next))

  pub run_quiet : {C S O : Type 0} (clock : ClockMeaning C) (source : SourceMeaning S) (sink : SinkMeaning O) (write : Writer) (w : World) (i i' : S) (o o' : O) (c c' : C) (status : ℕ) (g : History) (D : Entry → Type 0) (events : List Event)
      → RunHappened input clock source sink write w i i' o o' c c' status g D events → Quiet events
  run_quiet clock source sink write w i i' o o' c c' status g D events x = happened_quiet clock sink write w c c' o x.answered events x.read x.more x.result x.happened

-- ---- a report

pub report_quiet : {C O : Type 0} (clock : ClockMeaning C) (sink : SinkMeaning O) (q : Query) (report : History → Bytes) (write : Writer) (w : World) (o o' : O) (c c' : C) (number : ℕ) (g : History) (D : Entry → Type 0) (events : List Event)
    → ReportHappened clock sink q report write w o o' c c' number g D events → Quiet events
report_quiet clock sink q report write w o o' c c' number g D events x = quiet_is events (question_events q x.at x.fate) x.events_are (question_quiet q x.at x.fate)

-- ---- a package

of_package_quiet : (write : Writer) (w : World) (caller : Bytes) (number : ℕ) (p : Composed) (at : ℕ) (answer : Packaged) (events : List Event) → AreOfPackage write w caller number p at answer events → Quiet events
of_package_quiet write w caller number p at answer events (inl x) = quiet_is events (Ticks at x.fate ∷ []) x.events_are (tt, tt)
of_package_quiet write w caller number p at answer events (inr (inl x)) = quiet_is events (Ticks at IsKept ∷ []) x.events_are (tt, tt)
of_package_quiet write w caller number p at answer events (inr (inr x)) = quiet_is events _ x.events_are (tt, (tt, tt))

module _ {K C S O : Type 0} (keeper : KeeperMeaning K) (clock : ClockMeaning C) (source : SourceMeaning S) (sink : SinkMeaning O) (caller : Bytes) (number : ℕ)
    (old new : Room K) (c c' : C) (i i' : S) (o o' : O) (status : ℕ) (write : Writer) (w : World) (g : History) (D : Entry → Type 0) (events : List Event) where
  pub package_quiet : (did : IsPackageRun keeper clock source sink caller number old new c c' i i' o o' status) → PackageRunHappened keeper clock source sink caller number old new c c' i i' o o' status write w g D events did → Quiet events
  package_quiet (inl did) x = of_package_quiet write w caller number did.package_is x.at x.answer events x.are
  package_quiet (inr unasked) x = quiet_is events [] x.none tt

-- ---- an import

wanted_quiet : (h : History) (caller : Bytes) (at : ℕ) (o : Option Wanted) (fate : Fate) → Quiet (wanted_events h caller at o fate)
wanted_quiet h caller at None fate = tt
wanted_quiet h caller at (Some x) fate = by (is_subscriber h x.subscriber)
  where
    by : (there : Bool) → Quiet (if there then [] else Requests caller 0 Stop at IsKept ∷ Requests caller (last_number h caller + 1) (command_of x) at fate ∷ [])
    by true = tt
    by false = (tt, (tt, tt))

rows_quiet : (h : History) (caller : Bytes) (at : ℕ) (rows : List Row) → Quiet (row_events h caller at rows)
rows_quiet h caller at [] = tt
rows_quiet h caller at (row ∷ rows) =
    all_then OfNewsroom (wanted_events h caller at (wanted_of row) IsKept) (row_events (behind h caller at row) caller at rows) (wanted_quiet h caller at (wanted_of row) IsKept) (rows_quiet (behind h caller at row) caller at rows)

stopped_quiet : (h : History) (caller : Bytes) (at : ℕ) (rows : List Row) (fate : Fate) (events : List Event) → AreStopped h caller at rows fate events → Quiet events
stopped_quiet h caller at rows fate events x =
    quiet_is events (row_events h caller at x.before ++ wanted_events (imported h caller at x.before) caller at (wanted_of x.row) fate) x.events_are
    (all_then OfNewsroom (row_events h caller at x.before) (wanted_events (imported h caller at x.before) caller at (wanted_of x.row) fate) (rows_quiet h caller at x.before) (wanted_quiet (imported h caller at x.before) caller at (wanted_of x.row) fate))

of_table_quiet : (h : History) (caller : Bytes) (at : ℕ) (rows : Option (List Row)) (answer : Imported) (events : List Event) → AreOfTable h caller at rows answer events → Quiet events
of_table_quiet h caller at None answer events x = quiet_is events [] x.1 tt
of_table_quiet h caller at (Some rows) (Imported.Done told) events x = quiet_is events (row_events h caller at rows) x.1 (rows_quiet h caller at rows)
of_table_quiet h caller at (Some rows) Imported.BadHead events x = absurd x
of_table_quiet h caller at (Some rows) Imported.Fault events x = stopped_quiet h caller at rows IsFailed events x
of_table_quiet h caller at (Some rows) (Imported.Full size count) events x = stopped_quiet h caller at rows IsFull events x
of_table_quiet h caller at (Some rows) Imported.Memory events x = quiet_is events (row_events h caller at x.before) x.events_are (rows_quiet h caller at x.before)

module _ {K C S O : Type 0} (keeper : KeeperMeaning K) (clock : ClockMeaning C) (source : SourceMeaning S) (sink : SinkMeaning O) (caller : Bytes)
    (old new : Room K) (c c' : C) (i i' : S) (o o' : O) (status : ℕ) (write : Writer) (w : World) (g : History) (D : Entry → Type 0) (events : List Event) where
  pub import_quiet : (did : IsImport keeper clock source sink caller old new c c' i i' o o' status) → ImportRunHappened keeper clock source sink caller old new c c' i i' o o' status write w g D events did → Quiet events
  import_quiet (inl did) x = of_table_quiet w.server.list caller x.at (behind_head (rows_of did.table)) x.answer events x.are
  import_quiet (inr unread) x = quiet_is events [] x.none tt

-- ---- what is pushed

sent_quiet : (b : Bool) (s : Bytes) (k : ℕ) → Quiet (if b then Sends s k ∷ [] else [])
sent_quiet true s k = (tt, tt)
sent_quiet false s k = tt

sendings_quiet : (c : Claimed) (x : Exchange) → Quiet (sendings c x)
sendings_quiet (Claimed.Job s k frame front) x = sent_quiet (is_sent x) s k
sendings_quiet (Claimed.Idle next) x = tt
sendings_quiet Claimed.Fault x = tt
sendings_quiet (Claimed.Full size count) x = tt
sendings_quiet Claimed.Memory x = tt

arrival_quiet : (s : Bytes) (x : Exchange) (fate : Fate) → Quiet (arrival s x fate)
arrival_quiet s Unsent fate = tt
arrival_quiet s Unread fate = tt
arrival_quiet s (Replied reply) fate = tt
arrival_quiet s (Receipted reply n at kept) fate = (tt, tt)

arrivals_quiet : (c : Claimed) (x : Exchange) (fate : Fate) → Quiet (arrivals c x fate)
arrivals_quiet (Claimed.Job s k frame front) x fate = arrival_quiet s x fate
arrivals_quiet (Claimed.Idle next) x fate = tt
arrivals_quiet Claimed.Fault x fate = tt
arrivals_quiet (Claimed.Full size count) x fate = tt
arrivals_quiet Claimed.Memory x fate = tt

pushed_quiet : (ts : List WorldTurn) → Quiet (pushed ts)
pushed_quiet [] = tt
pushed_quiet (t ∷ ts) =
    all_then OfNewsroom (pushed ts) _ (pushed_quiet ts)
    (tt, all_then OfNewsroom (sendings t.turn.claimed t.turn.exchange) (arrivals t.turn.claimed t.turn.exchange t.third) (sendings_quiet t.turn.claimed t.turn.exchange) (arrivals_quiet t.turn.claimed t.turn.exchange t.third))

pub drain_quiet : (write : Writer) (w : World) (served : List (List Bytes)) (drains : List LinkDrain) (g : History) (D : Entry → Type 0) (events : List Event) → DrainHappened write w served drains g D events → Quiet events
drain_quiet write w served drains g D events x = quiet_is events (pushed x.turns) x.events_are (pushed_quiet x.turns)

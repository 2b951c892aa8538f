-- The formats of the newsroom: lines, wires and items, tables, packages, reports and answers.
use Rattle.std.specs.Prelude.{ℕ, Bool, true, false, if◌then◌else◌, List, [], ◌∷◌, ◌++◌, length, map, codes, Option, Some, None, Result, Ok, Err}
use Rattle.news_types.specs.declared.denial.Denial.TheVariants.{UnknownThing}
use Rattle.news_types.specs.declared.query.Query.{Query}
use Rattle.news_types.specs.declared.query.Query.TheVariants as query
use Rattle.news_types.specs.declared.story.Incoming.{Incoming}
use Rattle.news_types.specs.Names.{Bytes}
use Rattle.news_types.specs.History.{History}
use Rattle.news_types.specs.Answers.{query_answer}
use Rattle.news_types.specs.Outcome.{Answered, Done, Repeat, Denied}
use Rattle.news_types.specs.Calls.{Answer, Replied, Tells, Fate}
use Rattle.input_lines.specs.Lines.{Line, ended, lines}
use Rattle.desk_lines.specs.declared.asked.Asked.{Asked}
use Rattle.desk_lines.specs.declared.asked.Asked.TheVariants as asked
use Rattle.desk_lines.specs.declared.lines.Described.{Described}
use Rattle.desk_lines.specs.declared.property.LineProperty.{LineProperty}
use Rattle.desk_lines.specs.declared.property.LineProperty.TheVariants as property
use Rattle.desk_lines.specs.Lines.{line, package_object}
use Rattle.desk_answers.specs.Answers.{reply_bytes, denial_bytes, bad_bytes, answer_bytes, fault_bytes}
use Rattle.text7901.specs.Wire.{wire}
use Rattle.text7901.specs.declared.found.Found.{Found}
use Rattle.text7901.specs.declared.found.Found.TheVariants as found
use Rattle.ninjs_text.specs.Item.{ninjs}
use Rattle.ninjs_text.specs.declared.fault.NinjsFault.{NinjsFault}
use Rattle.wire_run.specs.Decided.{decided}
use Rattle.wire_run.specs.Members.{what_word, fault_word, fault_property}
use Rattle.agency_wires.specs.declared.fault.WireFault.{WireFault}
use Rattle.agency_wires.specs.declared.fault.WireFault.TheVariants as wire_fault
use Rattle.agency_wires.specs.declared.found.Found as agency
use Rattle.agency_wires.specs.declared.found.Found.TheVariants as cut
use Rattle.agency_wires.specs.Messages.{messages}
use Rattle.agency_wires.specs.Reading.{told}
use Rattle.agency_items.specs.declared.fault.ItemFault.{ItemFault}
use Rattle.agency_items.specs.Items.{items}
use Rattle.agency_runs.specs.Decided as agency_wire
use Rattle.agency_runs.specs.Members.{message_fault_bytes, too_long_bytes, item_word, item_property}
use Rattle.command_words.specs.declared.words.IngestFormat.{IngestFormat}
use Rattle.command_words.specs.declared.words.IngestFormat.TheVariants.{Wire, Item, AgencyWire, AgencyItems}
use Rattle.world_laws.specs.World.{World, Event, Given, Requests, Ticks, Forges, Ingests}
use Rattle.archive_search.specs.declared.told.Told.{Told}
use Rattle.archive_search.specs.declared.told.Told.TheVariants as archive
use Rattle.archive_search.specs.Told.{archive_told}
use Rattle.desk_questions.specs.declared.answer.DeskTold.{DeskTold}
use Rattle.desk_questions.specs.declared.answer.DeskTold.TheVariants as desk
use Rattle.desk_questions.specs.Told.{desk_told}
use Rattle.archive_search.specs.Answers.{AnswersQuery}
use Rattle.subscriber_import.specs.Fields as fields
use Rattle.subscriber_import.specs.Fields.{wanted_of, command_of}
use Rattle.subscriber_import.specs.Table.{rows_of, behind_head}
use Rattle.subscriber_import.specs.Report.{lines_text}
use Rattle.package_rules.specs.Composed.{composite}
use Rattle.package_rules.specs.Report.{contents_report, no_readers_text}
use Rattle.feed_frames.specs.Writer.{the_writer}
use Rattle.room_reports.specs.Texts.{feed_report_at, queue_report_at}
use Rattle.feed_reports.specs.Attempts.{attempt_line}
use Rattle.told_entries.specs.Entries.{audit}
use Rattle.list_runs.specs.Why.{why_line}
use Rattle.list_marks.specs.Digest.{digest_line}
use Rattle.list_marks.specs.Limits.{limits_lines}
use Rattle.drill_plan.specs.Plan.{plan}
use Rattle.feed_drill.specs.Requests.{given}
use Rattle.program_run.specs.DrillReport.{drill_report}
use Rattle.program_run.specs.Members.{Input, question_events}
use Rattle.program_run.specs.Finding.{the_finders}
use Rattle.program_run.specs.Opens.{size_of}
use Rattle.program_run.specs.Formats.{Kind, Wanted, Package, Formats}

-- the longest line, in bytes without its end
abbrev pub LONGEST_LINE : ℕ
LONGEST_LINE = 4194304

-- no line asks for a frame
abbrev pub no_frames : Bytes → ℕ → Bytes
no_frames s k = []

-- ---- answers of the world as texts

abbrev pub answered_bytes : Answered → Bytes
answered_bytes (Done reply) = reply_bytes reply false
answered_bytes (Repeat reply) = reply_bytes reply true
answered_bytes (Denied denial) = denial_bytes denial

abbrev pub answer_text : Answer → Bytes
answer_text (Replied answered) = answered_bytes answered
answer_text (Tells told) = answer_bytes told
answer_text _ = []

abbrev pub newest_text : List Given → Bytes
newest_text [] = []
newest_text (g ∷ older) = answer_text g.answer

-- what a query finds in the archive of a list, or why it is none
abbrev pub told_bytes : Told → Bytes
told_bytes (archive.Found bytes) = bytes
told_bytes (archive.Refused bytes) = bytes

-- what a desk is told, or that a thing that it names is not there
abbrev pub desk_told_bytes : DeskTold → Bytes
desk_told_bytes (desk.Found bytes) = bytes
desk_told_bytes (desk.Unknown thing) = denial_bytes (UnknownThing thing)

-- ---- lines

-- the questions that a line may ask
abbrev pub has_answer : Query → Bool
has_answer (query.Feed s after) = true
has_answer (query.Item i) = true
has_answer query.Queue = true
has_answer query.Check = true
has_answer (query.Publication n) = true
has_answer _ = false

abbrev pub as_asked : Asked → Result Asked LineProperty
as_asked (asked.Query query) = if has_answer query then Ok (asked.Query query) else Err property.Ask
as_asked what = Ok what

abbrev pub read_as : Result Asked LineProperty → Result Asked LineProperty
read_as (Ok what) = as_asked what
read_as (Err p) = Err p

-- what a line asks for, or what is bad of it
abbrev pub asks_for : Line → Result Asked LineProperty
asks_for None = Err property.Line
asks_for (Some bytes) = read_as (line bytes)

-- as far as the newsroom can know, no receiver sent the receipt; of a search of the archive and of a question of
-- a desk there is its tick
abbrev pub line_events : Result Asked LineProperty → ℕ → Fate → List Event
line_events (Ok (asked.Request caller number command)) at fate = Requests caller number command at fate ∷ []
line_events (Ok (asked.Query query)) at fate = question_events query at fate
line_events (Ok (asked.Receipt subscriber n)) at fate = Forges subscriber n at fate ∷ []
line_events (Ok (asked.Archive page query)) at fate = Ticks at fate ∷ []
line_events (Ok (asked.Desk question)) at fate = Ticks at fate ∷ []
line_events (Err p) at fate = []

abbrev pub line_readings : Result Asked LineProperty → ℕ → List ℕ
line_readings (Ok what) at = at ∷ []
line_readings (Err p) at = []

-- the newest answer; to a search what it finds in the archive of the world's list, and to a desk what it is told at that
abbrev pub line_text : World → Result Asked LineProperty → Bytes
line_text w (Ok (asked.Archive page query)) = told_bytes (archive_told w.server.list page query)
line_text w (Ok (asked.Desk question)) = desk_told_bytes (desk_told w.server.list question)
line_text w (Ok what) = newest_text w.out
line_text w (Err p) = bad_bytes p

abbrev pub line_input : Input Line
line_input = record {
  decided = ended LONGEST_LINE;
  all = lines LONGEST_LINE;
  events = λ l at fate. line_events (asks_for l) at fate;
  readings = λ l at. line_readings (asks_for l) at;
  text = λ w l. line_text w (asks_for l);
}

-- what a line is answered at a list, where it may only ask: what a question is told of the newsroom, or a desk
abbrev pub question_text : History → Result Asked LineProperty → Bytes
question_text list (Ok (asked.Query query)) = answer_bytes (query_answer no_frames list query)
question_text list (Ok (asked.Desk question)) = desk_told_bytes (desk_told list question)
question_text list (Ok what) = bad_bytes property.Ask
question_text list (Err p) = bad_bytes p

-- ---- stories

abbrev pub story_events : {E : Type 0} → Bytes → Result Incoming E → ℕ → Fate → List Event
story_events provider (Ok come) at fate = Ingests provider come at fate ∷ []
story_events provider (Err is) at fate = []

abbrev pub story_readings : {E : Type 0} → Result Incoming E → ℕ → List ℕ
story_readings (Ok come) at = at ∷ []
story_readings (Err is) at = []

abbrev pub story_of : Found → Result Incoming Bytes
story_of (found.Story come) = Ok come
story_of (found.Fault place is) = Err (fault_bytes (Some place) (what_word is) None)

abbrev pub item_of : Result Incoming NinjsFault → Result Incoming Bytes
item_of (Ok come) = Ok come
item_of (Err is) = Err (fault_bytes None (fault_word is) (fault_property is))

abbrev pub story_text : World → Result Incoming Bytes → Bytes
story_text w (Ok come) = newest_text w.out
story_text w (Err fault) = fault

abbrev pub wire_input : Bytes → Input Found
wire_input provider = record {
  decided = decided;
  all = wire;
  events = λ f. story_events provider (story_of f);
  readings = λ f. story_readings (story_of f);
  text = λ w f. story_text w (story_of f);
}

-- the whole input is one item
abbrev pub item_input : Bytes → Input (Result Incoming NinjsFault)
item_input provider = record {
  decided = λ bytes. [];
  all = λ bytes. ninjs bytes ∷ [];
  events = λ r. story_events provider (item_of r);
  readings = λ r. story_readings (item_of r);
  text = λ w r. story_text w (item_of r);
}

-- a message of an agency's wire: what came in that was read on this day, or the line that says what is wrong, which is the same on every day
abbrev pub read_of : ℕ → Result Incoming WireFault → Result Incoming Bytes
read_of place (Ok come) = Ok come
read_of place (Err (wire_fault.Fault within is)) = Err (message_fault_bytes place within is)
read_of place (Err wire_fault.Memory) = Err (fault_bytes (Some place) (codes "Memory") None)

abbrev pub message_of : agency.Found → ℕ → Result Incoming Bytes
message_of (cut.Message place bytes) day = read_of place (told day bytes)
message_of (cut.TooLong place) day = Err (too_long_bytes place)

-- the clock is read for each message
abbrev pub message_readings : agency.Found → ℕ → List ℕ
message_readings (cut.Message place bytes) at = at ∷ []
message_readings (cut.TooLong place) at = []

abbrev pub message_input : Bytes → Input agency.Found
message_input provider = record {
  decided = agency_wire.decided;
  all = messages;
  events = λ x at. story_events provider (message_of x at) at;
  readings = message_readings;
  text = λ w x. story_text w (message_of x 0);
}

-- the whole input is an item or a list of items, as agencies send them
abbrev pub told_of : Result Incoming ItemFault → Result Incoming Bytes
told_of (Ok come) = Ok come
told_of (Err is) = Err (fault_bytes None (item_word is) (item_property is))

abbrev pub told_input : Bytes → Input (Result Incoming ItemFault)
told_input provider = record {
  decided = λ bytes. [];
  all = items;
  events = λ r. story_events provider (told_of r);
  readings = λ r. story_readings (told_of r);
  text = λ w r. story_text w (told_of r);
}

abbrev pub ingest_kind : IngestFormat → Bytes → Kind
ingest_kind Wire provider = record { Member = Found; input = wire_input provider }
ingest_kind Item provider = record { Member = Result Incoming NinjsFault; input = item_input provider }
ingest_kind AgencyWire provider = record { Member = agency.Found; input = message_input provider }
ingest_kind AgencyItems provider = record { Member = Result Incoming ItemFault; input = told_input provider }

-- ---- tables and packages

abbrev pub wanted_in : Option fields.Wanted → Option Wanted
wanted_in None = None
wanted_in (Some w) = Some (record { subscriber = w.subscriber; command = command_of w })

-- what each of these records asks for
abbrev pub rows_wanted : Option (List (List Bytes)) → Option (List (Option Wanted))
rows_wanted None = None
rows_wanted (Some rows) = Some (map (λ row. wanted_in (wanted_of row)) rows)

abbrev pub table_of : Bytes → Option (List (Option Wanted))
table_of bytes = rows_wanted (behind_head (rows_of bytes))

-- a story with its members is a package
abbrev pub described : Result Described LineProperty → Result Package Bytes
described (Ok d) = Ok (record { story = composite d.story d.members; members = d.members })
described (Err p) = Err (bad_bytes p ++ 10 ∷ [])

-- ---- all formats of the newsroom

abbrev pub newsroom_formats : Formats
newsroom_formats = record {
  lines = record { Member = Line; input = line_input };
  ingest = ingest_kind;
  finders = the_finders;
  writer = the_writer;
  feed_report = feed_report_at;
  queue_report = queue_report_at;
  check_line = λ h. answer_bytes (query_answer no_frames h query.Check) ++ 10 ∷ [];
  attempt_line = attempt_line;
  archive_answer = λ page query h bytes. AnswersQuery h page query bytes;
  contents_report = λ store n h. contents_report h store n;
  audit = audit;
  digest_line = digest_line;
  limits = λ h. limits_lines h (size_of h);
  why_line = λ publication subscriber h. why_line h publication subscriber;
  question_answer = λ h l. question_text h (asks_for l);
  table = table_of;
  import_report = lines_text 1;
  package_of = λ bytes. described (package_object bytes);
  answer_line = λ a. answered_bytes a ++ 10 ∷ [];
  no_readers_line = λ n. no_readers_text n ++ 10 ∷ [];
  drill_list = λ n seed. given [] (plan n seed);
  drill_requests = λ n seed. length (plan n seed);
  drill_report = drill_report;
}

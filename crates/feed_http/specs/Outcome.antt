-- What a request over HTTP is answered, and which entries follow the list.
use Rattle.std.specs.Prelude.{ℕ, nat_lt, List, [], ◌∷◌, ◌++◌, length, if◌then◌else◌, Option, Some, None, Result, Ok, Err}
use Rattle.news_types.specs.declared.entry.Entry.{Entry}
use Rattle.news_types.specs.declared.command.Command.TheVariants.{Flash}
use Rattle.news_types.specs.declared.denial.Denial.TheVariants.{UnknownThing}
use Rattle.news_types.specs.Names.{Bytes}
use Rattle.news_types.specs.History.{History, moment_at}
use Rattle.news_types.specs.Frames.{Writer}
use Rattle.news_types.specs.Calls.{Call, Requested, Ingested, Receipted, Ticked, Asked, Answer, Replied, Tells, Full, Fault, Memory, follow, ticked, answer}
use Rattle.feed_frames.specs.Writer.{the_writer}
use Rattle.news_room.specs.Steps.{entries, tick_entries}
use Rattle.archive_search.specs.declared.told.Told as archive
use Rattle.archive_search.specs.declared.told.Told.TheVariants.{Found, Refused}
use Rattle.archive_search.specs.Told.{archive_told}
use Rattle.package_rules.specs.Composed.{Composed, composite}
use Rattle.package_rules.specs.Readers.{readers}
use Rattle.package_rules.specs.Report.{contents_object, no_readers_text}
use Rattle.desk_views.specs.declared.question.DeskQuestion.{DeskQuestion}
use Rattle.desk_questions.specs.declared.answer.DeskTold as desk
use Rattle.desk_questions.specs.Told.{desk_told}
use Rattle.server_counts.specs.Tally.{Tally}
use Rattle.server_metrics.specs.Metrics.{metrics}
use Rattle.desk_lines.specs.declared.lines.Described.{Described}
use Rattle.http_wire.specs.declared.request.HttpRequest.{HttpRequest}
use Rattle.desk_routes.specs.declared.ask.HttpAsk.{HttpAsk}
use Rattle.desk_routes.specs.declared.ask.HttpAsk.TheVariants as ask
use Rattle.desk_routes.specs.declared.ask.Asking.{Asking}
use Rattle.desk_routes.specs.declared.ask.RoomAsk.{RoomAsk}
use Rattle.desk_routes.specs.declared.ask.RoomAsk.TheVariants.{By, Metrics}
use Rattle.desk_routes.specs.declared.ask.HttpAsked.{HttpAsked}
use Rattle.desk_routes.specs.declared.ask.HttpAsked.TheVariants.{Room}
use Rattle.desk_routes.specs.declared.ask.Refusal.{Refusal}
use Rattle.desk_routes.specs.declared.response.Response.{Response}
use Rattle.desk_routes.specs.declared.response.Notice.TheVariants as notice
use Rattle.desk_routes.specs.Asking.{asked, IsSaid}
use Rattle.desk_routes.specs.Rights.{right_of, may_ask}
use Rattle.desk_routes.specs.Responses.{bare, told_as, metrics_response, denial_response, answered_response, answer_response, refusal_response, notice_response}

-- a response, and the entries that follow the list, oldest first
pub record HttpOutcome : Type 0 where
  pub response : Response
  pub adds : List Entry

-- what stands beside the list: the bytes that its log uses, and what was counted
pub record Seen : Type 0 where
  pub size : ℕ
  pub counts : Tally

-- ---- the table of statuses

-- the response to an answer
abbrev pub response_to : Answer → Response
response_to (Replied answered) = answered_response answered
response_to (Tells told) = answer_response told
response_to Full = notice_response notice.Full
response_to Fault = notice_response notice.Fault
response_to Memory = notice_response notice.NoMemory
-- no request is answered so
response_to _ = bare 200

-- what a query of the archive is answered: it finds something, be it nothing, or it is none
abbrev pub archive_response : archive.Told → Response
archive_response (Found bytes) = told_as 200 bytes
archive_response (Refused bytes) = told_as 400 bytes

-- the same of this page of this query, at a list
abbrev pub search_response : ℕ → Bytes → History → Response
search_response page query h = archive_response (archive_told h page query)

-- what a publication holds, in the store of this identifier, at a list
abbrev pub contents_response : Bytes → ℕ → History → Response
contents_response store publication h = told_as 200 (contents_object h store publication)

-- what a question of the desk is answered: 404 where a thing that it names is not there
abbrev pub desk_response : desk.DeskTold → Response
desk_response (desk.DeskTold.Found bytes) = told_as 200 bytes
desk_response (desk.DeskTold.Unknown thing) = denial_response (UnknownThing thing)

-- the same of this question, at a list
abbrev pub question_response : DeskQuestion → History → Response
question_response question h = desk_response (desk_told h question)

-- a package of which nobody has every member, at a list of so many entries
abbrev pub no_readers_response : ℕ → Response
no_readers_response front = told_as 409 (no_readers_text front)

-- ---- what is asked of the room

-- nothing is asked of the room
abbrev pub unasked : Response → HttpOutcome
unasked response = record { response = response; adds = [] }

-- a call is answered at the list as it is
abbrev pub call_outcome : Writer → History → Call → ℕ → HttpOutcome
call_outcome write h call m = record { response = response_to (answer write h call m); adds = entries (follow h call m) }

-- ---- packages

-- the package that is described
abbrev pub package_of : Described → Composed
package_of described = record { story = composite described.story described.members; members = described.members }

-- a package to these readers, at the list as it is: without any that is told, before every denial, and else its flash to them is requested
abbrev pub flash_outcome : Writer → History → ℕ → Bytes → ℕ → Composed → List Bytes → HttpOutcome
flash_outcome write g m caller number p [] = unasked (no_readers_response (length g))
flash_outcome write g m caller number p (reader ∷ more) = call_outcome write g (Requested caller number (Flash p.story (reader ∷ more))) m

-- to its readers at the list
unfoldable pub package_outcome : Writer → History → ℕ → Bytes → ℕ → Composed → HttpOutcome
package_outcome write g m caller number p = flash_outcome write g m caller number p (readers g p.members)

-- ---- each thing that is asked

-- behind a tick: its entry comes first
abbrev pub with_tick : History → ℕ → HttpOutcome → HttpOutcome
with_tick h m o = record { response = o.response; adds = tick_entries h m ++ o.adds }

-- what is told of the list behind a tick
abbrev pub told_behind : History → ℕ → (History → Response) → HttpOutcome
told_behind h m tell = record { response = tell (ticked h m); adds = tick_entries h m }

-- A question, a search of the archive, what a publication holds, a question of the desk and a package come behind a tick: they are answered at the list which
-- that leaves. Publications are written as those of this store are.

unfoldable pub ask_outcome : Bytes → History → HttpAsk → ℕ → HttpOutcome
ask_outcome store h (ask.Request caller number command) m = call_outcome (the_writer store) h (Requested caller number command) m
ask_outcome store h (ask.Query question) m = record { response = response_to (answer (the_writer store) (ticked h m) (Asked question) m); adds = entries (follow h Ticked m) }
ask_outcome store h (ask.Receipt subscriber n) m = call_outcome (the_writer store) h (Receipted subscriber n) m
ask_outcome store h (ask.Ingest provider incoming) m = call_outcome (the_writer store) h (Ingested provider incoming) m
ask_outcome store h (ask.Archive page query) m = told_behind h m (search_response page query)
ask_outcome store h (ask.Package caller number described) m = with_tick h m (package_outcome (the_writer store) (ticked h m) m caller number (package_of described))
ask_outcome store h (ask.Contents publication) m = told_behind h m (contents_response store publication)
ask_outcome store h (ask.Desk question) m = told_behind h m (question_response question)

-- ---- requests

-- whether the caller has the right is known by the list as it is, before any tick
unfoldable pub asking_outcome : Bytes → History → Asking → ℕ → HttpOutcome
asking_outcome store h a m = if may_ask h a.caller (right_of a.ask) then ask_outcome store h a.ask m else unasked (notice_response notice.Forbidden)

-- what a request asks, or why it is refused before anything is asked
unfoldable pub asks : HttpRequest → Result HttpAsked Refusal
asks request = asked request

abbrev pub of_room : Result RoomAsk Refusal → Result HttpAsked Refusal
of_room (Ok a) = Ok (Room a)
of_room (Err refusal) = Err refusal

-- the request asks this in one turn, or is refused so before anything is asked; or there was no memory to read it
abbrev pub IsRead : HttpRequest → Result RoomAsk Refusal → Type 0
IsRead request read = IsSaid (asks request) (of_room read)

-- The response to what is asked in one turn, or to a refusal, in the store of this identifier, at a list, a reading of the clock and what
-- stands beside the list, and the entries that follow. The metrics are told of the list as it is, and keep nothing.
unfoldable pub http : Bytes → History → Result RoomAsk Refusal → ℕ → Seen → HttpOutcome
http store h (Ok (By a)) reading seen = asking_outcome store h a (moment_at h reading)
http store h (Ok Metrics) reading seen = unasked (metrics_response (metrics h reading seen.size seen.counts))
http store h (Err refusal) reading seen = unasked (refusal_response refusal)

-- ---- what was kept

-- the place of the last stop of a list, where it has one behind those before
abbrev pub stop_behind : (before now : ℕ) → Option ℕ
stop_behind before now = if nat_lt before now then Some now else None

-- What a turn makes of a list, and the turn as events of the world.
use Rattle.std.specs.Prelude.{◌≡◌, ◌⊎◌, ℕ, List, [], ◌++◌, Option, Some, None, Result, Ok, Err}
use Rattle.news_types.specs.declared.entry.Entry.{Entry}
use Rattle.news_types.specs.declared.query.Query.{Query}
use Rattle.news_types.specs.Names.{Bytes}
use Rattle.news_types.specs.History.{History, last_stop}
use Rattle.news_types.specs.Books.{Book, onto}
use Rattle.news_types.specs.Calls.{Call, Requested, Ingested, Receipted, Ticked, Asked, Answer, Full, Fault, Fate}
use Rattle.news_types.specs.Server.{Server, called, call_answer}
use Rattle.feed_frames.specs.Writer.{the_writer}
use Rattle.room_lock.specs.Passes.{At}
use Rattle.news_room.specs.Beside.{Beside, beside}
use Rattle.server_counts.specs.Tally.{Tally, nothing}
use Rattle.desk_routes.specs.declared.ask.HttpAsk.{HttpAsk}
use Rattle.desk_routes.specs.declared.ask.HttpAsk.TheVariants as ask
use Rattle.desk_routes.specs.declared.ask.RoomAsk.{RoomAsk}
use Rattle.desk_routes.specs.declared.ask.RoomAsk.TheVariants.{By, Metrics}
use Rattle.desk_routes.specs.declared.ask.Refusal.{Refusal}
use Rattle.desk_routes.specs.declared.response.Response.{Response}
use Rattle.desk_routes.specs.declared.response.Notice.TheVariants.{NoMemory}
use Rattle.desk_routes.specs.Responses.{notice_response}
use Rattle.package_rules.specs.Composed.{Composed}
use Rattle.package_rules.specs.Publishing.{flash_of}
use Rattle.feed_http.specs.declared.answers.HttpAnswer.{HttpAnswer}
use Rattle.feed_http.specs.Outcome.{search_response, contents_response, question_response, package_of, response_to, http, stop_behind, Seen}
use Rattle.feed_http.specs.Turn.{IsTold, Comes, TellsBehind}

-- ---- the events of a turn

-- The call is an event of the world, of one fate: a server that has the book's list has the list with more then, and the world's answer is
-- the one that was given, where publications are written as those of this store are.
pub record IsListEvent (b : Book) (more : List Entry) (call : Call) (now : ℕ) (answer : Answer) : Type 0 where
  pub fate : Fate
  pub serves : (c : Server) → c.list ≡ b.list → (called c call now fate).list ≡ (onto more b).list
  pub answers : (c : Server) → c.list ≡ b.list → call_answer (the_writer b.store) c call now fate ≡ answer

-- a call, and the response to its answer
pub record CallsList (b : Book) (more : List Entry) (call : Call) (now : ℕ) (response : Response) : Type 0 where
  pub answer : Answer
  pub event : IsListEvent b more call now answer
  pub told : IsTold answer response

-- the question behind a tick that was answered so: where the tick was refused nothing is asked
abbrev pub AsksListBehind : Book → Query → ℕ → Answer → Response → Type 0
AsksListBehind b question now Full response = response ≡ response_to Full
AsksListBehind b question now Fault response = response ≡ response_to Fault
AsksListBehind b question now answer response = CallsList b [] (Asked question) now response

-- a tick, and then a question
pub record TicksAndAsksList (b : Book) (more : List Entry) (question : Query) (now : ℕ) (response : Response) : Type 0 where
  pub answer : Answer
  pub event : IsListEvent b more Ticked now answer
  pub asks : AsksListBehind (onto more b) question now answer response

-- a tick, and then what is told of the list: a search of it, what a publication holds, or what a desk asks
pub record TicksAndTellsList (b : Book) (more : List Entry) (tell : History → Response) (now : ℕ) (response : Response) : Type 0 where
  pub answer : Answer
  pub event : IsListEvent b more Ticked now answer
  pub tells : TellsBehind tell (onto more b).list answer response

-- the flash of a package to its readers; or nothing was asked: nobody has every member, or there was no memory
abbrev pub FlashListEvents : Book → List Entry → Bytes → ℕ → Composed → ℕ → Response → Type 0
FlashListEvents b more caller number p now response = (more ≡ []) ⊎ CallsList b more (Requested caller number (flash_of p b.list)) now response

-- behind a tick that was answered so: where the tick was refused nothing is flashed
abbrev pub FlashesListBehind : Book → List Entry → Bytes → ℕ → Composed → ℕ → Answer → Response → Type 0
FlashesListBehind b more caller number p now Full response = (more ≡ []) × (response ≡ response_to Full)
FlashesListBehind b more caller number p now Fault response = (more ≡ []) × (response ≡ response_to Fault)
FlashesListBehind b more caller number p now answer response = FlashListEvents b more caller number p now response

-- a tick, and then the flash of a package to its readers at the list behind it
pub record TicksAndFlashesList (b : Book) (more : List Entry) (caller : Bytes) (number : ℕ) (p : Composed) (now : ℕ) (response : Response) : Type 0 where
  pub released : List Entry
  pub added : List Entry
  pub more_is : more ≡ released ++ added
  pub answer : Answer
  pub event : IsListEvent b released Ticked now answer
  pub flashes : FlashesListBehind (onto released b) added caller number p now answer response

-- what a package's request was, where the package could be made: without memory for that nothing was asked
abbrev pub PackageListEvents : Book → List Entry → Bytes → ℕ → Composed → ℕ → Response → Type 0
PackageListEvents b more caller number p now response = (more ≡ []) ⊎ TicksAndFlashesList b more caller number p now response

-- what is asked of the list
abbrev pub AskListEvents : Book → List Entry → HttpAsk → ℕ → Response → Type 0
AskListEvents b more (ask.Request caller number command) now response = CallsList b more (Requested caller number command) now response
AskListEvents b more (ask.Query question) now response = TicksAndAsksList b more question now response
AskListEvents b more (ask.Receipt subscriber n) now response = CallsList b more (Receipted subscriber n) now response
AskListEvents b more (ask.Ingest provider incoming) now response = CallsList b more (Ingested provider incoming) now response
AskListEvents b more (ask.Archive page query) now response = TicksAndTellsList b more (search_response page query) now response
AskListEvents b more (ask.Package caller number described) now response = PackageListEvents b more caller number (package_of described) now response
AskListEvents b more (ask.Contents publication) now response = TicksAndTellsList b more (contents_response b.store publication) now response
AskListEvents b more (ask.Desk question) now response = TicksAndTellsList b more (question_response question) now response

-- the events of what is asked, or nothing was asked of the list, as for the metrics and by a refusal
abbrev pub ReadListEvents : Book → List Entry → Result RoomAsk Refusal → ℕ → Response → Type 0
ReadListEvents b more (Ok (By a)) now response = (more ≡ []) ⊎ AskListEvents b more a.ask now response
ReadListEvents b more (Ok Metrics) now response = more ≡ []
ReadListEvents b more (Err refusal) now response = more ≡ []

-- ---- turns

-- the numbers beside a turn, by what it found and what it left
abbrev pub of_turn : At → At → Beside
of_turn before after = beside before.faults before.used after.faults after.used

-- what was counted, as far as it is at hand: without memory for it no answer tells of it
abbrev pub at_hand : Option Tally → Tally
at_hand (Some counts) = counts
at_hand None = nothing

-- there was no memory, and no stop was kept
abbrev pub no_memory_answer : HttpAnswer
no_memory_answer = record { response = notice_response NoMemory; stop = None }

-- what stands beside the list that the turn found, where this was counted
abbrev pub seen_by : At → Tally → Seen
seen_by before counts = record { size = before.used; counts = counts }

-- What is asked, or a refusal, is answered in a turn, at a reading of the clock, by the list that the turn found and by what was counted
-- before it: its outcome came, beside the turn's own numbers, its entries are the turn's, and these were its events. The answer has the
-- stop that the turn kept.
pub record IsAnsweredIn (before after : At) (read : Result RoomAsk Refusal) (now : ℕ) (counts : Tally) (answer : HttpAnswer) : Type 0 where
  -- the entries that the turn kept, oldest first
  pub more : List Entry
  pub book : after.book ≡ onto more before.book
  pub came : Comes (of_turn before after) (http before.book.store before.book.list read now (seen_by before counts)) more answer.response
  pub events : ReadListEvents before.book more read now answer.response
  pub stop : answer.stop ≡ stop_behind (last_stop before.book.list) (last_stop after.book.list)

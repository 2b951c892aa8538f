-- What a request's turn makes of a room, and the turn as events of the world.
use Rattle.std.specs.Prelude.{◌≡◌, ◌⊎◌, ◌==◌, ℕ, Bool, true, false, List, [], ◌++◌, Result, Ok, Err}
use Rattle.news_types.specs.declared.entry.Entry.{Entry}
use Rattle.news_types.specs.declared.query.Query.{Query}
use Rattle.news_types.specs.declared.Memory.{Memory as NoMemory}
use Rattle.news_types.specs.Names.{Bytes}
use Rattle.news_types.specs.History.{History, moment_at, last_stop}
use Rattle.news_types.specs.Books.{Book, onto}
use Rattle.news_types.specs.Calls.{Call, Requested, Ingested, Receipted, Ticked, Asked, Answer, Full, Fault}
use Rattle.news_io.specs.Keeper.{KeeperMeaning}
use Rattle.news_room.specs.Beside.{Beside}
use Rattle.news_room.specs.Stands.{Stands, limit_for, numbers}
use Rattle.news_room.specs.Steps.{Given, Refused, Failed, ToldStep}
use Rattle.news_room.specs.Events.{IsEvent}
use Rattle.news_room.specs.declared.room.Room.{Room}
use Rattle.desk_routes.specs.declared.ask.HttpAsk.{HttpAsk}
use Rattle.desk_routes.specs.declared.ask.HttpAsk.TheVariants as ask
use Rattle.desk_routes.specs.declared.ask.Asking.{Asking}
use Rattle.desk_routes.specs.declared.ask.RoomAsk.{RoomAsk}
use Rattle.desk_routes.specs.declared.ask.RoomAsk.TheVariants.{By, Metrics}
use Rattle.desk_routes.specs.declared.ask.Refusal.{Refusal}
use Rattle.desk_routes.specs.declared.response.Response.{Response}
use Rattle.desk_routes.specs.declared.response.Notice.TheVariants as notice
use Rattle.desk_routes.specs.Responses.{reply_response, denial_response, notice_response}
use Rattle.archive_search.specs.declared.told.Told as archive
use Rattle.server_counts.specs.Tally.{Tally, nothing}
use Rattle.package_rules.specs.declared.publish.Packaged.{Packaged}
use Rattle.package_rules.specs.Composed.{Composed}
use Rattle.package_rules.specs.Publishing.{flash_of}
use Rattle.feed_http.specs.declared.answers.HttpAnswer.{HttpAnswer}
use Rattle.feed_http.specs.Outcome.{HttpOutcome, Seen, archive_response, search_response, contents_response, question_response, no_readers_response, package_of, response_to, ask_outcome, asking_outcome, http, stop_behind}

-- ---- how much of an outcome came

-- this response, or there was no memory for its body
abbrev pub IsToldAs : Response → Response → Type 0
IsToldAs wanted response = (response ≡ wanted) ⊎ (response ≡ notice_response notice.NoMemory)

-- the response to an answer of the room
abbrev pub IsTold : Answer → Response → Type 0
IsTold Full response = response ≡ response_to Full
IsTold Fault response = response ≡ response_to Fault
IsTold answer response = IsToldAs (response_to answer) response

-- the response to what a query of the archive is answered
abbrev pub IsFound : Result archive.Told NoMemory → Response → Type 0
IsFound (Ok told) response = response ≡ archive_response told
IsFound (Err why) response = response ≡ notice_response notice.NoMemory

-- the response to what the request to publish a package is answered
abbrev pub IsPackaged : Packaged → Response → Type 0
IsPackaged (Packaged.Done reply) response = IsToldAs (reply_response reply false) response
IsPackaged (Packaged.Repeat reply) response = IsToldAs (reply_response reply true) response
IsPackaged (Packaged.Denied denial) response = IsToldAs (denial_response denial) response
IsPackaged (Packaged.NoReaders front) response = IsToldAs (no_readers_response front) response
IsPackaged Packaged.Fault response = response ≡ notice_response notice.Fault
IsPackaged (Packaged.Full size count) response = response ≡ notice_response notice.Full
IsPackaged Packaged.Memory response = response ≡ notice_response notice.NoMemory

-- All entries of the outcome are kept, and its response is given; or its next entry would pass the limit; or the keeper failed at it; or
-- there was no memory, and the first of them are kept: where at most one follows, none or all.
pub data Comes (n : Beside) (o : HttpOutcome) (more : List Entry) (response : Response) : Type 0 where
  whole : response ≡ o.response → Given n (limit_for o.adds) o.adds more → Comes n o more response
  full : (size count : ℕ) → response ≡ notice_response notice.Full → Refused n (limit_for o.adds) o.adds more size count → Comes n o more response
  failed : response ≡ notice_response notice.Fault → Failed n (limit_for o.adds) o.adds more → Comes n o more response
  starved : (rest : List Entry) → response ≡ notice_response notice.NoMemory → o.adds ≡ more ++ rest → Given n (limit_for o.adds) more more → Comes n o more response

-- the response that tells that the keeper failed
abbrev pub tells_failure : Response → Bool
tells_failure response = response.status == 503

-- what is told of a list behind a tick that was answered so: where the tick was refused nothing is told of it
abbrev pub TellsBehind : (History → Response) → History → Answer → Response → Type 0
TellsBehind tell h Full response = response ≡ response_to Full
TellsBehind tell h Fault response = response ≡ response_to Fault
TellsBehind tell h answer response = IsToldAs (tell h) response

module _ {K : Type 0} (keeper : KeeperMeaning K) where
  -- ---- the events of a turn

  -- a call, and the response to its answer
  pub record Calls (old new : Room K) (b : Book) (more : List Entry) (call : Call) (now : ℕ) (response : Response) : Type 0 where
    pub answer : Answer
    pub event : IsEvent keeper old new b more call now answer
    pub told : IsTold answer response

  -- the question behind a tick that was answered so: where the tick was refused nothing is asked
  abbrev pub AsksBehind : Room K → Book → Query → ℕ → Answer → Response → Type 0
  AsksBehind room b question now Full response = response ≡ response_to Full
  AsksBehind room b question now Fault response = response ≡ response_to Fault
  AsksBehind room b question now answer response = Calls room room b [] (Asked question) now response

  -- a tick, and then a question
  pub record TicksAndAsks (old new : Room K) (b : Book) (more : List Entry) (question : Query) (now : ℕ) (response : Response) : Type 0 where
    pub answer : Answer
    pub event : IsEvent keeper old new b more Ticked now answer
    pub asks : AsksBehind new (onto more b) question now answer response

  -- a tick, and then what is told of the list: a search of it, what a publication holds, or what a desk asks
  pub record TicksAndTells (old new : Room K) (b : Book) (more : List Entry) (tell : History → Response) (now : ℕ) (response : Response) : Type 0 where
    pub answer : Answer
    pub event : IsEvent keeper old new b more Ticked now answer
    pub tells : TellsBehind tell (onto more b).list answer response

  -- nothing was asked of the room
  pub record IsStill (old new : Room K) (more : List Entry) : Type 0 where
    pub room : new ≡ old
    pub none : more ≡ []

  -- the flash of a package to its readers; or nothing was asked of the room: nobody has every member, or there was no memory
  abbrev pub FlashEvents : Room K → Room K → Book → List Entry → Bytes → ℕ → Composed → ℕ → Response → Type 0
  FlashEvents old new b more caller number p now response = IsStill old new more ⊎ Calls old new b more (Requested caller number (flash_of p b.list)) now response

  -- behind a tick that was answered so: where the tick was refused nothing is flashed
  abbrev pub FlashesBehind : Room K → Room K → Book → List Entry → Bytes → ℕ → Composed → ℕ → Answer → Response → Type 0
  FlashesBehind old new b more caller number p now Full response = IsStill old new more × (response ≡ response_to Full)
  FlashesBehind old new b more caller number p now Fault response = IsStill old new more × (response ≡ response_to Fault)
  FlashesBehind old new b more caller number p now answer response = FlashEvents old new b more caller number p now response

  -- a tick, and then the flash of a package to its readers at the list behind it
  pub record TicksAndFlashes (old new : Room K) (b : Book) (more : List Entry) (caller : Bytes) (number : ℕ) (p : Composed) (now : ℕ) (response : Response) : Type 0 where
    pub mid : Room K
    pub released : List Entry
    pub added : List Entry
    pub more_is : more ≡ released ++ added
    pub answer : Answer
    pub event : IsEvent keeper old mid b released Ticked now answer
    pub flashes : FlashesBehind mid new (onto released b) added caller number p now answer response

  -- what a package's request was, where the package could be made: without memory for that nothing was asked
  abbrev pub PackageEvents : Room K → Room K → Book → List Entry → Bytes → ℕ → Composed → ℕ → Response → Type 0
  PackageEvents old new b more caller number p now response = IsStill old new more ⊎ TicksAndFlashes old new b more caller number p now response

  -- what is asked of the room
  abbrev pub AskEvents : Room K → Room K → Book → List Entry → HttpAsk → ℕ → Response → Type 0
  AskEvents old new b more (ask.Request caller number command) now response = Calls old new b more (Requested caller number command) now response
  AskEvents old new b more (ask.Query question) now response = TicksAndAsks old new b more question now response
  AskEvents old new b more (ask.Receipt subscriber n) now response = Calls old new b more (Receipted subscriber n) now response
  AskEvents old new b more (ask.Ingest provider incoming) now response = Calls old new b more (Ingested provider incoming) now response
  AskEvents old new b more (ask.Archive page query) now response = TicksAndTells old new b more (search_response page query) now response
  AskEvents old new b more (ask.Package caller number described) now response = PackageEvents old new b more caller number (package_of described) now response
  AskEvents old new b more (ask.Contents publication) now response = TicksAndTells old new b more (contents_response b.store publication) now response
  AskEvents old new b more (ask.Desk question) now response = TicksAndTells old new b more (question_response question) now response

  -- what a caller asks, or nothing was asked of the room
  abbrev pub AskingEvents : Room K → Room K → Book → List Entry → Asking → ℕ → Response → Type 0
  AskingEvents old new b more a now response = IsStill old new more ⊎ AskEvents old new b more a.ask now response

  -- the events of what is asked, or nothing was asked of the room, as for the metrics and by a refusal
  abbrev pub ReadEvents : Room K → Room K → Book → List Entry → Result RoomAsk Refusal → ℕ → Response → Type 0
  ReadEvents old new b more (Ok (By a)) now response = AskingEvents old new b more a now response
  ReadEvents old new b more (Ok Metrics) now response = IsStill old new more
  ReadEvents old new b more (Err refusal) now response = IsStill old new more

  -- ---- turns

  -- what a turn makes of a room that stood for the book: it stands for the book with more, an outcome came, and the turn was these
  -- events. Where the keeper tells its list, so is what a crash may leave
  pub record HttpTurn (old new : Room K) (b : Book) (more : List Entry) (o : HttpOutcome) (response : Response) (Events : Type 0) : Type 0 where
    pub stands : Stands keeper new (onto more b)
    pub came : Comes (numbers keeper old new) o more response
    pub events : Events
    pub told : b.told ≡ true → ToldStep keeper old new b o.adds more (tells_failure response)

  -- the turn of what is asked
  abbrev pub AskTurn : Room K → Room K → Book → List Entry → HttpAsk → ℕ → Response → Type 0
  AskTurn old new b more a now response =
      HttpTurn old new b more (ask_outcome b.store b.list a (moment_at b.list now)) response (AskEvents old new b more a now response)

  abbrev pub AskingTurn : Room K → Room K → Book → List Entry → Asking → ℕ → Response → Type 0
  AskingTurn old new b more a now response =
      HttpTurn old new b more (asking_outcome b.store b.list a (moment_at b.list now)) response (AskingEvents old new b more a now response)

  -- what stands beside the list of a room, where this was counted
  abbrev pub seen_by : Room K → Tally → Seen
  seen_by room counts = record { size = keeper.used room.keeper; counts = counts }

  -- the turn of what is asked, or of a refusal, at a reading of the clock, where this was counted before it
  abbrev pub ReadTurn : Room K → Room K → Book → List Entry → Result RoomAsk Refusal → ℕ → Tally → Response → Type 0
  ReadTurn old new b more read now counts response =
      HttpTurn old new b more (http b.store b.list read now (seen_by old counts)) response (ReadEvents old new b more read now response)

  -- what that is answered in its turn, and the stop that the turn kept
  pub record IsAnswer (old new : Room K) (b : Book) (more : List Entry) (read : Result RoomAsk Refusal) (now : ℕ) (counts : Tally) (answer : HttpAnswer) : Type 0 where
    pub turn : ReadTurn old new b more read now counts answer.response
    pub stop : answer.stop ≡ stop_behind (last_stop b.list) (last_stop ((onto more b).list))

  -- the same for each book for which the room stood
  abbrev pub IsAnswered : Room K → ℕ → Tally → Result RoomAsk Refusal → HttpAnswer → Room K → Type 0
  IsAnswered old now counts read answer new = (more : List Entry) × ((b : Book) → Stands keeper old b → IsAnswer old new b more read now counts answer)

  -- the same where nothing is ever counted
  abbrev pub IsAnsweredUncounted : Room K → ℕ → Result RoomAsk Refusal → HttpAnswer → Room K → Type 0
  IsAnsweredUncounted old now read answer new = IsAnswered old now nothing read answer new

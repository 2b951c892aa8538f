-- A turn of a room, said of its list alone.
use Rattle.std.proofs.Common.{◌≡◌, ◌⊎◌, inl, inr, ℕ, Bool, false, List, [], ◌++◌, Option, Some, None, refl, sym, ap, arith}
use Rattle.std.specs.Prelude.{nat_lt, if◌then◌else◌, Result, Ok, Err}
use Rattle.std.proofs.lemmas.Bool.{false≢true, le-ltb}
use Rattle.news_types.specs.declared.entry.Entry.{Entry}
use Rattle.news_types.specs.declared.query.Query.{Query}
use Rattle.news_types.specs.Names.{Bytes}
use Rattle.news_types.specs.History.{History, last_stop}
use Rattle.news_types.specs.Books.{Book, onto}
use Rattle.news_types.specs.Calls as call
use Rattle.news_types.specs.Calls.{Call, Asked, Answer}
use Rattle.news_types.specs.Server.{Server}
use Rattle.news_io.specs.Keeper.{KeeperMeaning}
use Rattle.room_lock.specs.Passes.{at}
use Rattle.news_room.specs.Stands.{Stands}
use Rattle.news_room.specs.Events.{Serves, IsEvent}
use Rattle.news_room.specs.declared.room.Room.{Room}
use Rattle.server_counts.specs.Tally.{Tally}
use Rattle.desk_routes.specs.declared.ask.HttpAsk.{HttpAsk}
use Rattle.desk_routes.specs.declared.ask.HttpAsk.TheVariants as ask
use Rattle.desk_routes.specs.declared.ask.RoomAsk.{RoomAsk}
use Rattle.desk_routes.specs.declared.ask.RoomAsk.TheVariants.{By, Metrics}
use Rattle.desk_routes.specs.declared.ask.Refusal.{Refusal}
use Rattle.desk_routes.specs.declared.response.Response.{Response}
use Rattle.feed_http.specs.declared.answers.HttpAnswer.{HttpAnswer}
use Rattle.package_rules.specs.Composed.{Composed}
use Rattle.package_rules.specs.Publishing.{flash_of}
use Rattle.feed_http.specs.Outcome.{search_response, contents_response, question_response, package_of, http, stop_behind}
use Rattle.feed_http.specs.Turn.{starved, Calls, AsksBehind, TicksAndAsks, TicksAndTells, IsStill, FlashEvents, FlashesBehind, PackageEvents, AskEvents, ReadEvents, IsAnswer, IsAnswered}
use Rattle.shared_connections.specs.Turns.{no_memory_answer, seen_by, IsListEvent, CallsList, AsksListBehind, TicksAndAsksList, TicksAndTellsList, FlashListEvents, FlashesListBehind, PackageListEvents, AskListEvents, ReadListEvents, IsAnsweredIn}

-- the book whose keeper need not tell it
abbrev untold : Book → Book
untold b = record { store = b.store; told = false; list = b.list }

module _ {K : Type 0} (keeper : KeeperMeaning K) where
  stands_untold : (r : Room K) (b : Book) → Stands keeper r b → Stands keeper r (untold b)
  stands_untold r b s = record { store_is = s.store_is; machine_for = s.machine_for; kept = s.kept; few = s.few; told = λ t. absurd (false≢true t) }

  -- a server with its list is one that the room serves
  serves_untold : (r : Room K) (b : Book) (c : Server) → c.list ≡ b.list → Serves keeper r (untold b) c
  serves_untold r b c is = record { list_is = is; doubt = λ t. absurd (false≢true t) }

  event_listed : (old new : Room K) (b : Book) (more : List Entry) (asked : Call) (now : ℕ) (answer : Answer) → IsEvent keeper old new (untold b) more asked now answer → IsListEvent b more asked now answer
  event_listed old new b more asked now answer e = record {
    fate = e.fate;
    serves = λ c is. (e.serves c (serves_untold old b c is)).list_is;
    answers = λ c is. e.answers c (serves_untold old b c is);
  }

  calls_listed : (old new : Room K) (b : Book) (more : List Entry) (asked : Call) (now : ℕ) (response : Response) → Calls keeper old new (untold b) more asked now response → CallsList b more asked now response
  calls_listed old new b more asked now response e = record { answer = e.answer; event = event_listed old new b more asked now e.answer e.event; told = e.told }

  behind_listed : (room : Room K) (b : Book) (question : Query) (now : ℕ) (answer : Answer) (response : Response) → AsksBehind keeper room (untold b) question now answer response → AsksListBehind b question now answer response
  behind_listed room b question now call.Full response e = e
  behind_listed room b question now call.Fault response e = e
  behind_listed room b question now (call.Replied answered) response e = calls_listed room room b [] (Asked question) now response e
  behind_listed room b question now (call.Kept n) response e = calls_listed room room b [] (Asked question) now response e
  behind_listed room b question now call.Still response e = calls_listed room room b [] (Asked question) now response e
  behind_listed room b question now (call.Job s k frame n) response e = calls_listed room room b [] (Asked question) now response e
  behind_listed room b question now (call.Idle next) response e = calls_listed room room b [] (Asked question) now response e
  behind_listed room b question now (call.Tells told) response e = calls_listed room room b [] (Asked question) now response e
  behind_listed room b question now call.Memory response e = calls_listed room room b [] (Asked question) now response e

  ticks_listed : (old new : Room K) (b : Book) (more : List Entry) (question : Query) (now : ℕ) (response : Response) → TicksAndAsks keeper old new (untold b) more question now response → TicksAndAsksList b more question now response
  ticks_listed old new b more question now response e = record {
    answer = e.answer;
    event = event_listed old new b more call.Ticked now e.answer e.event;
    asks = behind_listed new (onto more b) question now e.answer response e.asks;
  }

  tells_listed : (old new : Room K) (b : Book) (more : List Entry) (tell : History → Response) (now : ℕ) (response : Response) → TicksAndTells keeper old new (untold b) more tell now response → TicksAndTellsList b more tell now response
  tells_listed old new b more tell now response e = record {
    answer = e.answer;
    event = event_listed old new b more call.Ticked now e.answer e.event;
    tells = e.tells;
  }

  flash_listed : (old new : Room K) (b : Book) (more : List Entry) (caller : Bytes) (number : ℕ) (p : Composed) (now : ℕ) (response : Response) → FlashEvents keeper old new (untold b) more caller number p now response → FlashListEvents b more caller number p now response
  flash_listed old new b more caller number p now response (inl still) = inl still.none
  flash_listed old new b more caller number p now response (inr e) = inr (calls_listed old new b more (call.Requested caller number (flash_of p b.list)) now response e)

  flashes_listed : (old new : Room K) (b : Book) (more : List Entry) (caller : Bytes) (number : ℕ) (p : Composed) (now : ℕ) (answer : Answer) (response : Response) → FlashesBehind keeper old new (untold b) more caller number p now answer response
      → FlashesListBehind b more caller number p now answer response
  flashes_listed old new b more caller number p now call.Full response e = (e.0.none, e.1)
  flashes_listed old new b more caller number p now call.Fault response e = (e.0.none, e.1)
  flashes_listed old new b more caller number p now (call.Replied answered) response e = flash_listed old new b more caller number p now response e
  flashes_listed old new b more caller number p now (call.Kept n) response e = flash_listed old new b more caller number p now response e
  flashes_listed old new b more caller number p now call.Still response e = flash_listed old new b more caller number p now response e
  flashes_listed old new b more caller number p now (call.Job s k frame n) response e = flash_listed old new b more caller number p now response e
  flashes_listed old new b more caller number p now (call.Idle next) response e = flash_listed old new b more caller number p now response e
  flashes_listed old new b more caller number p now (call.Tells told) response e = flash_listed old new b more caller number p now response e
  flashes_listed old new b more caller number p now call.Memory response e = flash_listed old new b more caller number p now response e

  package_listed : (old new : Room K) (b : Book) (more : List Entry) (caller : Bytes) (number : ℕ) (p : Composed) (now : ℕ) (response : Response) → PackageEvents keeper old new (untold b) more caller number p now response → PackageListEvents b more caller number p now response
  package_listed old new b more caller number p now response (inl still) = inl still.none
  package_listed old new b more caller number p now response (inr e) = inr (record {
    released = e.released;
    added = e.added;
    more_is = e.more_is;
    answer = e.answer;
    event = event_listed old e.mid b e.released call.Ticked now e.answer e.event;
    flashes = flashes_listed e.mid new (onto e.released b) e.added caller number p now e.answer response e.flashes;
  })

  asks_listed : (old new : Room K) (b : Book) (more : List Entry) (a : HttpAsk) (now : ℕ) (response : Response) → AskEvents keeper old new (untold b) more a now response → AskListEvents b more a now response
  asks_listed old new b more (ask.Request caller number command) now response e = calls_listed old new b more (call.Requested caller number command) now response e
  asks_listed old new b more (ask.Query question) now response e = ticks_listed old new b more question now response e
  asks_listed old new b more (ask.Receipt subscriber n) now response e = calls_listed old new b more (call.Receipted subscriber n) now response e
  asks_listed old new b more (ask.Ingest provider incoming) now response e = calls_listed old new b more (call.Ingested provider incoming) now response e
  asks_listed old new b more (ask.Archive page query) now response e = tells_listed old new b more (search_response page query) now response e
  asks_listed old new b more (ask.Package caller number described) now response e = package_listed old new b more caller number (package_of described) now response e
  asks_listed old new b more (ask.Contents publication) now response e = tells_listed old new b more (contents_response b.store publication) now response e
  asks_listed old new b more (ask.Desk question) now response e = tells_listed old new b more (question_response question) now response e

  asking_listed : (old new : Room K) (b : Book) (more : List Entry) (a : HttpAsk) (now : ℕ) (response : Response) → IsStill keeper old new more ⊎ AskEvents keeper old new (untold b) more a now response → (more ≡ []) ⊎ AskListEvents b more a now response
  asking_listed old new b more a now response (inl still) = inl still.none
  asking_listed old new b more a now response (inr e) = inr (asks_listed old new b more a now response e)

  read_listed : (old new : Room K) (b : Book) (more : List Entry) (read : Result RoomAsk Refusal) (now : ℕ) (response : Response) → ReadEvents keeper old new (untold b) more read now response → ReadListEvents b more read now response
  read_listed old new b more (Ok (By a)) now response e = asking_listed old new b more a.ask now response e
  read_listed old new b more (Ok Metrics) now response e = e.none
  read_listed old new b more (Err refusal) now response e = e.none

  -- nothing was asked
  none_listed : (b : Book) (read : Result RoomAsk Refusal) (now : ℕ) (response : Response) → ReadListEvents b [] read now response
  none_listed b (Ok (By a)) now response = inl refl
  none_listed b (Ok Metrics) now response = refl
  none_listed b (Err refusal) now response = refl

  -- a room's turn, between the numbers beside it
  answer_listed : (old new : Room K) (b : Book) (more : List Entry) (read : Result RoomAsk Refusal) (now : ℕ) (counts : Tally) (answer : HttpAnswer)
      → IsAnswer keeper old new b more read now counts answer → IsAnswer keeper old new (untold b) more read now counts answer
      → IsAnsweredIn (at b (keeper.faults old.keeper) (keeper.used old.keeper)) (at (onto more b) (keeper.faults new.keeper) (keeper.used new.keeper)) read now counts answer
  answer_listed old new b more read now counts answer told other = record {
    more = more;
    book = refl;
    came = told.turn.came;
    events = read_listed old new b more read now answer.response other.turn.events;
    stop = told.stop;
  }

  -- the work's turn, for each book
  pub turn_listed : (old new : Room K) (read : Result RoomAsk Refusal) (now : ℕ) (counts : Tally) (answer : HttpAnswer) → IsAnswered keeper old now counts read answer new
      → (more : List Entry) × ((b : Book) → Stands keeper old b → Stands keeper new (onto more b)
      × IsAnsweredIn (at b (keeper.faults old.keeper) (keeper.used old.keeper)) (at (onto more b) (keeper.faults new.keeper) (keeper.used new.keeper)) read now counts answer)
  turn_listed old new read now counts answer a = (
    a.0,
    λ b stands.
        let told : IsAnswer keeper old new b a.0 read now counts answer = a.1 b stands in
        let other : IsAnswer keeper old new (untold b) a.0 read now counts answer = a.1 (untold b) (stands_untold old b stands) in (told.turn.stands, answer_listed old new b a.0 read now counts answer told other),
  )

  -- ---- a turn without memory

  none_behind : (n : ℕ) → None ≡ stop_behind n n
  none_behind n = ap (λ (past : Bool). if past then Some n else None) (sym (le-ltb n n (omega arith)))

  -- nothing is asked of the room then
  pub starved_listed : (room : Room K) (read : Result RoomAsk Refusal) (now : ℕ) (counts : Tally)
      → (more : List Entry) × ((b : Book) → Stands keeper room b → Stands keeper room (onto more b)
      × IsAnsweredIn (at b (keeper.faults room.keeper) (keeper.used room.keeper)) (at (onto more b) (keeper.faults room.keeper) (keeper.used room.keeper)) read now counts no_memory_answer)
  starved_listed room read now counts = (
    [],
    λ b stands.
        let before = at b (keeper.faults room.keeper) (keeper.used room.keeper) in (
          stands,
          record {
            more = [];
            book = refl;
            came = starved (http b.store b.list read now (seen_by before counts)).adds refl refl (record { whole = record { is = refl; calm = refl; grown = omega arith }; within = tt });
            events = none_listed b read now no_memory_answer.response;
            stop = none_behind (last_stop b.list);
          },
        ),
  )

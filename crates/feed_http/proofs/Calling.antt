-- A turn that is one call of the room, or none.
use Rattle.std.proofs.Common.{◌≡◌, ℕ, true, List, [], refl, sym, subst}
use Rattle.news_types.specs.declared.entry.Entry.{Entry}
use Rattle.news_types.specs.declared.command.Command.{Command}
use Rattle.news_types.specs.declared.story.Incoming.{Incoming}
use Rattle.news_types.specs.Names.{Bytes}
use Rattle.news_types.specs.History.{moment_at}
use Rattle.news_types.specs.Books.{Book, onto}
use Rattle.news_types.specs.Outcome.{request, ingest, receipt}
use Rattle.news_types.specs.Calls.{Call, Requested, Ingested, Receipted, Answer}
use Rattle.news_io.specs.Keeper.{KeeperMeaning}
use Rattle.news_room.specs.Stands.{Stands, numbers}
use Rattle.news_room.specs.Said.{said, said_kept, is_failure}
use Rattle.news_room.specs.Steps.{RequestStep, IngestStep, ReceiptStep, ToldStep}
use Rattle.news_room.specs.Events.{IsEvent, Happens}
use Rattle.news_room.specs.declared.answers.Handled.{Handled}
use Rattle.news_room.specs.declared.answers.Kept as kept
use Rattle.news_room.specs.declared.room.Room.{Room}
use Rattle.news_room.proofs.Appends.{told_none}
use Rattle.news_room.proofs.Limits.{receipt_limit}
use Rattle.desk_routes.specs.declared.ask.HttpAsk.{HttpAsk}
use Rattle.desk_routes.specs.declared.ask.HttpAsk.TheVariants as ask
use Rattle.desk_routes.specs.declared.response.Response.{Response}
use Rattle.feed_http.specs.Outcome.{HttpOutcome}
use Rattle.feed_http.specs.Turn.{IsTold, Comes, tells_failure, Calls, IsStill, HttpTurn, AskTurn}
use Rattle.feed_http.proofs.Outcomes.{replied, requested, ingested, received}
use Rattle.feed_http.proofs.Coming.{comes_answered, comes_received}
use Rattle.feed_http.proofs.Doubts.{told_any, told_by}

module _ {K : Type 0} (keeper : KeeperMeaning K) where
  -- ---- nothing is asked of the room

  pub still : (room : Room K) → IsStill keeper room room []
  still room = record { room = refl; none = refl }

  -- with this response
  pub still_turn : (room : Room K) (b : Book) (o : HttpOutcome) (response : Response) (Events : Type 0) → Stands keeper room b → Comes (numbers keeper room room) o [] response → Events → HttpTurn keeper room room b [] o response Events
  still_turn room b o response Events stands came events = record {
    stands = stands;
    came = came;
    events = events;
    told = λ t. told_any keeper room room b o.adds [] (tells_failure response) (told_none keeper room room b o.adds refl);
  }

  -- ---- one call

  call_turn : (old new : Room K) (b : Book) (more : List Entry) (asked : Call) (now : ℕ) (a : Answer) (response : Response) (o : HttpOutcome) → Stands keeper new (onto more b) → IsEvent keeper old new b more asked now a
      → (b.told ≡ true → ToldStep keeper old new b o.adds more (is_failure a)) → IsTold a response → Comes (numbers keeper old new) o more response → HttpTurn keeper old new b more o response (Calls keeper old new b more asked now response)
  call_turn old new b more asked now a response o stands event told heard came = record {
    stands = stands;
    came = came;
    events = record { answer = a; event = event; told = heard };
    told = λ t. told_by keeper old new b o.adds more a response heard (told t);
  }

  pub request_turn : (old new : Room K) (b : Book) (more : List Entry) (caller : Bytes) (number : ℕ) (command : Command) (now : ℕ) (answered : Handled) (response : Response)
      → Happens keeper old new b more (Requested caller number command) now (said answered) (RequestStep (numbers keeper old new) b now caller number command more answered) → IsTold (said answered) response → AskTurn keeper old new b more (ask.Request caller number command) now response
  request_turn old new b more caller number command now answered response h heard =
      subst (λ (o : HttpOutcome). HttpTurn keeper old new b more o response (Calls keeper old new b more (Requested caller number command) now response)) (sym (requested b.store b.list caller number command (moment_at b.list now)))
      (call_turn old new b more (Requested caller number command) now (said answered) response (replied (request b.list caller number command now)) h.stands h.event h.told heard
      (comes_answered (numbers keeper old new) more (request b.list caller number command now) answered response h.step heard))

  pub ingest_turn : (old new : Room K) (b : Book) (more : List Entry) (provider : Bytes) (incoming : Incoming) (now : ℕ) (answered : Handled) (response : Response)
      → Happens keeper old new b more (Ingested provider incoming) now (said answered) (IngestStep (numbers keeper old new) b now provider incoming more answered) → IsTold (said answered) response → AskTurn keeper old new b more (ask.Ingest provider incoming) now response
  ingest_turn old new b more provider incoming now answered response h heard =
      subst (λ (o : HttpOutcome). HttpTurn keeper old new b more o response (Calls keeper old new b more (Ingested provider incoming) now response)) (sym (ingested b.store b.list provider incoming (moment_at b.list now)))
      (call_turn old new b more (Ingested provider incoming) now (said answered) response (replied (ingest b.list provider incoming now)) h.stands h.event h.told heard
      (comes_answered (numbers keeper old new) more (ingest b.list provider incoming now) answered response h.step heard))

  pub receipt_turn : (old new : Room K) (b : Book) (more : List Entry) (subscriber : Bytes) (n now : ℕ) (answered : kept.Kept) (response : Response)
      → Happens keeper old new b more (Receipted subscriber n) now (said_kept answered) (ReceiptStep (numbers keeper old new) b now subscriber n more answered) → IsTold (said_kept answered) response → AskTurn keeper old new b more (ask.Receipt subscriber n) now response
  receipt_turn old new b more subscriber n now answered response h heard =
      subst (λ (o : HttpOutcome). HttpTurn keeper old new b more o response (Calls keeper old new b more (Receipted subscriber n) now response)) (sym (received b.store b.list subscriber n (moment_at b.list now)))
      (call_turn old new b more (Receipted subscriber n) now (said_kept answered) response (replied (receipt b.list subscriber n now)) h.stands h.event h.told heard
      (comes_received (numbers keeper old new) more (receipt b.list subscriber n now) answered response (receipt_limit b.list subscriber n (moment_at b.list now)) h.step heard))

  -- ---- what is asked, by its kind

  -- a turn for each book
  abbrev pub Turned : Room K → Room K → HttpAsk → ℕ → Response → Type 0
  Turned old new a now response = (more : List Entry) × ((b : Book) → Stands keeper old b → AskTurn keeper old new b more a now response)

  pub asked_as : (old new : Room K) (a is : HttpAsk) (now : ℕ) (response : Response) → a ≡ is → Turned old new is now response → Turned old new a now response
  asked_as old new a is now response same turned = (turned.0, λ b stands. subst (λ (x : HttpAsk). AskTurn keeper old new b turned.0 x now response) (sym same) (turned.1 b stands))

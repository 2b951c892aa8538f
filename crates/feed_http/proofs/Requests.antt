-- The turn of what is asked, by its kind.
use Rattle.std.proofs.Common.{◌≡◌, ℕ, List, [], Ok, Err, sym, subst}
use Rattle.std.specs.Prelude.{Result, IfOk}
use Rattle.news_types.specs.declared.entry.Entry.{Entry}
use Rattle.news_types.specs.declared.Memory.{Memory as NoMemory}
use Rattle.news_types.specs.Books.{Book}
use Rattle.news_io.specs.Keeper.{KeeperMeaning}
use Rattle.news_room.specs.Stands.{Stands}
use Rattle.news_room.specs.declared.room.Room.{Room}
use Rattle.desk_routes.specs.declared.ask.Asking.{Asking}
use Rattle.desk_routes.specs.declared.ask.RoomAsk.{RoomAsk}
use Rattle.desk_routes.specs.declared.ask.RoomAsk.TheVariants.{By, Metrics}
use Rattle.desk_routes.specs.declared.ask.Refusal.{Refusal}
use Rattle.desk_routes.specs.declared.response.Response.{Response}
use Rattle.desk_routes.specs.Responses.{refusal_response, metrics_response}
use Rattle.server_counts.specs.Tally.{Tally}
use Rattle.server_metrics.specs.Metrics.{metrics}
use Rattle.feed_http.specs.Outcome.{HttpOutcome, unasked, http}
use Rattle.feed_http.proofs.Outcomes.{http_by, http_metrics, http_err}
use Rattle.feed_http.specs.Turn.{IsToldAs, AskingEvents, ReadEvents, HttpTurn, AskingTurn, seen_by, ReadTurn}
use Rattle.feed_http.proofs.Coming.{comes_unasked}
use Rattle.feed_http.proofs.Calling.{still, still_turn}

module _ {K : Type 0} (keeper : KeeperMeaning K) where
  -- a caller asks it
  pub asked_turn : (old new : Room K) (b : Book) (more : List Entry) (a : Asking) (now : ℕ) (counts : Tally) (response : Response) → AskingTurn keeper old new b more a now response → ReadTurn keeper old new b more (Ok (By a)) now counts response
  asked_turn old new b more a now counts response t =
      subst (λ (x : HttpOutcome). HttpTurn keeper old new b more x response (AskingEvents keeper old new b more a now response)) (sym (http_by b.store b.list a now (seen_by keeper old counts))) t

  -- nothing is asked of the room, and this is told
  unasked_turn : (room : Room K) (b : Book) (read : Result RoomAsk Refusal) (now : ℕ) (counts : Tally) (wanted response : Response) → Stands keeper room b → http b.store b.list read now (seen_by keeper room counts) ≡ unasked wanted → IsToldAs wanted response
      → ReadEvents keeper room room b [] read now response → ReadTurn keeper room room b [] read now counts response
  unasked_turn room b read now counts wanted response stands is told events =
      let E = ReadEvents keeper room room b [] read now response in
      subst (λ (x : HttpOutcome). HttpTurn keeper room room b [] x response E) (sym is) (still_turn keeper room b (unasked wanted) response E stands (comes_unasked keeper room wanted response told) events)

  -- what a room tells by itself, where it stands for this book
  pub told_at : (room : Room K) (tell : Book → Response) (b : Book) (told : Result Response NoMemory) → Stands keeper room b → IfOk told (λ r. (c : Book) → Stands keeper room c → r ≡ tell c) → IfOk told (λ r. r ≡ tell b)
  told_at room tell b (Ok r) stands is = is b stands
  told_at room tell b (Err why) stands is = tt

  -- the metrics are asked for
  pub metrics_turn : (room : Room K) (b : Book) (now : ℕ) (counts : Tally) (response : Response) → Stands keeper room b → IsToldAs (metrics_response (metrics b.list now (keeper.used room.keeper) counts)) response
      → ReadTurn keeper room room b [] (Ok Metrics) now counts response
  metrics_turn room b now counts response stands told =
      unasked_turn room b (Ok Metrics) now counts (metrics_response (metrics b.list now (keeper.used room.keeper) counts)) response stands (http_metrics b.store b.list now (seen_by keeper room counts)) told (still keeper room)

  -- it is refused before anything is asked
  pub refused_turn : (room : Room K) (b : Book) (refusal : Refusal) (now : ℕ) (counts : Tally) (response : Response) → Stands keeper room b → IsToldAs (refusal_response refusal) response → ReadTurn keeper room room b [] (Err refusal) now counts response
  refused_turn room b refusal now counts response stands told =
      unasked_turn room b (Err refusal) now counts (refusal_response refusal) response stands (http_err b.store b.list refusal now (seen_by keeper room counts)) told (still keeper room)

  -- ---- what is read, by its kind

  -- a turn for each book
  abbrev pub TurnedRead : Room K → Room K → Result RoomAsk Refusal → ℕ → Tally → Response → Type 0
  TurnedRead old new read now counts response = (more : List Entry) × ((b : Book) → Stands keeper old b → ReadTurn keeper old new b more read now counts response)

  pub read_is : (old new : Room K) (read is : Result RoomAsk Refusal) (now : ℕ) (counts : Tally) (response : Response) → read ≡ is → TurnedRead old new is now counts response → TurnedRead old new read now counts response
  read_is old new read is now counts response same turned = subst (λ (x : Result RoomAsk Refusal). TurnedRead old new x now counts response) (sym same) turned

-- What a status says of a turn.
use Rattle.std.specs.Prelude.{◌≡◌, ◌⊎◌, ◌==◌, ◌||◌, ℕ, Bool, true, false, IsTrue, List, [], ◌∷◌, ◌++◌, Result, Ok, Err}
use Rattle.news_types.specs.declared.entry.Entry.{Entry}
use Rattle.news_types.specs.declared.entry.Act.TheVariants.{Advance}
use Rattle.news_types.specs.Names.{Bytes}
use Rattle.news_types.specs.History.{History}
use Rattle.news_room.specs.Beside.{Beside}
use Rattle.news_room.specs.Stands.{limit_for}
use Rattle.news_room.specs.Steps.{Given, Refused, Failed}
use Rattle.http_wire.specs.declared.request.HttpRequest.{HttpRequest}
use Rattle.desk_routes.specs.declared.ask.HttpAsk.{HttpAsk}
use Rattle.desk_routes.specs.declared.ask.HttpAsk.TheVariants.{Package}
use Rattle.desk_routes.specs.declared.ask.RoomAsk.{RoomAsk}
use Rattle.desk_routes.specs.declared.ask.RoomAsk.TheVariants.{By, Metrics}
use Rattle.desk_routes.specs.declared.ask.Refusal.{Refusal}
use Rattle.desk_routes.specs.declared.response.Response.{Response}
use Rattle.feed_http.specs.Outcome.{HttpOutcome, Seen, asks, of_room, http}
use Rattle.feed_http.specs.Turn.{Comes}

-- the statuses of what the list answers, and of what is refused before it is asked
abbrev pub is_given : ℕ → Bool
is_given status = status == 200 || status == 400 || status == 403 || status == 404 || status == 409 || status == 413

-- the outcome of what a request asks in one turn, or of why it is refused, has one of these
abbrev pub OutcomesAreGiven : Type 0
OutcomesAreGiven = (store : Bytes) (h : History) (request : HttpRequest) (read : Result RoomAsk Refusal) (reading : ℕ) (seen : Seen) → asks request ≡ of_room read → IsTrue (is_given (http store h read reading seen).response.status)

-- ---- packages, of which two entries follow: the tick's and the flash

abbrev pub is_package : HttpAsk → Bool
is_package (Package caller number described) = true
is_package _ = false

abbrev pub asks_package : Result RoomAsk Refusal → Bool
asks_package (Ok (By a)) = is_package a.ask
asks_package (Ok Metrics) = false
asks_package (Err refusal) = false

-- what was kept before an entry that was not: nothing, or of a package the entry of its tick
abbrev pub IsBefore : Bool → List Entry → Type 0
IsBefore package_asked [] = Unit {0}
IsBefore package_asked (e ∷ []) = (package_asked ≡ true) × (e.act ≡ Advance)
IsBefore package_asked _ = ⊥

-- ---- what came

-- an entry would have passed the limit, and nothing was kept, or of a package its tick
pub record IsPast (package_asked : Bool) (n : Beside) (o : HttpOutcome) (more : List Entry) : Type 0 where
  pub before : IsBefore package_asked more
  pub size : ℕ
  pub count : ℕ
  pub refused : Refused n (limit_for o.adds) o.adds more size count

-- the keeper failed at an entry, and nothing was kept, or of a package its tick
pub record IsLost (package_asked : Bool) (n : Beside) (o : HttpOutcome) (more : List Entry) : Type 0 where
  pub before : IsBefore package_asked more
  pub failed : Failed n (limit_for o.adds) o.adds more

-- all entries were kept or none, or of a package its tick
pub record IsStarved (package_asked : Bool) (n : Beside) (o : HttpOutcome) (more : List Entry) : Type 0 where
  pub rest : List Entry
  pub is : o.adds ≡ more ++ rest
  pub before : (rest ≡ []) ⊎ IsBefore package_asked more
  pub given : Given n (limit_for o.adds) more more

-- what came of an outcome, by the status alone
pub record IsToldBy (package_asked : Bool) (n : Beside) (o : HttpOutcome) (more : List Entry) (response : Response) : Type 0 where
  pub given : IsTrue (is_given response.status) → (response ≡ o.response) × Given n (limit_for o.adds) o.adds more
  pub full : response.status ≡ 508 → IsPast package_asked n o more
  pub failed : response.status ≡ 503 → IsLost package_asked n o more
  pub starved : response.status ≡ 507 → IsStarved package_asked n o more
  pub each : (IsTrue (is_given response.status) ⊎ (response.status ≡ 508)) ⊎ ((response.status ≡ 503) ⊎ (response.status ≡ 507))

abbrev pub StatusesTell : Type 0
StatusesTell = (n : Beside) (store : Bytes) (h : History) (read : Result RoomAsk Refusal) (reading : ℕ) (seen : Seen) (more : List Entry) (response : Response)
    → Comes n (http store h read reading seen) more response → IsToldBy (asks_package read) n (http store h read reading seen) more response

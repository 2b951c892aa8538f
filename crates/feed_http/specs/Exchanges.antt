-- The requests of a connection that were answered, each with its answer.
use Rattle.std.specs.Prelude.{◌≡◌, ◌⊎◌, ◌<◌, ℕ, List, [], ◌∷◌, ◌++◌, length, map, false, None, Result, Ok}
use Rattle.std.specs.List.{flat_map}
use Rattle.http_wire.specs.declared.request.HttpRequest.{HttpRequest}
use Rattle.http_wire.specs.Writing.{response}
use Rattle.desk_routes.specs.declared.ask.RoomAsk.{RoomAsk}
use Rattle.desk_routes.specs.declared.ask.WireAsk.{WireAsk}
use Rattle.desk_routes.specs.declared.ask.HttpAsked.TheVariants.{Wire}
use Rattle.desk_routes.specs.declared.ask.Refusal.{Refusal}
use Rattle.desk_routes.specs.declared.response.Response.{Response}
use Rattle.desk_routes.specs.Responses.{media_text}
use Rattle.feed_http.specs.declared.answers.HttpAnswer.{HttpAnswer}
use Rattle.feed_http.specs.Outcome.{asks, IsRead}
use Rattle.feed_http.specs.Turns.{Turn, InTurns}
use Rattle.feed_http.specs.Wires.{IsWire}

-- a request, the readings of the clock and the turns that were taken for it, in order, and its answer
pub record Exchange : Type 0 where
  pub request : HttpRequest
  pub taken : List ℕ
  pub turns : List Turn
  pub answer : HttpAnswer

abbrev pub exchange_of : HttpRequest → List ℕ → List Turn → HttpAnswer → Exchange
exchange_of request taken turns answer = record { request = request; taken = taken; turns = turns; answer = answer }

abbrev pub request_of : Exchange → HttpRequest
request_of x = x.request

abbrev pub readings_of : Exchange → List ℕ
readings_of x = x.taken

abbrev pub requests : List Exchange → List HttpRequest
requests xs = map request_of xs

abbrev pub readings : List Exchange → List ℕ
readings xs = flat_map readings_of xs

-- ---- what is written

abbrev pub response_bytes : Response → List ℕ
response_bytes r = response r.status (media_text r.media) r.body

abbrev pub exchange_bytes : Exchange → List ℕ
exchange_bytes x = response_bytes x.answer.response

-- their responses, one behind the other
abbrev pub responses : List Exchange → List ℕ
responses xs = flat_map exchange_bytes xs

-- ---- turns

-- what the request asks was asked in one turn, by one reading of the clock, and its answer is that of the turn
pub record InOneTurn (x : Exchange) : Type 0 where
  pub turn : Turn
  pub read : IsRead x.request turn.read
  pub taken_is : x.taken ≡ turn.reading ∷ []
  pub turns_are : x.turns ≡ turn ∷ []
  pub answer_is : x.answer ≡ turn.answer

-- the request brings in a wire, whose members were answered one after the other
pub record OfWire (x : Exchange) : Type 0 where
  pub wire : WireAsk
  pub asks_wire : asks x.request ≡ Ok (Wire wire)
  pub is : IsWire wire x.taken x.turns x.answer

abbrev pub IsExchange : Exchange → Type 0
IsExchange x = InOneTurn x ⊎ OfWire x

-- each request is answered in its turns, by what those before left
abbrev pub Turns : {A : Type 0} → (A → ℕ → Result RoomAsk Refusal → HttpAnswer → A → Type 0) → A → List Exchange → A → Type 0
Turns turn old [] new = new ≡ old
Turns {A} turn old (x ∷ xs) new = (mid : A) × IsExchange x × InTurns turn old x.turns mid × Turns turn mid xs new

-- ---- whether another request is answered

-- a request that does not close, whose turns kept no stop
pub record IsOpen (x : Exchange) : Type 0 where
  pub close : x.request.close ≡ false
  pub stop : x.answer.stop ≡ None

abbrev pub AllOpen : List Exchange → Type 0
AllOpen [] = Unit {0}
AllOpen (x ∷ xs) = IsOpen x × AllOpen xs

-- another request is read
pub record Awaits (xs : List Exchange) : Type 0 where
  pub open_all : AllOpen xs
  pub few : length xs < 64

-- the last of them, and those before it, behind which another was read
pub record EndsIn (xs : List Exchange) (last : Exchange) : Type 0 where
  pub before : List Exchange
  pub are : xs ≡ before ++ last ∷ []
  pub awaits : Awaits before

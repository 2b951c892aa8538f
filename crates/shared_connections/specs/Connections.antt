-- What a connection to a shared room came to.
use Rattle.std.specs.Prelude.{◌≡◌, ℕ, ◌++◌, List, [], ◌∷◌, map}
use Rattle.news_types.specs.declared.entry.Entry.{Entry}
use Rattle.news_types.specs.Books.{Book}
use Rattle.news_io.specs.Source.{SourceMeaning}
use Rattle.news_io.specs.Sink.{SinkMeaning}
use Rattle.news_io.specs.Clock.{ClockMeaning, Gave}
use Rattle.room_lock.specs.declared.view.Call.{Call}
use Rattle.room_lock.specs.Passes.{At}
use Rattle.room_lock.specs.Going.{Went}
use Rattle.server_counts.specs.Tally.{Tally}
use Rattle.http_wire.specs.declared.request.HttpRequest.{HttpRequest}
use Rattle.http_wire.specs.Requests.{Begins}
use Rattle.feed_http.specs.declared.answers.HttpAnswer.{HttpAnswer}
use Rattle.feed_http.specs.declared.ended.Ended.{Ended}
use Rattle.feed_http.specs.Turns.{Turn}
use Rattle.feed_http.specs.Exchanges.{Exchange, IsExchange, requests, readings, responses}
use Rattle.feed_http.specs.Served.{IsEnd, IsWritten}
use Rattle.shared_connections.specs.Turns.{IsAnsweredIn}

-- a turn, the call in which it was taken, and what was counted before it
pub record CalledTurn : Type 0 where
  pub turn : Turn
  pub call : Call
  pub counts : Tally

abbrev pub turn_of : CalledTurn → Turn
turn_of t = t.turn

abbrev pub call_of : CalledTurn → Call
call_of t = t.call

-- a request, the readings of the clock and the turns that were taken for it, and its answer
pub record Answered : Type 0 where
  pub request : HttpRequest
  pub taken : List ℕ
  pub turns : List CalledTurn
  pub answer : HttpAnswer

abbrev pub exchange_of : Answered → Exchange
exchange_of a = record { request = a.request; taken = a.taken; turns = map turn_of a.turns; answer = a.answer }

abbrev pub exchanges : List Answered → List Exchange
exchanges answered = map exchange_of answered

-- it has the calls of its turns: one, or of a wire one for each story that was asked
abbrev pub answered_calls : Answered → List Call
answered_calls a = map call_of a.turns

-- each was such a turn, in order: what was asked in it was answered at the list that the call found, at the reading that was taken for it
abbrev pub AreAnsweredIn : List CalledTurn → List (At × At) → Type 0
AreAnsweredIn [] [] = Unit {0}
AreAnsweredIn (t ∷ ts) (found ∷ later) = IsAnsweredIn found.0 found.1 t.turn.read t.turn.reading t.counts t.turn.answer × AreAnsweredIn ts later
AreAnsweredIn _ _ = ⊥

-- and the answer to the request is made of theirs
abbrev pub answered_holds : Answered → List (At × At) → Type 0
answered_holds a found = IsExchange (exchange_of a) × AreAnsweredIn a.turns found

-- The answered requests are the first of the input, each answered in turns of its own, at the lists that these found; their responses were
-- written, and then the text of the ending.
pub record ServedInTurns {C S O : Type 0} (stands : Book → Type 0) (clock : ClockMeaning C) (source : SourceMeaning S) (sink : SinkMeaning O) (seen : List Entry) (calls : List Call) (seen' : List Entry) (calls' : List Call) (c c' : C) (s s' : S) (o o' : O) (ended : Ended) : Type 0 where
  pub answered : List Answered
  pub tail : List ℕ
  pub left : List ℕ
  pub went : Went answered_calls answered_holds stands seen calls seen' calls' answered
  pub clock_gave : clock.tells c → Gave (clock.ahead c) (readings (exchanges answered)) (clock.ahead c')
  pub begins : source.tells s → Begins (source.ahead s) (requests (exchanges answered)) left
  pub ends : IsEnd (source.tells s) left (exchanges answered) tail ended
  pub wrote : sink.tells o → IsWritten sink o o' (responses (exchanges answered) ++ tail) ended

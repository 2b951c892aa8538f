-- A connection while it is served.
use Rattle.std.specs.Prelude.{◌≡◌, ◌⊎◌, ℕ, ◌++◌, List, [], ◌∷◌, length, map, OnOk, Option, Result, Ok, Err}
use Rattle.std.specs.Global.{Vec}
use Rattle.std.specs.List.{flat_map}
use Rattle.news_types.specs.declared.story.Incoming.{Incoming}
use Rattle.news_types.specs.Members.{Each}
use Rattle.news_types.specs.Names.{Bytes}
use Rattle.news_io.specs.Faults.{Rose}
use Rattle.news_io.specs.Source.{SourceMeaning}
use Rattle.news_io.specs.Sink.{SinkMeaning}
use Rattle.news_io.specs.Clock.{ClockMeaning, Gave}
use Rattle.http_wire.specs.declared.request.HttpRequest.{HttpRequest}
use Rattle.http_wire.specs.Requests.{Begins}
use Rattle.http_wire.specs.Writing.{Writes, WroteSome}
use Rattle.wire_bodies.specs.declared.member.BodyMember.{BodyMember}
use Rattle.wire_bodies.specs.Bodies.{told_of}
use Rattle.desk_routes.specs.declared.ask.RoomAsk.{RoomAsk}
use Rattle.desk_routes.specs.declared.ask.WireAsk.{WireAsk}
use Rattle.desk_routes.specs.declared.ask.Refusal.{Refusal}
use Rattle.desk_routes.specs.declared.response.Response.{Response}
use Rattle.desk_routes.specs.declared.response.Notice.{Notice}
use Rattle.feed_http.specs.declared.answers.HttpAnswer.{HttpAnswer}
use Rattle.feed_http.specs.declared.ended.Ended.{Ended}
use Rattle.feed_http.specs.declared.ended.Ended.TheVariants.{WriteFault}
use Rattle.feed_http.specs.declared.exchange.Turned.{Turned}
use Rattle.feed_http.specs.declared.wire.Came.{Came}
use Rattle.feed_http.specs.Turns.{Turn, InTurns, first_stop}
use Rattle.feed_http.specs.Wires.{IsRowOf, EndsRows, Row, IsRow, member_in, reading_in, turns_in, text_in, IsWire}
use Rattle.feed_http.specs.Exchanges.{Exchange, exchange_of, requests, readings, responses, response_bytes, IsExchange, Turns, AllOpen}
use Rattle.feed_http.specs.Served.{notice_bytes, WroteAll}

-- ---- the turns of a request

-- something was asked in one turn, by one reading of the clock
pub record TakesTurn {A C : Type 0} (turn : A → ℕ → Result RoomAsk Refusal → HttpAnswer → A → Type 0) (clock : ClockMeaning C) (room room' : A) (c c' : C) (read : Result RoomAsk Refusal) (answer : HttpAnswer) : Type 0 where
  pub reading : ℕ
  pub turned : turn room reading read answer room'
  pub clock_on : clock.tells c → clock.tells c'
  pub gave : clock.tells c → Gave (clock.ahead c) (reading ∷ []) (clock.ahead c')

-- what a member of a wire came to, at a reading: its row, or what is answered in its place
abbrev pub CameTo : Bytes → Bytes → ℕ → List Turn → Result Incoming Bytes → Result (Vec ℕ) Response → Type 0
CameTo caller provider reading turns told (Ok row) = IsRowOf caller provider reading turns row.items told
CameTo caller provider reading turns told (Err response) = EndsRows caller provider reading turns response told

-- a member was answered, in a turn of its own where it is a story
pub record AnswersMember {A : Type 0} (turn : A → ℕ → Result RoomAsk Refusal → HttpAnswer → A → Type 0) (room room' : A) (caller provider : Bytes) (reading : ℕ) (member : BodyMember) (came : Came) : Type 0 where
  pub turns : List Turn
  pub turned : InTurns turn room turns room'
  pub stop : came.stop ≡ first_stop turns
  pub row : CameTo caller provider reading turns (told_of reading member) came.row

-- the members of a wire before those that are left have their rows, of these texts
pub record HasRows {A C : Type 0} (turn : A → ℕ → Result RoomAsk Refusal → HttpAnswer → A → Type 0) (clock : ClockMeaning C) (room room' : A) (c c' : C) (caller provider : Bytes) (members left : List BodyMember) (texts : List Bytes) (stop : Option ℕ) : Type 0 where
  pub rows : List Row
  pub each : Each (IsRow caller provider) rows
  pub members_are : members ≡ map member_in rows ++ left
  pub texts_are : texts ≡ map text_in rows
  pub turned : InTurns turn room (flat_map turns_in rows) room'
  pub stop_is : stop ≡ first_stop (flat_map turns_in rows)
  pub clock_on : clock.tells c → clock.tells c'
  pub gave : clock.tells c → Gave (clock.ahead c) (map reading_in rows) (clock.ahead c')

-- a wire was answered, in the turns of its stories
pub record AnswersWire {A C : Type 0} (turn : A → ℕ → Result RoomAsk Refusal → HttpAnswer → A → Type 0) (clock : ClockMeaning C) (room room' : A) (c c' : C) (wire : WireAsk) (answer : HttpAnswer) : Type 0 where
  pub taken : List ℕ
  pub turns : List Turn
  pub is : IsWire wire taken turns answer
  pub turned : InTurns turn room turns room'
  pub clock_on : clock.tells c → clock.tells c'
  pub gave : clock.tells c → Gave (clock.ahead c) taken (clock.ahead c')

-- a request was answered, in its turns by readings of the clock
pub record AnswersRequest {A C : Type 0} (turn : A → ℕ → Result RoomAsk Refusal → HttpAnswer → A → Type 0) (clock : ClockMeaning C) (room room' : A) (c c' : C) (request : HttpRequest) (answer : HttpAnswer) : Type 0 where
  pub taken : List ℕ
  pub turns : List Turn
  pub is : IsExchange (exchange_of request taken turns answer)
  pub turned : InTurns turn room turns room'
  pub clock_on : clock.tells c → clock.tells c'
  pub gave : clock.tells c → Gave (clock.ahead c) taken (clock.ahead c')

-- ---- a request and the writing of its answer

pub record IsTurned {A C O : Type 0} (turn : A → ℕ → Result RoomAsk Refusal → HttpAnswer → A → Type 0) (clock : ClockMeaning C) (sink : SinkMeaning O) (room room' : A) (c c' : C) (o o' : O) (request : HttpRequest) (t : Turned) : Type 0 where
  pub answer : HttpAnswer
  pub answered : AnswersRequest turn clock room room' c c' request answer
  pub stop : t.stop ≡ answer.stop
  pub close : t.close ≡ request.close
  pub sink_on : sink.tells o → sink.tells o'
  pub wrote : sink.tells o → Writes sink o o' (response_bytes answer.response) t.wrote
  pub passed : sink.tells o → OnOk t.wrote (sink.passed o' ≡ sink.taken o')

-- the answer of an ending was written and has passed on
pub record Refused {O : Type 0} (sink : SinkMeaning O) (old new : O) (notice : Notice) : Type 0 where
  pub bytes : sink.tells old → sink.taken new ≡ sink.taken old ++ notice_bytes notice
  pub passed : sink.tells old → sink.passed new ≡ sink.taken new

-- the sink failed at it
pub record CutShort {O : Type 0} (sink : SinkMeaning O) (old new : O) (notice : Notice) : Type 0 where
  pub rose : Rose (sink.faults old) (sink.faults new)
  pub some : sink.tells old → WroteSome sink old new (notice_bytes notice)

abbrev pub IsRefused : {O : Type 0} → SinkMeaning O → O → O → Notice → Ended → Ended → Type 0
IsRefused sink old new notice why ended = ((ended ≡ why) × Refused sink old new notice) ⊎ ((ended ≡ WriteFault) × CutShort sink old new notice)

abbrev pub CountsRefused : ℕ → ℕ → Ended → Ended → Type 0
CountsRefused before now why ended = ((ended ≡ why) × (now ≡ before)) ⊎ ((ended ≡ WriteFault) × Rose before now)

-- so many requests were answered, and another is read; the bytes of the input that were read and not yet asked for are kept
pub record Running {A C S O : Type 0} (turn : A → ℕ → Result RoomAsk Refusal → HttpAnswer → A → Type 0) (clock : ClockMeaning C) (source : SourceMeaning S) (sink : SinkMeaning O) (room room' : A) (c c' : C) (s s' : S) (kept : List ℕ) (o o' : O) (count : ℕ) : Type 0 where
  pub exchanges : List Exchange
  pub many : length exchanges ≡ count
  pub open_all : AllOpen exchanges
  pub turns : Turns turn room exchanges room'
  pub clock_on : clock.tells c → clock.tells c'
  pub gave : clock.tells c → Gave (clock.ahead c) (readings exchanges) (clock.ahead c')
  pub source_on : source.tells s → source.tells s'
  pub begins : source.tells s → Begins (source.ahead s) (requests exchanges) (kept ++ source.ahead s')
  pub sink_on : sink.tells o → sink.tells o'
  pub wrote : sink.tells o → WroteAll sink o o' (responses exchanges)

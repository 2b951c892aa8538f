-- What a connection came to.
use Rattle.std.specs.Prelude.{◌≡◌, ◌⊎◌, ℕ, ◌++◌, List, [], length, true, Some, None, Result}
use Rattle.news_io.specs.Faults.{Rose}
use Rattle.news_io.specs.Source.{SourceMeaning}
use Rattle.news_io.specs.Sink.{SinkMeaning}
use Rattle.news_io.specs.Clock.{ClockMeaning, Gave}
use Rattle.http_wire.specs.Requests.{Begins, Ends, at_end, head_fault, too_large, chunked_body}
use Rattle.http_wire.specs.Writing.{WroteSome}
use Rattle.desk_routes.specs.declared.ask.RoomAsk.{RoomAsk}
use Rattle.desk_routes.specs.declared.ask.Refusal.{Refusal}
use Rattle.desk_routes.specs.declared.response.Notice.{Notice}
use Rattle.desk_routes.specs.declared.response.Notice.TheVariants as notice
use Rattle.desk_routes.specs.Responses.{notice_response}
use Rattle.feed_http.specs.declared.answers.HttpAnswer.{HttpAnswer}
use Rattle.feed_http.specs.declared.ended.Ended.{Ended}
use Rattle.feed_http.specs.declared.ended.Ended.TheVariants.{Stopped, Closed, Limit, HeadFault, TooLarge, Chunked, ReadFault, WriteFault, Memory}
use Rattle.feed_http.specs.Exchanges.{Exchange, requests, readings, responses, response_bytes, Turns, AllOpen, Awaits, EndsIn}

-- ---- endings

abbrev pub notice_bytes : Notice → List ℕ
notice_bytes given = response_bytes (notice_response given)

-- Why no request follows, where that has an answer: by what is left of the input, where the source tells it; or there was no memory for
-- the next.
abbrev pub IsRefusal : Type 0 → List ℕ → Notice → Type 0
IsRefusal told left notice.HeadFault = told → Ends left head_fault
IsRefusal told left notice.TooLarge = told → Ends left too_large
IsRefusal told left notice.Chunked = told → Ends left chunked_body
IsRefusal told left notice.NoMemory = Unit {0}
IsRefusal told left _ = ⊥

-- no request follows these, and that has this answer
pub record Refuses (told : Type 0) (left : List ℕ) (xs : List Exchange) (given : Notice) (tail : List ℕ) : Type 0 where
  pub why : IsRefusal told left given
  pub awaits : Awaits xs
  pub tail_is : tail ≡ notice_bytes given

-- the end of the input behind requests that leave the connection open, or a last request that closes it
abbrev pub IsClosed : Type 0 → List ℕ → List Exchange → Type 0
IsClosed told left xs = (Awaits xs × (told → Ends left at_end)) ⊎ ((last : Exchange) × EndsIn xs last × (last.request.close ≡ true) × (last.answer.stop ≡ None))

-- What ended it: what is left of the input, the exchanges, and the text behind their responses.
abbrev pub IsEnd : Type 0 → List ℕ → List Exchange → List ℕ → Ended → Type 0
IsEnd told left xs tail (Stopped place) = (tail ≡ []) × (last : Exchange) × EndsIn xs last × (last.answer.stop ≡ Some place)
IsEnd told left xs tail Closed = (tail ≡ []) × IsClosed told left xs
IsEnd told left xs tail Limit = (tail ≡ []) × AllOpen xs × (length xs ≡ 64)
IsEnd told left xs tail HeadFault = Refuses told left xs notice.HeadFault tail
IsEnd told left xs tail TooLarge = Refuses told left xs notice.TooLarge tail
IsEnd told left xs tail Chunked = Refuses told left xs notice.Chunked tail
IsEnd told left xs tail ReadFault = (tail ≡ []) × Awaits xs
-- the answer to the last request was being written, or that of an ending
IsEnd told left xs tail WriteFault = ((tail ≡ []) × (last : Exchange) × EndsIn xs last × (last.answer.stop ≡ None)) ⊎ ((given : Notice) × Refuses told left xs given tail)
-- nothing was begun, or there was no memory for the next request
IsEnd told left xs tail Memory = ((tail ≡ []) × (xs ≡ [])) ⊎ Refuses told left xs notice.NoMemory tail

-- ---- what was written

module _ {O : Type 0} (sink : SinkMeaning O) where
  -- the text was written, or, where the sink has failed, a beginning of it
  abbrev pub WroteOrFailed : O → O → List ℕ → Type 0
  WroteOrFailed old new text = (sink.taken new ≡ sink.taken old ++ text) ⊎ (Rose (sink.faults old) (sink.faults new) × WroteSome sink old new text)

  -- All of it has passed on, where what was there before had; unless the writing of the last answer failed.
  pub record WroteAll (old new : O) (text : List ℕ) : Type 0 where
    pub bytes : sink.taken new ≡ sink.taken old ++ text
    pub passed : sink.passed old ≡ sink.taken old → sink.passed new ≡ sink.taken new

  abbrev pub IsWritten : O → O → List ℕ → Ended → Type 0
  IsWritten old new text (Stopped place) = WroteOrFailed old new text
  IsWritten old new text WriteFault = WroteOrFailed old new text
  IsWritten old new text _ = WroteAll old new text

-- ---- causes

-- the counts of the source and of the sink: a failure only where one rose, and else it is as it was
abbrev pub Causes : ℕ → ℕ → ℕ → ℕ → Ended → Type 0
Causes s s' o o' ReadFault = Rose s s' × (o' ≡ o)
Causes s s' o o' WriteFault = (s' ≡ s) × Rose o o'
Causes s s' o o' (Stopped place) = s' ≡ s
Causes s s' o o' _ = (s' ≡ s) × (o' ≡ o)

-- ---- connections

-- The exchanges are the first requests of the input, each answered in its turns by what those before left; their responses were written, and then
-- the text of the ending.
pub record Served {A C S O : Type 0} (turn : A → ℕ → Result RoomAsk Refusal → HttpAnswer → A → Type 0) (clock : ClockMeaning C) (source : SourceMeaning S) (sink : SinkMeaning O) (room room' : A) (c c' : C) (s s' : S) (o o' : O) (ended : Ended) : Type 0 where
  pub exchanges : List Exchange
  pub tail : List ℕ
  pub left : List ℕ
  pub turns : Turns turn room exchanges room'
  pub clock_gave : clock.tells c → Gave (clock.ahead c) (readings exchanges) (clock.ahead c')
  pub begins : source.tells s → Begins (source.ahead s) (requests exchanges) left
  pub ends : IsEnd (source.tells s) left exchanges tail ended
  pub wrote : sink.tells o → IsWritten sink o o' (responses exchanges ++ tail) ended

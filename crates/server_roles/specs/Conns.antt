-- Connections that a door gave, one after another.
use Rattle.std.specs.Prelude.{◌≡◌, ◌⊎◌, ℕ, List, [], ◌∷◌, ◌++◌, Bool, true, false, map}
use Rattle.news_types.specs.declared.entry.Entry.{Entry}
use Rattle.news_types.specs.Books.{Book}
use Rattle.news_types.specs.Members.{Each}
use Rattle.news_io.specs.Clock.{ClockMeaning, Gave}
use Rattle.news_io.specs.Faults.{Rose}
use Rattle.news_io.specs.Sink.{AreFirst}
use Rattle.room_lock.specs.Going.{Went}
use Rattle.room_lock.specs.declared.view.Call.{Call}
use Rattle.http_wire.specs.Requests.{Begins}
use Rattle.feed_http.specs.declared.ended.Ended.{Ended}
use Rattle.feed_http.specs.Exchanges.{requests, readings, responses}
use Rattle.feed_http.specs.Served.{IsEnd, Causes}
use Rattle.shared_connections.specs.Connections.{Answered, exchanges, answered_calls, answered_holds}
use Rattle.shared_workers.specs.Tallies.{gather}
use Rattle.server_doors.specs.Doors.{Closed, DoorMeaning}
use Rattle.server_doors.specs.declared.connection.Opened.{Opened}
use Rattle.server_roles.specs.declared.first.Ending.{Ending}

-- ---- one connection

-- as it was given, its requests that were answered, why it ended, and as it was given back
pub record Conn : Type 0 where
  pub given : Opened
  pub answered : List Answered
  pub ended : Ended
  pub returned : Closed

abbrev pub conn : Opened → List Answered → Ended → Closed → Conn
conn given answered ended returned = record { given = given; answered = answered; ended = ended; returned = returned }

abbrev pub given_of : Conn → Opened
given_of c = c.given

abbrev pub answered_in : Conn → List Answered
answered_in c = c.answered

abbrev pub returned_of : Conn → Closed
returned_of c = c.returned

abbrev pub readings_in : Conn → List ℕ
readings_in c = readings (exchanges c.answered)

module _ (given : Opened) (returned : Closed) (text : List ℕ) where
  -- the text is all that was written; or, where the output has failed, a beginning of it is
  abbrev pub WroteOrFailed : Type 0
  WroteOrFailed = (returned.output ≡ text) ⊎ (Rose given.output_faults returned.output_faults × AreFirst returned.output text)

  -- the text was written, and has passed on
  pub record WroteAll : Type 0 where
    pub bytes : returned.output ≡ text
    pub passed : returned.passed ≡ returned.output

  -- the text was written, unless the writing of the last answer failed
  abbrev pub IsWritten : Ended → Type 0
  IsWritten (Ended.Stopped place) = WroteOrFailed
  IsWritten Ended.WriteFault = WroteOrFailed
  IsWritten _ = WroteAll

-- The answered requests are the first of the bytes that came in; their responses were written, and then the text of the ending. The bytes are told
-- where the door tells them, and how often its two ends had failed says why it ended, with any door.
pub record IsServed (told : Type 0) (c : Conn) : Type 0 where
  -- the text behind the responses
  pub tail : List ℕ
  -- the bytes behind the answered requests
  pub left : List ℕ
  pub begins : told → Begins c.given.input (requests (exchanges c.answered)) left
  pub ends : IsEnd told left (exchanges c.answered) tail c.ended
  pub wrote : told → IsWritten c.given c.returned (responses (exchanges c.answered) ++ tail) c.ended
  pub causes : Causes c.given.input_faults c.returned.input_faults c.given.output_faults c.returned.output_faults c.ended

-- ---- connections

-- a door that tells has given these, and has them back
pub record PassedBy {G : Type 0} (door : DoorMeaning G) (old new : G) (conns : List Conn) : Type 0 where
  pub tells : door.tells new
  pub given : door.given new ≡ door.given old ++ map given_of conns
  pub returned : door.returned new ≡ door.returned old ++ map returned_of conns

-- Connections of a door were served, one after another, each request in a turn of the lock. The readings are those of a clock whose kind tells them.
pub record Received {G C : Type 0} (door : DoorMeaning G) (clock : ClockMeaning C) (stands : Book → Type 0) (old new : G) (c c' : C) (seen : List Entry) (calls : List Call) (seen' : List Entry) (calls' : List Call) (conns : List Conn) : Type 0 where
  pub went : Went answered_calls answered_holds stands seen calls seen' calls' (gather answered_in conns)
  pub served : Each (IsServed (door.tells old)) conns
  pub passed : door.tells old → PassedBy door old new conns
  pub gave : ((k : C) → clock.tells k) → Gave (clock.ahead c) (gather readings_in conns) (clock.ahead c')

-- ---- the end

abbrev pub is_stopped : Ended → Bool
is_stopped (Ended.Stopped place) = true
is_stopped Ended.Closed = false
is_stopped Ended.Limit = false
is_stopped Ended.HeadFault = false
is_stopped Ended.TooLarge = false
is_stopped Ended.Chunked = false
is_stopped Ended.ReadFault = false
is_stopped Ended.WriteFault = false
is_stopped Ended.Memory = false

-- it kept no stop
abbrev pub GoesOn : Conn → Type 0
GoesOn c = is_stopped c.ended ≡ false

-- the last of them kept a stop at this place, and no other did
pub record LastStops (conns : List Conn) (place : ℕ) : Type 0 where
  pub before : List Conn
  pub last : Conn
  pub are : conns ≡ before ++ last ∷ []
  pub go_on : Each GoesOn before
  pub stops : last.ended ≡ Ended.Stopped place

-- why no other was served
abbrev pub EndsWith : Ending → List Conn → Type 0
EndsWith (Ending.Stopped place) conns = LastStops conns place
EndsWith Ending.DoorFault conns = Each GoesOn conns

abbrev pub is_door_fault : Ending → Bool
is_door_fault (Ending.Stopped place) = false
is_door_fault Ending.DoorFault = true

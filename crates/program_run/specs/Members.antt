-- Members of an input: what they are as events of the world, and what they are answered. Lists of turns have their
-- newest first.
use Rattle.std.specs.Prelude.{◌≡◌, ◌⊎◌, ◌<◌, ◌≤◌, ℕ, if◌then◌else◌, List, [], ◌∷◌, ◌++◌, length, take, Result, Ok, Err, ◌+◌}
use Rattle.news_types.specs.declared.entry.Act.{Act}
use Rattle.news_types.specs.declared.entry.Act.TheVariants.{Halt, Request}
use Rattle.news_types.specs.declared.entry.Entry.{Entry}
use Rattle.news_types.specs.declared.query.Query.{Query}
use Rattle.news_types.specs.Names.{Bytes}
use Rattle.news_types.specs.History.{is_stop_command}
use Rattle.news_types.specs.Frames.{Writer}
use Rattle.news_types.specs.Calls.{Fate, IsKept, IsFull, IsFailed, IsStarved}
use Rattle.news_io.specs.Clock.{ClockMeaning, Gave}
use Rattle.news_io.specs.Outside.{Meanings, Outside, store_faults}
use Rattle.news_io.specs.Faults.{Rose}
use Rattle.news_io.specs.Sink.{AreFirst}
use Rattle.run_status.specs.Output.{Wrote, AllPassed, Told}
use Rattle.run_status.specs.Status.{number_of, line_of}
use Rattle.run_status.specs.declared.status.Status.{Status}
use Rattle.run_status.specs.declared.status.Status.TheVariants as status
use Rattle.world_laws.specs.World.{World, Event, Ticks, Asks, run}
use Rattle.line_run.specs.declared.ending.Ending.{Ending}
use Rattle.line_run.specs.declared.ending.Ending.TheVariants as end
use Rattle.program_run.specs.Opens.{size_of}

-- how the bytes of an input are members, and what a member is in the world
pub record Input (X : Type 0) : Type 0 where
  -- the members that some first bytes decide, and those of a whole input
  pub decided : List ℕ → List X
  pub all : List ℕ → List X
  -- the events of a member at a reading of the clock, with what becomes of the entry that follows
  pub events : X → ℕ → Fate → List Event
  -- the readings that are taken for it
  pub readings : X → ℕ → List ℕ
  -- what it is answered in the world behind its events
  pub text : World → X → Bytes

-- ---- entries that follow

-- the bytes that requests may use of a log, those that a stop may use, and those that a log may have
abbrev pub LIMIT : ℕ
LIMIT = 1073737728

abbrev pub STOP_LIMIT : ℕ
STOP_LIMIT = 1073741810

abbrev pub LAST : ℕ
LAST = 1073741824

-- those that an act may use with its entry
abbrev pub limit_of : Act → ℕ
limit_of Halt = LAST
limit_of (Request caller number command) = if is_stop_command command then STOP_LIMIT else LIMIT
limit_of act = LIMIT

-- these events, which go by what becomes of the entry that follows, add this one where it is kept
abbrev pub Adds : Writer → World → (Fate → List Event) → Entry → Type 0
Adds write w events e = (run write (events IsKept) w).server.list ≡ e ∷ w.server.list

-- a log with the entry that they add is within its limit
abbrev pub Fits : (Entry → ℕ) → Writer → World → (Fate → List Event) → Type 0
Fits limit write w events = (e : Entry) → Adds write w events e → size_of (e ∷ w.server.list) ≤ limit e

-- by what became of it: where the store failed at it or refused it there is one, and one that was refused as full would
-- have passed its limit
abbrev pub Fares : (Entry → ℕ) → Writer → World → (Fate → List Event) → Fate → Type 0
Fares limit write w events IsKept = Fits limit write w events
Fares limit write w events IsFull = (e : Entry) × Adds write w events e × (limit e < size_of (e ∷ w.server.list))
Fares limit write w events IsFailed = (e : Entry) × Adds write w events e × (size_of (e ∷ w.server.list) ≤ limit e)
Fares limit write w events IsStarved = Unit {0}

-- ---- members that were answered

-- a member that was answered, and the reading of the clock for it
pub record Turn (X : Type 0) : Type 0 where
  pub member : X
  pub at : ℕ

-- the members, in order
abbrev pub asked : {X : Type 0} → List (Turn X) → List X
asked [] = []
asked (t ∷ ts) = asked ts ++ t.member ∷ []

module _ {X : Type 0} (input : Input X) where
  abbrev pub turn_events : List (Turn X) → List Event
  turn_events [] = []
  turn_events (t ∷ ts) = turn_events ts ++ input.events t.member t.at IsKept

  abbrev pub turn_readings : List (Turn X) → List ℕ
  turn_readings [] = []
  turn_readings (t ∷ ts) = turn_readings ts ++ input.readings t.member t.at

  -- what they are answered from a world on, each with a line feed
  abbrev pub texts : Writer → World → List (Turn X) → List ℕ
  texts write w [] = []
  texts write w (t ∷ ts) = texts write w ts ++ (input.text (run write (turn_events (t ∷ ts)) w) t.member ++ 10 ∷ [])

  -- what was kept for them is within the limits
  abbrev pub AllFit : Writer → World → List (Turn X) → Type 0
  AllFit write w [] = Unit {0}
  AllFit write w (t ∷ ts) =
      AllFit write w ts × Fits (λ e. limit_of e.act) write (run write (turn_events ts) w) (input.events t.member t.at)

-- ---- the member at which a run ended

-- what may have become of its entry: the store failed at it, or refused it as full; else it was kept, or there was no
-- memory
abbrev pub MayFare : Ending → Fate → Type 0
MayFare end.Store fate = fate ≡ IsFailed
MayFare end.Full fate = fate ≡ IsFull
MayFare _ fate = (fate ≡ IsKept) ⊎ (fate ≡ IsStarved)

-- the store ended it
abbrev pub ByStore : Ending → Type 0
ByStore end.Store = Unit {0}
ByStore end.Full = Unit {0}
ByStore why = ⊥

module _ {X : Type 0} (input : Input X) (write : Writer) (v : World) where
  -- a member that was begun in the world behind those that were answered
  pub record Begun (why : Ending) (x : X) (took half : List ℕ) (events : List Event) : Type 0 where
    pub at : ℕ
    pub fate : Fate
    pub may : MayFare why fate
    pub events_are : events ≡ input.events x at fate
    -- the clock was read for it, or was not
    pub took_is : (took ≡ []) ⊎ (took ≡ input.readings x at)
    -- where the store ended it, it adds an entry; one that was refused as full would pass the limit of its act
    pub lost : ByStore why
        → (e : Entry) × Adds write v (input.events x at) e × (why ≡ end.Full → limit_of e.act < size_of (e ∷ v.server.list))
    -- of its answer nothing was written but by an output that has failed since, and not before its entry was kept
    pub half_of : 0 < length half
        → (why ≡ end.Write) × (fate ≡ IsKept) × AreFirst half (input.text (run write events v) x ++ 10 ∷ [])

  -- the first of these members was begun; without a member there is nothing, and the store has ended nothing
  abbrev pub EndsAt : Ending → List X → List ℕ → List ℕ → List Event → Type 0
  EndsAt why [] took half events = (took ≡ []) × (half ≡ []) × (events ≡ []) × (ByStore why → ⊥)
  EndsAt why (x ∷ later) took half events = Begun why x took half events

  -- By what ended the run: these members were not answered, and the first of them may have begun. The end of the
  -- input, a failure of it and too many bytes come behind them all.
  abbrev pub NotAnswered : Result (Unit {0}) Ending → List X → List ℕ → List ℕ → List Event → Type 0
  NotAnswered (Err end.Write) later took half events = EndsAt end.Write later took half events
  NotAnswered (Err end.Store) later took half events = EndsAt end.Store later took half events
  NotAnswered (Err end.Full) later took half events = EndsAt end.Full later took half events
  NotAnswered (Err end.Memory) later took half events = EndsAt end.Memory later took half events
  NotAnswered ended later took half events = (later ≡ []) × (took ≡ []) × (half ≡ []) × (events ≡ [])

-- ---- how an input is read

-- the most bytes of an input that are answered
abbrev pub LONGEST_INPUT : ℕ
LONGEST_INPUT = 4294967296

-- of an input of at most so many bytes, by what ended the reading: these were read, and those are still to come
abbrev pub ReadTo : ℕ → List ℕ → List ℕ → Result (Unit {0}) Ending → Type 0
ReadTo most read more (Ok u) = (more ≡ []) × (length read ≤ most)
ReadTo most read more (Err end.Read) = length read ≤ most
ReadTo most read more (Err end.TooLong) = length read ≡ most + 1
ReadTo most read more (Err why) = length read ≤ most + 1

module _ {X : Type 0} (input : Input X) where
  -- the members that were answered or begun, by what ended the run: these bytes were read, and those are still to come
  abbrev pub MembersOf : List ℕ → List ℕ → Result (Unit {0}) Ending → List X
  MembersOf read more (Ok u) = input.all read
  MembersOf read more (Err end.Read) = input.decided read
  MembersOf read more (Err end.TooLong) = input.decided (take LONGEST_INPUT read)
  MembersOf read more (Err why) = input.all (read ++ more)

module _ {D S O C L : Type 0} (m : Meanings D S O C L) (before after : Outside D S O C L) where
  -- these bytes were read, and those are still to come, where the input tells it
  pub record WasRead (read more : List ℕ) : Type 0 where
    pub told : m.source.tells before.input → m.source.tells after.input
    pub input : m.source.tells before.input → m.source.ahead before.input ≡ read ++ more
    pub rest : m.source.tells before.input → m.source.ahead after.input ≡ more

-- the clock gave these readings
pub record Reads {C : Type 0} (clock : ClockMeaning C) (c c' : C) (readings : List ℕ) : Type 0 where
  pub told : clock.tells c → clock.tells c'
  pub gave : clock.tells c → Gave (clock.ahead c) readings (clock.ahead c')

-- ---- a run over members

abbrev pub status_by : Ending → Status
status_by end.Read = status.Input
status_by end.Write = status.Output
status_by end.Store = status.Store
status_by end.Full = status.Full
status_by end.Memory = status.Memory
status_by end.TooLong = status.TooLong

abbrev pub status_of : Result (Unit {0}) Ending → Status
status_of (Ok u) = status.Done
status_of (Err why) = status_by why

-- a failure is told only where the count rose, and else it is as it was: of the input, the store and the output
abbrev pub Causes : ℕ → ℕ → ℕ → ℕ → ℕ → ℕ → Result (Unit {0}) Ending → Type 0
Causes i i' k k' o o' (Err end.Read) = Rose i i' × (k' ≡ k) × (o' ≡ o)
Causes i i' k k' o o' (Err end.Write) = (i' ≡ i) × (k' ≡ k) × Rose o o'
Causes i i' k k' o o' (Err end.Store) = (i' ≡ i) × Rose k k' × (o' ≡ o)
Causes i i' k k' o o' r = (i' ≡ i) × (k' ≡ k) × (o' ≡ o)

module _ {D S O C L X : Type 0} (input : Input X) (m : Meanings D S O C L) (before after : Outside D S O C L)
    (write : Writer) (w : World) where
  -- of these members the first were answered, as the world answers them; this output stands before the status line
  pub record Answered (mid : O) (members : List X) (ended : Result (Unit {0}) Ending) (events : List Event)
      : Type 0 where
    pub turns : List (Turn X)
    pub later : List X
    pub members_are : members ≡ asked turns ++ later
    -- what was kept for them is within the limits
    pub fit : AllFit input write w turns
    -- of the others the first may have begun: its events, the readings for it, and what was written of its answer
    pub begun : List Event
    pub took : List ℕ
    pub half : List ℕ
    pub next : NotAnswered input write (run write (turn_events input turns) w) ended later took half begun
    pub events_are : events ≡ turn_events input turns ++ begun
    pub wrote : Wrote m.sink before.output mid (texts input write w turns ++ half)
    -- the answers of the first have passed on
    pub passed : m.sink.tells before.output → AllPassed m.sink before.output
        → AreFirst (m.sink.taken before.output ++ texts input write w turns) (m.sink.passed mid)
    pub reads : Reads m.clock before.clock after.clock (turn_readings input turns ++ took)

  -- the input was answered, and the status and its line tell how that ended
  pub record InputAnswered (status : ℕ) (events : List Event) : Type 0 where
    pub ended : Result (Unit {0}) Ending
    pub status_is : status ≡ number_of (status_of ended)
    pub read : List ℕ
    pub more : List ℕ
    pub was_read : WasRead m before after read more
    pub read_to : ReadTo LONGEST_INPUT read more ended
    pub mid : O
    pub answered : Answered mid (MembersOf input read more ended) ended events
    pub causes : Causes (m.source.faults before.input) (m.source.faults after.input) (store_faults m before)
        (store_faults m after) (m.sink.faults before.output) (m.sink.faults mid) ended
    pub line : Told m.sink mid after.output (line_of (status_of ended))
    -- all that was written has passed on, unless the output has failed
    pub passed : m.sink.tells before.output
        → AllPassed m.sink after.output ⊎ Rose (m.sink.faults before.output) (m.sink.faults after.output)
    pub done : status ≡ 0 → m.sink.tells before.output → AllPassed m.sink after.output

-- the run has come to its end, or the store was full, or there was no memory
abbrev pub IsComplete : ℕ → Type 0
IsComplete status = (status ≡ 0) ⊎ ((status ≡ 8) ⊎ (status ≡ 9))

module _ {D S O C L : Type 0} (m : Meanings D S O C L) (before after : Outside D S O C L) where
  -- so it is where nothing failed and the input has at most so many bytes
  abbrev pub IfAllWell : ℕ → Type 0 → Type 0
  IfAllWell most Then = m.source.tells before.input → length (m.source.ahead before.input) ≤ most
      → (Rose (m.source.faults before.input) (m.source.faults after.input) → ⊥)
      → (Rose (m.sink.faults before.output) (m.sink.faults after.output) → ⊥)
      → (Rose (store_faults m before) (store_faults m after) → ⊥) → Then

  -- then only the limit and want of memory keep a run from its end
  abbrev pub AnswersAll : ℕ → Type 0
  AnswersAll status = IfAllWell LONGEST_INPUT (IsComplete status)

-- a question is asked behind a tick, where that was kept or nothing waited
abbrev pub question_events : Query → ℕ → Fate → List Event
question_events query at IsKept = Ticks at IsKept ∷ Asks query at IsKept ∷ []
question_events query at fate = Ticks at fate ∷ []

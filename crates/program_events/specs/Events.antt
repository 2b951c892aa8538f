-- Members of an input as events of the world: lines, by what each asks for.
use Rattle.std.specs.Prelude.{◌≡◌, ◌⊎◌, ℕ, if◌then◌else◌, List, [], ◌∷◌, ◌++◌, Result, Ok, Err, Some, None}
use Rattle.news_types.specs.declared.query.Query.{Query}
use Rattle.news_types.specs.Names.{Bytes}
use Rattle.news_types.specs.Frames.{Writer}
use Rattle.news_types.specs.Calls.{Answer, Replied, Tells, Fate, IsKept, IsFull, IsFailed, IsStarved}
use Rattle.input_lines.specs.Lines.{Line, ended, lines}
use Rattle.line_run.specs.Turns.{Turn}
use Rattle.line_run.specs.declared.ending.Ending.{Ending}
use Rattle.line_run.specs.declared.ending.Ending.TheVariants as end
use Rattle.desk_lines.specs.declared.asked.Asked.{Asked}
use Rattle.desk_lines.specs.declared.asked.Asked.TheVariants as asked
use Rattle.desk_lines.specs.declared.property.LineProperty.{LineProperty}
use Rattle.desk_lines.specs.declared.property.LineProperty.TheVariants as property
use Rattle.desk_lines.specs.Lines.{line}
use Rattle.desk_answers.specs.Answers.{bad_bytes, answer_bytes}
use Rattle.world_laws.specs.World.{World, Event, Given, Requests, Ticks, Asks, Forges, run}
use Rattle.room_runs.specs.Lines.{LONGEST_LINE, archive_bytes, desk_bytes, has_answer, answered_bytes}

-- an input: how its bytes are read as members, and what these are as events of the world
pub record Input (X : Type 0) : Type 0 where
  -- the members that some first bytes decide, and those of a whole input
  pub decided : List ℕ → List X
  pub all : List ℕ → List X
  -- the events of a member at a reading of the clock, and with what becomes of the entry that follows
  pub events : X → ℕ → Fate → List Event
  -- the readings that are taken for it
  pub readings : X → ℕ → List ℕ
  -- what it is answered in the world behind its events
  pub text : World → X → Bytes

-- ---- what a line asks for

-- a question that no line may ask is bad
abbrev pub as_asked : Asked → Result Asked LineProperty
as_asked (asked.Request caller number command) = Ok (asked.Request caller number command)
as_asked (asked.Query query) = if has_answer query then Ok (asked.Query query) else Err property.Ask
as_asked (asked.Receipt subscriber n) = Ok (asked.Receipt subscriber n)
as_asked (asked.Archive page query) = Ok (asked.Archive page query)
as_asked (asked.Desk question) = Ok (asked.Desk question)

abbrev pub as_read : Result Asked LineProperty → Result Asked LineProperty
as_read (Ok what) = as_asked what
as_read (Err p) = Err p

-- what a line asks for, or what is bad of it
abbrev pub asks_for : Line → Result Asked LineProperty
asks_for None = Err property.Line
asks_for (Some bytes) = as_read (line bytes)

-- ---- its events

-- a question is asked behind a tick, where that was kept or nothing waited
abbrev pub question_events : Query → ℕ → Fate → List Event
question_events query at IsKept = Ticks at IsKept ∷ Asks query at IsKept ∷ []
question_events query at IsFull = Ticks at IsFull ∷ []
question_events query at IsFailed = Ticks at IsFailed ∷ []
question_events query at IsStarved = Ticks at IsStarved ∷ []

-- the events of what was asked for, at a reading of the clock and with what becomes of the entry that follows: as far as the newsroom
-- can know, no receiver sent the receipt; of a search of the archive and of a question of a desk its tick
abbrev pub events_of : Asked → ℕ → Fate → List Event
events_of (asked.Request caller number command) at fate = Requests caller number command at fate ∷ []
events_of (asked.Query query) at fate = question_events query at fate
events_of (asked.Receipt subscriber n) at fate = Forges subscriber n at fate ∷ []
events_of (asked.Archive page query) at fate = Ticks at fate ∷ []
events_of (asked.Desk question) at fate = Ticks at fate ∷ []

-- what is bad asks for nothing
abbrev pub events_if : Result Asked LineProperty → ℕ → Fate → List Event
events_if (Ok what) at fate = events_of what at fate
events_if (Err p) at fate = []

-- one reading is taken for what is asked for
abbrev pub reading_if : Result Asked LineProperty → ℕ → List ℕ
reading_if (Ok what) at = at ∷ []
reading_if (Err p) at = []

-- lines are answered with replies, and with what a question is told
abbrev pub answer_text : Answer → Bytes
answer_text (Replied answered) = answered_bytes answered
answer_text (Tells told) = answer_bytes told
answer_text _ = []

abbrev pub newest_text : List Given → Bytes
newest_text [] = []
newest_text (g ∷ older) = answer_text g.answer

-- the newest answer; to a search what it finds in the archive of the world's list, and to a desk what it is told at that
abbrev pub text_of : World → Asked → Bytes
text_of w (asked.Archive page query) = archive_bytes w.server.list page query
text_of w (asked.Desk question) = desk_bytes w.server.list question
text_of w what = newest_text w.out

-- what a line is answered in the world behind its events, or what is bad of it
abbrev pub text_in : World → Result Asked LineProperty → Bytes
text_in w (Ok what) = text_of w what
text_in w (Err p) = bad_bytes p

abbrev pub line_input : Input Line
line_input = record {
  decided = ended LONGEST_LINE;
  all = lines LONGEST_LINE;
  events = λ line at fate. events_if (asks_for line) at fate;
  readings = λ line at. reading_if (asks_for line) at;
  text = λ w line. text_in w (asks_for line);
}

-- ---- members that were answered, in order

module _ {X : Type 0} (input : Input X) where
  abbrev pub turn_events : List (Turn X) → List Event
  turn_events [] = []
  turn_events (t ∷ ts) = turn_events ts ++ input.events t.line t.at IsKept

  abbrev pub turn_readings : List (Turn X) → List ℕ
  turn_readings [] = []
  turn_readings (t ∷ ts) = turn_readings ts ++ input.readings t.line t.at

  -- what they are answered from a world on, each with a line feed
  abbrev pub world_texts : Writer → World → List (Turn X) → List ℕ
  world_texts write w [] = []
  world_texts write w (t ∷ ts) = world_texts write w ts ++ (input.text (run write (turn_events (t ∷ ts)) w) t.line ++ 10 ∷ [])

-- ---- a member that was begun

-- what may have become of the entry of a member that was begun, where this ended the run: the store failed at it, or refused it as full;
-- else it was kept, or there was no memory
abbrev pub MayFare : Ending → Fate → Type 0
MayFare end.Store fate = fate ≡ IsFailed
MayFare end.Full fate = fate ≡ IsFull
MayFare _ fate = (fate ≡ IsKept) ⊎ (fate ≡ IsStarved)

-- the events of the first of these members, which was begun, and the reading that was taken for it, if one was; without a member there is none
abbrev pub AreBegun : {X : Type 0} → Input X → List X → Ending → List ℕ → List Event → Type 0
AreBegun input [] why took events = (took ≡ []) × (events ≡ [])
AreBegun input (x ∷ later) why took events = (at : ℕ) × (fate : Fate) × MayFare why fate × ((took ≡ []) ⊎ (took ≡ input.readings x at)) × (events ≡ input.events x at fate)

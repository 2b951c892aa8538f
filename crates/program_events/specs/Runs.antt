-- A run over the members of an input as events of a world.
use Rattle.std.specs.Prelude.{◌≡◌, ◌<◌, ℕ, List, [], ◌∷◌, ◌++◌, length, map, take, Option, Some, Result, Ok, Err}
use Rattle.std.proofs.Common.{inl, inr}
use Rattle.news_types.specs.declared.entry.Entry.{Entry}
use Rattle.news_types.specs.Books.{Book}
use Rattle.news_types.specs.History.{History}
use Rattle.news_types.specs.declared.query.Query.{Query}
use Rattle.news_types.specs.declared.query.Query.TheVariants as query
use Rattle.news_types.specs.Calls.{Fate, IsKept, IsFull, IsFailed, IsStarved}
use Rattle.news_types.specs.Names.{Bytes}
use Rattle.news_types.specs.Frames.{Writer}
use Rattle.feed_frames.specs.Writer.{the_writer}
use Rattle.news_io.specs.Clock.{ClockMeaning, Gave}
use Rattle.news_io.specs.Disk.{DiskMeaning}
use Rattle.news_io.specs.Link.{LinkMeaning}
use Rattle.news_io.specs.Sink.{SinkMeaning}
use Rattle.news_io.specs.Source.{SourceMeaning}
use Rattle.line_run.specs.Run.{WasRead}
use Rattle.line_run.specs.Status.{status_of}
use Rattle.run_status.specs.Output.{Wrote, Told}
use Rattle.run_status.specs.Status.{number_of, line_of}
use Rattle.run_status.specs.declared.status.Status.TheVariants as status
use Rattle.line_run.specs.Turns.{Turn, asked}
use Rattle.line_run.specs.declared.ending.Ending.{Ending}
use Rattle.line_run.specs.declared.ending.Ending.TheVariants as end
use Rattle.news_pair.specs.Keeper.{pair_of}
use Rattle.news_pair.specs.declared.pair.Pair.{Pair}
use Rattle.news_room.specs.declared.room.Room.{Room}
use Rattle.news_room.specs.Stands.{in_doubt}
use Rattle.world_laws.specs.World.{World, Event, run}
use Rattle.newsdesk_cli.specs.Command.{HasAnswered, IsReportOf, IsDrain, Does}
use Rattle.newsdesk_cli.specs.Opened.{HasGoneOn}
use Rattle.room_reports.specs.Written.{IsWrittenOut, IsStopped}
use Rattle.room_reports.specs.Texts.{feed_report_at, queue_report_at}
use Rattle.room_runs.specs.Lines.{LONGEST_INPUT}
use Rattle.command_words.specs.declared.words.Job.{Job}
use Rattle.command_words.specs.declared.words.Job.TheVariants.{Batch, Ingest, Import, Package, Feed, Queue, Drain}
use Rattle.program_events.specs.Drains.{DrainHappened}
use Rattle.program_events.specs.Imports.{ImportRunHappened}
use Rattle.program_events.specs.Packages.{PackageRunHappened}
use Rattle.program_events.specs.Leads.{LeadsOn}
use Rattle.program_events.specs.Stories.{ingest_input}
use Rattle.program_events.specs.Events.{Input, line_input, turn_events, turn_readings, world_texts, AreBegun, question_events}

-- ---- the events of members, with the readings that were taken, and what was written of their answers

-- the clock gave these readings
pub record Reads {C : Type 0} (clock : ClockMeaning C) (c c' : C) (readings : List ℕ) : Type 0 where
  pub told : clock.tells c → clock.tells c'
  pub gave : clock.tells c → Gave (clock.ahead c) readings (clock.ahead c')

module _ {X C O : Type 0} (input : Input X) (clock : ClockMeaning C) (sink : SinkMeaning O) (write : Writer) (w : World) (c c' : C) (o o' : O) where
  -- all these members were answered as the world answers them
  pub record AllHappened (said : List X) (events : List Event) : Type 0 where
    pub turns : List (Turn X)
    pub said_is : said ≡ asked turns
    pub events_are : events ≡ turn_events input turns
    pub wrote : Wrote sink o o' (world_texts input write w turns)
    pub reads : Reads clock c c' (turn_readings input turns)

  -- the first of them were, and the next may have begun: nothing of its answer was written, but where the output has failed
  pub record SomeHappened (said : List X) (why : Ending) (events : List Event) : Type 0 where
    pub turns : List (Turn X)
    pub later : List X
    pub said_is : said ≡ asked turns ++ later
    pub begun : List Event
    pub took : List ℕ
    pub next : AreBegun input later why took begun
    pub events_are : events ≡ turn_events input turns ++ begun
    pub half : List ℕ
    pub cut : 0 < length half → why ≡ end.Write
    pub wrote : Wrote sink o o' (world_texts input write w turns ++ half)
    pub reads : Reads clock c c' (turn_readings input turns ++ took)

  -- by what ended the run, where so much of the input was read and there was more
  abbrev pub Happened : List ℕ → List ℕ → Result (Unit {0}) Ending → List Event → Type 0
  Happened read more (Ok u) events = AllHappened (input.all read) events
  Happened read more (Err end.Read) events = AllHappened (input.decided read) events
  Happened read more (Err end.TooLong) events = AllHappened (input.decided (take LONGEST_INPUT read)) events
  Happened read more (Err why) events = SomeHappened (input.all (read ++ more)) why events

-- ---- a run

-- what a run did is these events of a world: the answers to its members are those of the world, and they lead to the list g
pub record RunHappened {X C S O : Type 0} (input : Input X) (clock : ClockMeaning C) (source : SourceMeaning S) (sink : SinkMeaning O) (write : Writer) (w : World) (i i' : S) (o o' : O) (c c' : C) (status : ℕ) (g : History) (D : Entry → Type 0) (events : List Event) : Type 0 where
  pub result : Result (Unit {0}) Ending
  pub status_is : status ≡ number_of (status_of result)
  pub read : List ℕ
  pub more : List ℕ
  pub was_read : WasRead source i i' read more
  pub answered : O
  pub happened : Happened input clock sink write w c c' o answered read more result events
  pub line : Told sink answered o' (line_of (status_of result))
  pub leads : LeadsOn write w g D events

-- ---- a report

-- what was written of a report, by what became of its tick's entry: a tick that was not kept is told, and nothing is reported
abbrev pub IsToldBehind : {O : Type 0} → SinkMeaning O → Bytes → O → O → ℕ → Fate → Type 0
IsToldBehind sink report o o' number IsKept = IsWrittenOut sink report o o' number
IsToldBehind sink report o o' number IsFull = IsStopped sink status.Full o o' number
IsToldBehind sink report o o' number IsFailed = IsStopped sink status.Store o o' number
IsToldBehind sink report o o' number IsStarved = ⊥

-- a report is these events of a world, a tick and then the question: what was written is the report on the list that the tick has left
pub record ReportHappened {C O : Type 0} (clock : ClockMeaning C) (sink : SinkMeaning O) (question : Query) (report : History → Bytes) (write : Writer) (w : World) (o o' : O) (c c' : C) (number : ℕ) (g : History) (D : Entry → Type 0) (events : List Event) : Type 0 where
  pub at : ℕ
  pub reads : Reads clock c c' (at ∷ [])
  pub fate : Fate
  pub events_are : events ≡ question_events question at fate
  pub told : IsToldBehind sink (report (run write events w).server.list) o o' number fate
  pub leads : LeadsOn write w g D events

-- ---- by what the words do

module _ {D : Type 0} (disk : DiskMeaning D) (log log' side side' : D) (status : ℕ) where
  -- what went on from opened files is events of each world that has their list, and leads to the list that they are left with
  abbrev pub GoesAsEvents : HasGoneOn disk log log' side side' status → (Writer → World → History → (Entry → Type 0) → List Event → Type 0) → Type 0
  GoesAsEvents went Happened = (tells : disk.tells log) → (tells' : disk.tells side) → (write : Writer) (w : World) → w.server.list ≡ went.opened.history
      → (events : List Event) × Happened write w (went.files tells tells').list (in_doubt (pair_of disk) went.after) events

module _ {D O C : Type 0} (disk : DiskMeaning D) (clock : ClockMeaning C) (sink : SinkMeaning O) (log log' side side' : D) (o o' : O) (c c' : C) (status : ℕ) where
  -- so is a report, where there was one: its tick, and its question
  abbrev pub ReportIsEvents : Query → (report : History → Bytes) → IsReportOf disk clock sink log log' side side' o o' c c' status report → Type 0
  ReportIsEvents question report (inl refused) = Unit {0}
  ReportIsEvents question report (inr did) = GoesAsEvents disk log log' side side' status did.went (λ write w g D events. ReportHappened clock sink question report write w o o' c c' status g D events)

module _ {D O C L : Type 0} (disk : DiskMeaning D) (clock : ClockMeaning C) (sink : SinkMeaning O) (log log' side side' : D) (o o' : O) (c c' : C) (status : ℕ) (link : LinkMeaning L) (l l' : List L) where
  -- so is what was pushed, where publications are written as those of this store are
  abbrev pub DrainIsEvents : IsDrain disk clock sink log log' side side' o o' c c' status link l l' → Type 0
  DrainIsEvents (inl refused) = Unit {0}
  DrainIsEvents (inr did) = (tells : disk.tells log) → (tells' : disk.tells side) → (w : World) → w.server.list ≡ did.went.opened.history
      → (events : List Event) × DrainHappened (the_writer did.went.opened.store) w (map link.serves l) did.drained.drains (did.went.files tells tells').list (in_doubt (pair_of disk) did.went.after) events

module _ {D S O C : Type 0} (disk : DiskMeaning D) (clock : ClockMeaning C) (source : SourceMeaning S) (sink : SinkMeaning O)
    (log log' side side' : D) (i i' : S) (o o' : O) (c c' : C) (status : ℕ) where
  -- so is what an input was answered
  abbrev pub AnswersAreEvents : {X : Type 0} → Input X → {Answered : Room (Pair D) → Room (Pair D) → Book → Type 0} → HasAnswered disk clock source sink log log' side side' i i' o o' c c' status Answered → Type 0
  AnswersAreEvents input did = GoesAsEvents disk log log' side side' status did.went (λ write w g D events. RunHappened input clock source sink write w i i' o o' c c' status g D events)

  module _ {L : Type 0} (link : LinkMeaning L) (l l' : List L) where
    -- what the words do is events; all else is no event
    abbrev pub AreEvents : (job : Option Job) → Does disk clock source sink link log log' side side' i i' o o' c c' l l' status job → Type 0
    AreEvents (Some Batch) (inr did) = AnswersAreEvents line_input did
    AreEvents (Some (Ingest format provider)) (inr did) = AnswersAreEvents (ingest_input format provider) did
    AreEvents (Some (Import caller)) (inr did) = GoesAsEvents disk log log' side side' status did.went (λ write w g D events. ImportRunHappened (pair_of disk) clock source sink caller did.went.room did.went.after c c' i i' o o' status write w g D events did.imported)
    AreEvents (Some (Package caller number)) (inr did) =
        GoesAsEvents disk log log' side side' status did.went (λ write w g D events. PackageRunHappened (pair_of disk) clock source sink caller number did.went.room did.went.after c c' i i' o o' status write w g D events did.published)
    AreEvents (Some (Feed subscriber after)) did = ReportIsEvents disk clock sink log log' side side' o o' c c' status (query.Feed subscriber after) (feed_report_at subscriber after) did.1
    AreEvents (Some Queue) did = ReportIsEvents disk clock sink log log' side side' o o' c c' status query.Queue queue_report_at did.1
    AreEvents (Some Drain) did = DrainIsEvents disk clock sink log log' side side' o o' c c' status link l l' did.1
    AreEvents job did = Unit {0}

    -- what the words do, and that it is events of the world
    abbrev pub HasHappened : Option Job → Type 0
    HasHappened job = (did : Does disk clock source sink link log log' side side' i i' o o' c c' l l' status job) × AreEvents job did

-- whatever the program does by its contract is events of the world
abbrev pub RunsAreEvents : {D S O C L : Type 0} → DiskMeaning D → ClockMeaning C → SourceMeaning S → SinkMeaning O → LinkMeaning L → Type 0
RunsAreEvents {D = D} {S = S} {O = O} {C = C} {L = L} disk clock source sink link = (log log' side side' : D) (i i' : S) (o o' : O) (c c' : C) (l l' : List L) (status : ℕ) (job : Option Job)
    → (did : Does disk clock source sink link log log' side side' i i' o o' c c' l l' status job) → AreEvents disk clock source sink log log' side side' i i' o o' c c' status link l l' job did

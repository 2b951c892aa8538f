-- Runs of the program and crashes, one behind the other, as one list of events from the opening on.
use Rattle.std.specs.Prelude.{◌≡◌, ◌⊎◌, ℕ, List, [], ◌∷◌, ◌++◌, length, map, Option, Some, None}
use Rattle.std.proofs.Common.{inl, inr}
use Rattle.news_types.specs.declared.query.Query.{Query}
use Rattle.news_types.specs.declared.query.Query.TheVariants as query
use Rattle.command_words.specs.declared.words.IngestFormat.{IngestFormat}
use Rattle.news_types.specs.Books.{Book}
use Rattle.news_types.specs.Doubt.{payloads}
use Rattle.news_types.specs.Names.{Bytes}
use Rattle.news_types.specs.Frames.{Writer}
use Rattle.news_types.specs.History.{History}
use Rattle.feed_frames.specs.Writer.{the_writer}
use Rattle.entry_codec.specs.Spelling.{entry_bytes}
use Rattle.news_io.specs.Clock.{ClockMeaning}
use Rattle.news_io.specs.Disk.{DiskMeaning}
use Rattle.news_io.specs.Link.{LinkMeaning}
use Rattle.news_io.specs.Sink.{SinkMeaning}
use Rattle.news_io.specs.Source.{SourceMeaning}
use Rattle.news_pair.specs.declared.pair.Pair.{Pair}
use Rattle.news_room.specs.declared.room.Room.{Room}
use Rattle.news_pair.specs.Keeper.{pair_of}
use Rattle.news_pair.specs.Stands.{log_disk, side_disk}
use Rattle.news_pair.specs.Steps.{Stays}
use Rattle.news_pair.specs.Steps.Stays.{as_they_are, side_written, log_written}
use Rattle.news_room.specs.Stands.{in_doubt}
use Rattle.room_reports.specs.Texts.{feed_report_at, queue_report_at}
use Rattle.store_files.specs.Files.{Files, OpenTo, MayLeave, LeftSince}
use Rattle.world_laws.specs.Headline.{Headline}
use Rattle.world_laws.specs.World.{World, Event, Reopens, happens, after}
use Rattle.newsdesk_cli.specs.Archive.{IsArchive}
use Rattle.newsdesk_cli.specs.Imports.{HasTakenTable, IsImportOf}
use Rattle.newsdesk_cli.specs.Lists.{IsAudit, IsAsk, IsDigest, IsLimits, IsWhy}
use Rattle.newsdesk_cli.specs.Packages.{IsContents, HasTakenPackage, IsPackageOf}
use Rattle.newsdesk_cli.specs.Standby.{ShipsOver}
use Rattle.newsdesk_cli.specs.Command.{HasAnswered, HasReported, IsBatch, IsIngest, IsReportOf, HasDrained, IsDrain, IsCheck, IsPack, IsInit, IsMade}
use Rattle.program_events.specs.Events.{Input, line_input}
use Rattle.program_events.specs.Stories.{ingest_input}
use Rattle.program_events.specs.Leads.{IsBegunOf}
use Rattle.program_events.specs.Imports.{ImportRunHappened}
use Rattle.program_events.specs.Packages.{PackageRunHappened}
use Rattle.program_events.specs.Runs.{RunHappened, ReportHappened}
use Rattle.program_events.specs.Drains.{DrainHappened}

-- ---- a crash within packing

module _ {D : Type 0} (disk : DiskMeaning D) (store : Bytes) (h : List Bytes) (log side : D) where
  -- what a crash may leave at some moment of calls that each write to one of the files
  abbrev pub LeftWithin : {log' side' : D} → Stays disk store h log side log' side' → Files → Type 0
  LeftWithin as_they_are files = MayLeave disk log side files
  LeftWithin (side_written {log' = log'} {side' = side'} {next = next} before step) files = LeftWithin before files ⊎ (disk.may_leave log' files.0 × disk.left_since next (disk.moment side') files.1)
  LeftWithin (log_written {log' = log'} {side' = side'} {next = next} before step) files = LeftWithin before files ⊎ (disk.left_since next (disk.moment log') files.0 × disk.may_leave side' files.1)

-- the world behind events from the opening on
abbrev pub world : Writer → List Event → World
world write events = after (happens write) events

-- ---- a run

module _ {D S O C L : Type 0} (disk : DiskMeaning D) (clock : ClockMeaning C) (source : SourceMeaning S) (sink : SinkMeaning O) (link : LinkMeaning L) where
  -- what a command did, by its contract
  pub data Did (log log' side side' : D) (i i' : S) (o o' : O) (c c' : C) (l l' : List L) (status : ℕ) : Type 0 where
    Init : (owner : Bytes) → IsInit disk sink owner log log' side side' o o' status → Did log log' side side' i i' o o' c c' l l' status
    Batch : IsBatch disk clock source sink log log' side side' i i' o o' c c' status → Did log log' side side' i i' o o' c c' l l' status
    Ingest : (format : IngestFormat) (provider : Bytes) → IsIngest disk clock source sink log log' side side' i i' o o' c c' status format provider → Did log log' side side' i i' o o' c c' l l' status
    Import : (caller : Bytes) → IsImportOf disk clock source sink log log' side side' i i' o o' c c' status caller → Did log log' side side' i i' o o' c c' l l' status
    Package : (caller : Bytes) (number : ℕ) → IsPackageOf disk clock source sink log log' side side' i i' o o' c c' status caller number → Did log log' side side' i i' o o' c c' l l' status
    Feed : (subscriber : Bytes) (after : ℕ) → IsReportOf disk clock sink log log' side side' o o' c c' status (feed_report_at subscriber after) → Did log log' side side' i i' o o' c c' l l' status
    Queue : IsReportOf disk clock sink log log' side side' o o' c c' status queue_report_at → Did log log' side side' i i' o o' c c' l l' status
    Drain : IsDrain disk clock sink log log' side side' o o' c c' status link l l' → Did log log' side side' i i' o o' c c' l l' status
    Check : IsCheck disk sink log log' side side' o o' status → Did log log' side side' i i' o o' c c' l l' status
    Archive : (page : ℕ) (query : Bytes) → IsArchive disk sink page query log log' side side' o o' status → Did log log' side side' i i' o o' c c' l l' status
    Contents : (publication : ℕ) → IsContents disk sink publication log log' side side' o o' status → Did log log' side side' i i' o o' c c' l l' status
    Audit : (after : ℕ) → IsAudit disk sink after log log' side side' o o' status → Did log log' side side' i i' o o' c c' l l' status
    Ask : (entries : ℕ) → IsAsk disk source sink entries log log' side side' i i' o o' status → Did log log' side side' i i' o o' c c' l l' status
    Digest : (entries : ℕ) → IsDigest disk sink entries log log' side side' o o' status → Did log log' side side' i i' o o' c c' l l' status
    Limits : IsLimits disk sink log log' side side' o o' status → Did log log' side side' i i' o o' c c' l l' status
    Why : (publication : ℕ) (subscriber : Bytes) → IsWhy disk sink publication subscriber log log' side side' o o' status → Did log log' side side' i i' o o' c c' l l' status
    Ship : (name : Bytes) → ShipsOver disk sink name log log' side side' o o' status link l l' → Did log log' side side' i i' o o' c c' l l' status
    Pack : IsPack disk sink log log' side side' o o' status → Did log log' side side' i i' o o' c c' l l' status

  -- a run on files that tell what they hold; and what a crash left of them, where one came within the run or behind it
  pub record Run : Type 0 where
    pub log : D
    pub log' : D
    pub side : D
    pub side' : D
    pub input : S
    pub input' : S
    pub output : O
    pub output' : O
    pub clock_was : C
    pub clock_is : C
    pub links : List L
    pub links' : List L
    pub status : ℕ
    pub tells : disk.tells log
    pub tells_side : disk.tells side
    pub did : Did log log' side side' input input' output output' clock_was clock_is links links' status
    pub crashed : Option Files

  -- what a crash may leave while a list is packed, from the files' opening on
  abbrev pub LeftByPacking : (r : Run) → IsPack disk sink r.log r.log' r.side r.side' r.output r.output' r.status → Files → Type 0
  LeftByPacking r (inl refused) files = LeftSince disk r.log' r.side' (disk.moment r.log) files
  LeftByPacking r (inr (inl p)) files =
      LeftSince disk (log_disk p.room.keeper) (side_disk p.room.keeper) (disk.moment r.log) files
      ⊎ LeftWithin disk p.opened.store (payloads entry_bytes p.opened.history) (log_disk p.room.keeper) (side_disk p.room.keeper) (p.packs r.tells r.tells_side).crash files
  LeftByPacking r (inr (inr p)) files =
      LeftSince disk (log_disk p.room.keeper) (side_disk p.room.keeper) (disk.moment r.log) files
      ⊎ LeftWithin disk p.opened.store (payloads entry_bytes p.opened.history) (log_disk p.room.keeper) (side_disk p.room.keeper) (p.packs_not r.tells r.tells_side).crash files

  -- what a crash may leave at some moment since the run began
  abbrev pub LeftByRun : (r : Run) → Did r.log r.log' r.side r.side' r.input r.input' r.output r.output' r.clock_was r.clock_is r.links r.links' r.status → Files → Type 0
  LeftByRun r (Init owner did) files = LeftSince disk r.log' r.side' (disk.moment r.log) files
  LeftByRun r (Batch did) files = LeftSince disk r.log' r.side' (disk.moment r.log) files
  LeftByRun r (Ingest format provider did) files = LeftSince disk r.log' r.side' (disk.moment r.log) files
  LeftByRun r (Import caller did) files = LeftSince disk r.log' r.side' (disk.moment r.log) files
  LeftByRun r (Package caller number did) files = LeftSince disk r.log' r.side' (disk.moment r.log) files
  LeftByRun r (Feed subscriber after did) files = LeftSince disk r.log' r.side' (disk.moment r.log) files
  LeftByRun r (Queue did) files = LeftSince disk r.log' r.side' (disk.moment r.log) files
  LeftByRun r (Drain did) files = LeftSince disk r.log' r.side' (disk.moment r.log) files
  LeftByRun r (Check did) files = LeftSince disk r.log' r.side' (disk.moment r.log) files
  LeftByRun r (Archive page query did) files = LeftSince disk r.log' r.side' (disk.moment r.log) files
  LeftByRun r (Contents publication did) files = LeftSince disk r.log' r.side' (disk.moment r.log) files
  LeftByRun r (Audit after did) files = LeftSince disk r.log' r.side' (disk.moment r.log) files
  LeftByRun r (Ask entries did) files = LeftSince disk r.log' r.side' (disk.moment r.log) files
  LeftByRun r (Digest entries did) files = LeftSince disk r.log' r.side' (disk.moment r.log) files
  LeftByRun r (Limits did) files = LeftSince disk r.log' r.side' (disk.moment r.log) files
  LeftByRun r (Why publication subscriber did) files = LeftSince disk r.log' r.side' (disk.moment r.log) files
  LeftByRun r (Ship name did) files = LeftSince disk r.log' r.side' (disk.moment r.log) files
  LeftByRun r (Pack did) files = LeftByPacking r did files

  abbrev pub MayCrash : Run → Option Files → Type 0
  MayCrash r None = Unit {0}
  MayCrash r (Some files) = LeftByRun r r.did files

  -- the files behind a run: those that a crash left; without one, whatever a crash may leave now, and so what a read gives
  abbrev pub IsLeftBy : Run → Option Files → Files → Type 0
  IsLeftBy r None files = MayLeave disk r.log' r.side' files
  IsLeftBy r (Some found) files = files ≡ found

  -- the files behind these runs, the newest first: before any run they open to the empty list
  abbrev pub AreLeft : Bytes → List Run → Files → Type 0
  AreLeft store [] files = OpenTo store files []
  AreLeft store (r ∷ runs) files = IsLeftBy r r.crashed files

  -- each run begins with files that the one before has left, and a crash leaves what it may
  abbrev pub FollowOneAnother : Bytes → List Run → Type 0
  FollowOneAnother store [] = Unit {0}
  FollowOneAnother store (r ∷ runs) = ((files : Files) → MayLeave disk r.log r.side files → AreLeft store runs files) × MayCrash r r.crashed × FollowOneAnother store runs

  -- ---- its events

  -- what went on from opened files, from a world on: these events; or the first of them and what had begun of the next, where a crash has undone the rest
  module _ (Happened : Writer → World → List Event → Type 0) (r : Run) where
    pub record RunDid (write : Writer) (w : World) (events : List Event) : Type 0 where
      pub front : List Event
      pub begun : List Event
      pub events_are : events ≡ front ++ begun
      pub undone : List Event
      pub is_begun : IsBegunOf undone begun
      pub whole : r.crashed ≡ None → undone ≡ []
      pub happened : Happened write w (front ++ undone)

    -- the files were opened as one of the doubt or none says, and then the run did what it did; or a crash has left them as they were
    abbrev pub AreOfGoing : Writer → List Event → List Event → Type 0
    AreOfGoing write before events = ((r.crashed ≡ None → ⊥) × (events ≡ before))
        ⊎ ((which : Option ℕ) × (these : List Event) × (events ≡ (before ++ Reopens which ∷ []) ++ these) × RunDid write (world write (before ++ Reopens which ∷ [])) these)

  -- the input of a run was answered as in the world
  abbrev pub Answers : {X : Type 0} → Input X → {Answered : Room (Pair D) → Room (Pair D) → Book → Type 0} → (r : Run)
      → HasAnswered disk clock source sink r.log r.log' r.side r.side' r.input r.input' r.output r.output' r.clock_was r.clock_is r.status Answered → Writer → World → List Event → Type 0
  Answers input r did write w events =
      RunHappened input clock source sink write w r.input r.input' r.output r.output' r.clock_was r.clock_is r.status (did.went.files r.tells r.tells_side).list (in_doubt (pair_of disk) did.went.after) events

  -- a table was imported as in the world
  abbrev pub Takes : (caller : Bytes) (r : Run) → HasTakenTable disk clock source sink r.log r.log' r.side r.side' r.input r.input' r.output r.output' r.clock_was r.clock_is r.status caller → Writer → World → List Event → Type 0
  Takes caller r did write w events =
      ImportRunHappened (pair_of disk) clock source sink caller did.went.room did.went.after r.clock_was r.clock_is r.input r.input' r.output r.output' r.status write w (did.went.files r.tells r.tells_side).list (in_doubt (pair_of disk) did.went.after) events did.imported

  -- a package was published as in the world
  abbrev pub Publishes : (caller : Bytes) (number : ℕ) (r : Run) → HasTakenPackage disk clock source sink r.log r.log' r.side r.side' r.input r.input' r.output r.output' r.clock_was r.clock_is r.status caller number → Writer → World → List Event → Type 0
  Publishes caller number r did write w events =
      PackageRunHappened (pair_of disk) clock source sink caller number did.went.room did.went.after r.clock_was r.clock_is r.input r.input' r.output r.output' r.status write w (did.went.files r.tells r.tells_side).list (in_doubt (pair_of disk) did.went.after) events did.published

  -- a question was answered by its report on the list of the world
  abbrev pub Reports : Query → (report : History → Bytes) → (r : Run) → HasReported disk clock sink r.log r.log' r.side r.side' r.output r.output' r.clock_was r.clock_is r.status report → Writer → World → List Event → Type 0
  Reports question report r did write w events =
      ReportHappened clock sink question report write w r.output r.output' r.clock_was r.clock_is r.status (did.went.files r.tells r.tells_side).list (in_doubt (pair_of disk) did.went.after) events

  -- what was due was pushed, as in the world
  abbrev pub Pushes : (r : Run) → HasDrained disk clock sink r.log r.log' r.side r.side' r.output r.output' r.clock_was r.clock_is r.status link r.links r.links' → Writer → World → List Event → Type 0
  Pushes r did write w events =
      DrainHappened write w (map link.serves r.links) did.drained.drains (did.went.files r.tells r.tells_side).list (in_doubt (pair_of disk) did.went.after) events

  -- any other run is no event
  abbrev pub AreOfRun : Writer → List Event → (r : Run) → Did r.log r.log' r.side r.side' r.input r.input' r.output r.output' r.clock_was r.clock_is r.links r.links' r.status → List Event → Type 0
  AreOfRun write before r (Batch (inr did)) events = AreOfGoing (Answers line_input r did) r write before events
  AreOfRun write before r (Batch (inl refused)) events = events ≡ before
  AreOfRun write before r (Ingest format provider (inr did)) events = AreOfGoing (Answers (ingest_input format provider) r did) r write before events
  AreOfRun write before r (Ingest format provider (inl refused)) events = events ≡ before
  AreOfRun write before r (Import caller (inr did)) events = AreOfGoing (Takes caller r did) r write before events
  AreOfRun write before r (Import caller (inl refused)) events = events ≡ before
  AreOfRun write before r (Package caller number (inr did)) events = AreOfGoing (Publishes caller number r did) r write before events
  AreOfRun write before r (Package caller number (inl refused)) events = events ≡ before
  AreOfRun write before r (Feed subscriber after (inr did)) events = AreOfGoing (Reports (query.Feed subscriber after) (feed_report_at subscriber after) r did) r write before events
  AreOfRun write before r (Feed subscriber after (inl refused)) events = events ≡ before
  AreOfRun write before r (Queue (inr did)) events = AreOfGoing (Reports query.Queue queue_report_at r did) r write before events
  AreOfRun write before r (Queue (inl refused)) events = events ≡ before
  AreOfRun write before r (Drain (inr did)) events = AreOfGoing (Pushes r did) r write before events
  AreOfRun write before r (Drain (inl refused)) events = events ≡ before
  AreOfRun write before r (Init owner did) events = events ≡ before
  AreOfRun write before r (Check did) events = events ≡ before
  AreOfRun write before r (Archive page query did) events = events ≡ before
  AreOfRun write before r (Contents publication did) events = events ≡ before
  AreOfRun write before r (Audit after did) events = events ≡ before
  AreOfRun write before r (Ask entries did) events = events ≡ before
  AreOfRun write before r (Digest entries did) events = events ≡ before
  AreOfRun write before r (Limits did) events = events ≡ before
  AreOfRun write before r (Why publication subscriber did) events = events ≡ before
  AreOfRun write before r (Ship name did) events = events ≡ before
  AreOfRun write before r (Pack did) events = events ≡ before

  -- events of runs, one behind the other
  abbrev pub AreOfRuns : Writer → List Run → List Event → Type 0
  AreOfRuns write [] events = events ≡ []
  AreOfRuns write (r ∷ runs) events = (before : List Event) × AreOfRuns write runs before × AreOfRun write before r r.did events

  -- the files open to the list of the world behind events of these runs and an opening more, of which the headline holds
  pub record ComesTo (write : Writer) (store : Bytes) (runs : List Run) (files : Files) : Type 0 where
    pub events : List Event
    pub of_runs : AreOfRuns write runs events
    pub which : Option ℕ
    pub opens : OpenTo store files (world write (events ++ Reopens which ∷ [])).server.list
    pub headline : Headline write (world write (events ++ Reopens which ∷ []))

  -- A list of runs and crashes from a new store on is a list of events, and what it leaves is the list of a world of which the headline
  -- holds. Publications are written as those of this store are
  abbrev pub ChainsAreEvents : Type 0
  ChainsAreEvents = (store : Bytes) → length store ≡ 16 → (runs : List Run) → FollowOneAnother store runs → (files : Files) → AreLeft store runs files → ComesTo (the_writer store) store runs files

-- the files that `init` has made open to the empty list, whatever a crash leaves of them
abbrev pub NewStoresAreEmpty : {D O : Type 0} → DiskMeaning D → SinkMeaning O → Type 0
NewStoresAreEmpty {D = D} {O = O} disk sink = (store : Bytes) (log log' side side' : D) (o o' : O) (status : ℕ) → length store ≡ 16 → IsMade disk sink store log log' side side' o o' status
    → disk.tells log → disk.tells side → (files : Files) → MayLeave disk log' side' files → OpenTo store files []

-- What each command does to the log, its side and the output, and with which status it ends.
use Rattle.std.specs.Prelude.{◌≡◌, ◌⊎◌, ◌≤◌, ◌<◌, ℕ, ◌+◌, Bool, true, List, [], ◌∷◌, ◌++◌, length, Option, Some, None}
use Rattle.news_types.specs.declared.query.Query.TheVariants as query
use Rattle.news_types.specs.Books.{Book}
use Rattle.news_types.specs.Frames.{Frame}
use Rattle.news_types.specs.Names.{Bytes}
use Rattle.news_types.specs.History.{History}
use Rattle.news_types.specs.Doubt.{payloads}
use Rattle.news_types.specs.Answers.{query_answer}
use Rattle.news_io.specs.Faults.{Rose}
use Rattle.news_io.specs.Clock.{ClockMeaning}
use Rattle.news_io.specs.Disk.{DiskMeaning, LeavesOnly}
use Rattle.news_io.specs.Link.{LinkMeaning}
use Rattle.news_io.specs.Sink.{SinkMeaning}
use Rattle.news_io.specs.Source.{SourceMeaning}
use Rattle.run_status.specs.Output.{Told}
use Rattle.line_run.specs.Status.{IsComplete}
use Rattle.desk_answers.specs.Answers.{answer_bytes}
use Rattle.entry_codec.specs.Spelling.{entry_bytes}
use Rattle.news_journal.specs.Created.{IsInTheMaking}
use Rattle.news_journal.specs.Log.{header_bytes}
use Rattle.news_journal.specs.Opened.{Still}
use Rattle.news_journal.specs.declared.header.Header.TheVariants as header
use Rattle.news_pair.specs.declared.pair.Pair.{Pair}
use Rattle.news_pair.specs.declared.pack_fault.PackFault.{PackFault}
use Rattle.news_pair.specs.Keeper.{pair_of}
use Rattle.news_pair.specs.PackFaults.{FaultCounts}
use Rattle.news_pair.specs.Stands.{log_disk, side_disk}
use Rattle.news_room.specs.declared.room.Room.{Room}
use Rattle.room_runs.specs.Batch.{InputAnswered}
use Rattle.newsdesk_cli.specs.Telling.{IsStopped, IsTold, IsAnswered, IsRefusedUse}
use Rattle.newsdesk_cli.specs.Opened.{NotOpened, IsLook, HasGoneOn, NotBegun}
use Rattle.newsdesk_cli.specs.Archive.{IsArchive}
use Rattle.newsdesk_cli.specs.Imports.{IsImportOf}
use Rattle.newsdesk_cli.specs.Ingests.{IngestAnswered}
use Rattle.newsdesk_cli.specs.Lists.{IsAudit, IsAsk, IsDigest, IsLimits, IsWhy}
use Rattle.newsdesk_cli.specs.Packages.{IsPackageOf, IsContents}
use Rattle.newsdesk_cli.specs.Standby.{ShipsOver}
use Rattle.room_runs.specs.Lines.{no_frames, LONGEST_INPUT}
use Rattle.room_reports.specs.Reports.{IsReport}
use Rattle.room_reports.specs.Texts.{feed_report_at, queue_report_at}
use Rattle.feed_drill.specs.Drill.{Drills}
use Rattle.feed_drill.specs.Readings.{IsReadByDrill}
use Rattle.publish_workers.specs.LinkDrains.{IsDrained}
use Rattle.newsdesk_cli.specs.Packing.{packed_line, Packs, PacksNot}
use Rattle.receiver_files.specs.Log.{Gives}
use Rattle.receiver_files.specs.Receive as receiver
use Rattle.receiver_files.specs.Receive.{IsReceive}
use Rattle.standby_files.specs.Opening.{Gives as HeldBy}
use Rattle.standby_files.specs.StandIn.{IsStandIn}
use Rattle.standby_files.specs.Telling as standby
use Rattle.store_files.specs.Files.{FilesHold, CrashKeeps}
use Rattle.store_files.specs.Store.{IsOpenRoom}
use Rattle.run_status.specs.Status.{number_of, line_of}
use Rattle.run_status.specs.declared.status.Status.{Status}
use Rattle.store_files.specs.Trouble.{trouble_of_pack}
use Rattle.store_files.specs.declared.trouble.Trouble.TheVariants as trouble
use Rattle.command_words.specs.declared.words.IngestFormat.{IngestFormat}
use Rattle.command_words.specs.declared.words.Job.{Job}
use Rattle.command_words.specs.declared.words.Job.TheVariants.{Init, Batch, Ingest, Import, Package, Feed, Queue, Archive, Contents, Audit, Ask, Digest, Limits, Why, Drain, Receive, Ship, StandIn, Drill, Check, Pack}

-- how many entries and publications a list has, as a line
abbrev pub check_line : History → List ℕ
check_line h = answer_bytes (query_answer no_frames h query.Check) ++ 10 ∷ []

-- what `check` tells of a list
abbrev pub IsChecked : {O : Type 0} → SinkMeaning O → History → O → O → ℕ → Type 0
IsChecked sink h o o' status = IsAnswered sink (check_line h) o o' status

module _ {D O : Type 0} (disk : DiskMeaning D) (sink : SinkMeaning O) (log log' side side' : D) (o o' : O) (status : ℕ) where
  -- the list of the files is told
  abbrev pub IsCheck : Type 0
  IsCheck = IsLook disk sink log log' side side' o o' status (λ store h. IsChecked sink h o o' status)

  -- the files were opened and packed, and the number of their entries told
  pub record HasPacked : Type 0 where
    pub room : Room (Pair D)
    pub opened : IsOpenRoom disk log side room
    pub pair : Pair D
    pub same : log' ≡ log_disk pair
    pub same_side : side' ≡ side_disk pair
    pub packs : disk.tells log → disk.tells side → Packs disk opened.store (payloads entry_bytes opened.history) room.keeper pair
    pub files : disk.tells log → disk.tells side → FilesHold disk log' side' opened.store opened.history
    pub calm : disk.faults log' + disk.faults side' ≡ disk.faults log + disk.faults side
    pub count : ℕ
    pub counted : disk.tells log → disk.tells side → count ≡ length opened.history
    pub told : IsTold sink (packed_line count) o o' status

  -- the files were opened, and could not be packed
  pub record HasNotPacked : Type 0 where
    pub room : Room (Pair D)
    pub opened : IsOpenRoom disk log side room
    pub why : PackFault
    pub packs_not : disk.tells log → disk.tells side → PacksNot disk opened.store (payloads entry_bytes opened.history) room.keeper log' side' why
    pub files : disk.tells log → disk.tells side → CrashKeeps disk log' side' opened.store opened.history
    pub counts : FaultCounts (disk.faults log + disk.faults side) (disk.faults log' + disk.faults side') why
    pub stopped : IsStopped sink (trouble_of_pack why) o o' status

  abbrev pub IsPack : Type 0
  IsPack = NotOpened disk sink log log' side side' o o' status ⊎ (HasPacked ⊎ HasNotPacked)

module _ {D O S C : Type 0} (disk : DiskMeaning D) (clock : ClockMeaning C) (source : SourceMeaning S) (sink : SinkMeaning O)
    (log log' side side' : D) (i i' : S) (o o' : O) (c c' : C) (status : ℕ) where
  -- the input was answered from the list of the files on: from a room to the room behind it, at a book
  pub record HasAnswered (Answered : Room (Pair D) → Room (Pair D) → Book → Type 0) : Type 0 where
    pub went : HasGoneOn disk log log' side side' status
    pub answered : (told : Bool) → (told ≡ true → disk.tells log × disk.tells side)
        → Answered went.room went.after (record { store = went.opened.store; told = told; list = went.opened.history })
    pub complete : source.tells i → length (source.ahead i) ≤ LONGEST_INPUT → (Rose (source.faults i) (source.faults i') → ⊥) → (Rose (sink.faults o) (sink.faults o') → ⊥)
        → (Rose (disk.faults log + disk.faults side) (disk.faults log' + disk.faults side') → ⊥) → IsComplete status

  -- the lines of the input were answered
  abbrev pub IsBatch : Type 0
  IsBatch = NotBegun disk sink log log' side side' i i' o o' c c' status ⊎ HasAnswered (λ room after b. InputAnswered (pair_of disk) clock source sink room after c c' i i' o o' b 65 status)

  -- the stories of the input, in this format, came in from a provider
  abbrev pub IsIngest : IngestFormat → Bytes → Type 0
  IsIngest format provider = NotBegun disk sink log log' side side' i i' o o' c c' status ⊎ HasAnswered (λ room after b. IngestAnswered (pair_of disk) clock source sink provider format room after c c' i i' o o' b 65 status)

module _ {D O C : Type 0} (disk : DiskMeaning D) (clock : ClockMeaning C) (sink : SinkMeaning O)
    (log log' side side' : D) (o o' : O) (c c' : C) (status : ℕ) where
  -- the files do not serve, and the clock was not read
  pub record NotReported : Type 0 where
    pub why : NotOpened disk sink log log' side side' o o' status
    pub clock_same : c' ≡ c

  -- what waited was released, and then the list of the files was reported
  pub record HasReported (report : History → Bytes) : Type 0 where
    pub went : HasGoneOn disk log log' side side' status
    pub reported : IsReport (pair_of disk) clock sink report went.room went.after c c' o o' status

  -- a report on the list of the files
  abbrev pub IsReportOf : (History → Bytes) → Type 0
  IsReportOf report = NotReported ⊎ HasReported report

  module _ {L : Type 0} (link : LinkMeaning L) (l l' : List L) where
    -- the files do not serve, and neither the clock nor a link was touched
    pub record NotDrained : Type 0 where
      pub why : NotReported
      pub links_same : l' ≡ l

    -- what was due was pushed over the links, one after the other, until nothing was due
    pub record HasDrained : Type 0 where
      pub went : HasGoneOn disk log log' side side' status
      pub drained : IsDrained (pair_of disk) clock sink link went.room went.after c c' l l' o o' status

    -- what is due on the list of the files is pushed
    abbrev pub IsDrain : Type 0
    IsDrain = NotDrained ⊎ HasDrained

-- a newsroom in memory was drilled with so many stories of a seed; the report that was printed is that of the drill's list, and how that ended is told
pub record IsDrilled {O C : Type 0} (sink : SinkMeaning O) (clock : ClockMeaning C) (stories seed : ℕ) (o o' : O) (c c' : C) (status : ℕ) : Type 0 where
  pub ended : Status
  pub drilled : O
  pub did : Drills sink stories seed o drilled ended
  -- the clock was read as the drill went on, and no reading was used
  pub read : IsReadByDrill clock stories seed c c' ended
  pub status_is : status ≡ number_of ended
  pub line : Told sink drilled o' (line_of ended)

module _ {D O : Type 0} (disk : DiskMeaning D) (sink : SinkMeaning O) (store : Bytes) (log log' side side' : D) (o o' : O) (status : ℕ) where
  -- one of the files is not empty, and both are as they were
  pub record IsTaken : Type 0 where
    pub cause : disk.tells log → disk.tells side → disk.seen log ≡ [] → disk.seen side ≡ [] → ⊥
    pub calm : disk.faults log' + disk.faults side' ≡ disk.faults log + disk.faults side
    pub still : Still disk log log'
    pub still_side : Still disk side side'
    pub stopped : IsStopped sink trouble.WrongStore o o' status

  -- a crash leaves what it might have left before, or a log in the making
  abbrev pub MayBeMade : Type 0
  MayBeMade = LeavesOnly disk log log' (λ c. disk.may_leave log c ⊎ IsInTheMaking (header.Room store) c)

  -- a disk has failed: the log is as it was; or both files were empty, and it may be a log in the making
  pub record IsUnmade : Type 0 where
    pub rose : Rose (disk.faults log + disk.faults side) (disk.faults log' + disk.faults side')
    pub told : disk.tells log → disk.tells log'
    pub crash : disk.tells log → Still disk log log' ⊎ ((disk.seen log ≡ []) × (disk.tells side → disk.seen side ≡ []) × MayBeMade)
    pub still_side : Still disk side side'
    pub stopped : IsStopped sink trouble.Store o o' status

  -- both files were empty, and one is a log without a record
  pub record IsMade : Type 0 where
    pub status_is : status ≡ 0
    pub silent : o' ≡ o
    pub empty : disk.tells log → disk.seen log ≡ []
    pub empty_side : disk.tells side → disk.seen side ≡ []
    pub bytes : disk.tells log → disk.seen log' ≡ header_bytes (header.Room store) ++ 0 ∷ []
    pub calm : disk.faults log' + disk.faults side' ≡ disk.faults log + disk.faults side
    pub told : disk.tells log → disk.tells log'
    pub crash : disk.tells log → LeavesOnly disk log log' (IsInTheMaking (header.Room store))
    -- from now on a crash leaves the log
    pub durable : disk.tells log → (c : List ℕ) → disk.may_leave log' c → c ≡ header_bytes (header.Room store) ++ 0 ∷ []
    -- the side is left empty
    pub still_side : Still disk side side'

  abbrev pub IsInit : Type 0
  IsInit = IsTaken ⊎ (IsUnmade ⊎ IsMade)

module _ {D O S C L : Type 0} (disk : DiskMeaning D) (clock : ClockMeaning C) (source : SourceMeaning S) (sink : SinkMeaning O) (link : LinkMeaning L)
    (log log' side side' : D) (i i' : S) (o o' : O) (c c' : C) (l l' : List L) (status : ℕ) where
  -- nothing was read from the input and the clock
  pub record Unread : Type 0 where
    pub input_same : i' ≡ i
    pub clock_same : c' ≡ c

  -- the words are no command
  pub record IsUsage : Type 0 where
    pub same : log' ≡ log
    pub same_side : side' ≡ side
    pub refused : IsRefusedUse sink o o' status

  -- what these words do
  abbrev pub Does : Option Job → Type 0
  Does None = Unread × IsUsage
  Does (Some (Init store)) = Unread × IsInit disk sink store log log' side side' o o' status
  Does (Some Check) = Unread × IsCheck disk sink log log' side side' o o' status
  Does (Some (Archive page query)) = Unread × IsArchive disk sink page query log log' side side' o o' status
  Does (Some (Contents publication)) = Unread × IsContents disk sink publication log log' side side' o o' status
  Does (Some (Audit after)) = Unread × IsAudit disk sink after log log' side side' o o' status
  Does (Some (Ask entries)) = (c' ≡ c) × IsAsk disk source sink entries log log' side side' i i' o o' status
  Does (Some (Digest entries)) = Unread × IsDigest disk sink entries log log' side side' o o' status
  Does (Some Limits) = Unread × IsLimits disk sink log log' side side' o o' status
  Does (Some (Why publication subscriber)) = Unread × IsWhy disk sink publication subscriber log log' side side' o o' status
  Does (Some Pack) = Unread × IsPack disk sink log log' side side' o o' status
  Does (Some Batch) = IsBatch disk clock source sink log log' side side' i i' o o' c c' status
  Does (Some (Feed subscriber after)) = (i' ≡ i) × IsReportOf disk clock sink log log' side side' o o' c c' status (feed_report_at subscriber after)
  Does (Some Queue) = (i' ≡ i) × IsReportOf disk clock sink log log' side side' o o' c c' status queue_report_at
  Does (Some Drain) = (i' ≡ i) × IsDrain disk clock sink log log' side side' o o' c c' status link l l'
  Does (Some (Receive name)) = (c' ≡ c) × (side' ≡ side) × IsReceive disk source sink name log log' i i' o o' status
  Does (Some (Ship name)) = Unread × ShipsOver disk sink name log log' side side' o o' status link l l'
  Does (Some (StandIn store)) = (c' ≡ c) × IsStandIn disk source sink store log log' side side' i i' o o' status
  Does (Some (Drill stories seed)) = (i' ≡ i) × (log' ≡ log) × (side' ≡ side) × IsDrilled sink clock stories seed o o' c c' status
  Does (Some (Ingest format provider)) = IsIngest disk clock source sink log log' side side' i i' o o' c c' status format provider
  Does (Some (Import caller)) = IsImportOf disk clock source sink log log' side side' i i' o o' c c' status caller
  Does (Some (Package caller number)) = IsPackageOf disk clock source sink log log' side side' i i' o o' c c' status caller number

-- the files are not refused for their bytes, and a failure is told only where the count of the disks rose
pub record IsServed (before now status : ℕ) : Type 0 where
  pub own : status ≡ 3 → ⊥
  pub whole : status ≡ 7 → ⊥
  pub failed : status ≡ 6 → Rose before now

-- so it is with `ask` and `digest`, but that each refuses a list that has not so many entries
pub record IsAskServed (before now entries : ℕ) (h : History) (status : ℕ) : Type 0 where
  pub own : status ≡ 3 → length h < entries
  pub whole : status ≡ 7 → ⊥
  pub failed : status ≡ 6 → Rose before now

-- what a command answers on files that hold this list
abbrev pub Serves : ℕ → ℕ → History → Option Job → ℕ → Type 0
Serves before now h None status = Unit {0}
Serves before now h (Some (Init store)) status = Unit {0}
Serves before now h (Some Batch) status = IsServed before now status
Serves before now h (Some (Ingest format provider)) status = IsServed before now status
Serves before now h (Some (Import caller)) status = IsServed before now status
Serves before now h (Some (Package caller number)) status = IsServed before now status
Serves before now h (Some (Feed subscriber after)) status = IsServed before now status
Serves before now h (Some Queue) status = IsServed before now status
Serves before now h (Some (Archive page query)) status = IsServed before now status
Serves before now h (Some (Contents publication)) status = IsServed before now status
Serves before now h (Some (Audit after)) status = IsServed before now status
Serves before now h (Some (Ask entries)) status = IsAskServed before now entries h status
Serves before now h (Some (Digest entries)) status = IsAskServed before now entries h status
Serves before now h (Some Limits) status = IsServed before now status
Serves before now h (Some (Why publication subscriber)) status = IsServed before now status
Serves before now h (Some Drain) status = IsServed before now status
Serves before now h (Some (Receive name)) status = Unit {0}
Serves before now h (Some (Ship name)) status = IsServed before now status
Serves before now h (Some (StandIn store)) status = Unit {0}
Serves before now h (Some (Drill stories seed)) status = Unit {0}
Serves before now h (Some Check) status = IsServed before now status
Serves before now h (Some Pack) status = IsServed before now status

-- what `receive` answers on a file that is empty or holds the receiver's frames
abbrev pub ReceiverServes : List ℕ → ℕ → ℕ → Option Job → ℕ → Type 0
ReceiverServes log before now (Some (Receive name)) status = (frames : List Frame) → Gives name log frames → receiver.IsServed before now status
ReceiverServes log before now job status = Unit {0}

-- what `stand-in` answers on files that are empty or hold the list of its store
abbrev pub StandbyServes : List ℕ → List ℕ → ℕ → ℕ → Option Job → ℕ → Type 0
StandbyServes log side before now (Some (StandIn store)) status = (held : List Bytes) → HeldBy store log side held → standby.IsServed before now status
StandbyServes log side before now job status = Unit {0}

-- the commands that use links
abbrev pub UsesLinks : Option Job → Type 0
UsesLinks (Some Drain) = Unit {0}
UsesLinks (Some (Ship name)) = Unit {0}
UsesLinks job = ⊥

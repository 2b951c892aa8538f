-- Runs of the newsroom and of receivers, and crashes, in any order, as one list of events from the opening on.
use Rattle.std.specs.Prelude.{◌≡◌, ◌⊎◌, ◌<◌, ◌≤◌, ℕ, true, List, [], ◌∷◌, ◌++◌, length, Option, Some, None}
use Rattle.std.proofs.Common.{inl, inr}
use Rattle.news_types.specs.Names.{Bytes}
use Rattle.news_types.specs.Feeds.{feed}
use Rattle.news_types.specs.Frames.{Frame, Writer, numbered, frame_at}
use Rattle.news_types.specs.History.{History}
use Rattle.feed_frames.specs.Writer.{the_writer}
use Rattle.news_io.specs.Clock.{ClockMeaning}
use Rattle.news_io.specs.Disk.{DiskMeaning}
use Rattle.news_io.specs.Link.{LinkMeaning}
use Rattle.news_io.specs.Sink.{SinkMeaning}
use Rattle.news_io.specs.Source.{SourceMeaning}
use Rattle.news_journal.specs.Created.{IsDamaged}
use Rattle.news_journal.specs.Journal.{journal_of}
use Rattle.news_journal.specs.Stands.{disk_of}
use Rattle.feed_receiver.specs.Holds.{Received}
use Rattle.frame_run.specs.Status.{IsRun}
use Rattle.receiver_files.specs.Log.{Gives}
use Rattle.receiver_files.specs.LogLeft.{InDoubt}
use Rattle.receiver_files.specs.Receive.{LONGEST_INPUT, HasReceived, IsReceive}
use Rattle.store_files.specs.Files.{Files, OpenTo, MayLeave}
use Rattle.world_laws.specs.Headline.{Headline}
use Rattle.world_laws.specs.World.{World, Event, Sends, Reopens, ReceiverReopens}
use Rattle.program_events.specs.Chains.{Run, MayCrash, IsLeftBy, AreOfRun, world}
use Rattle.receiver_events.specs.Receptions.{WereSent, answered_frames, begun_frame, fate_at, ReceptionHappened}

-- ---- frames that come

-- each of these is a frame of a feed on the list
abbrev pub AreOfFeeds : Writer → History → List Frame → Type 0
AreOfFeeds write h [] = Unit {0}
AreOfFeeds write h (f ∷ frames) = (frame_at write h f.to f.k ≡ Some f) × AreOfFeeds write h frames

-- each of them is sent
abbrev pub sendings : List Frame → List Event
sendings [] = []
sendings (f ∷ frames) = Sends f.to f.k ∷ sendings frames

-- ---- a receiver's file

-- it is neither empty nor a log: a stop came while it was made one, and no run takes it
abbrev pub IsHalfMade : List ℕ → Type 0
IsHalfMade file = (file ≡ [] → ⊥) × IsDamaged file

-- a file gives these frames; or none are held, and it is half made
abbrev pub Holds : Bytes → List ℕ → List Frame → Type 0
Holds name file frames = Gives name file frames ⊎ (IsHalfMade file × (frames ≡ []))

module _ {D S O : Type 0} (disk : DiskMeaning D) (source : SourceMeaning S) (sink : SinkMeaning O) where
  -- a run of `receive` on a file that tells what it holds; and what a crash left of the file, where one came within the run or behind it
  pub record Reception : Type 0 where
    pub name : Bytes
    pub log : D
    pub log' : D
    pub input : S
    pub input' : S
    pub output : O
    pub output' : O
    pub status : ℕ
    pub tells : disk.tells log
    pub did : IsReceive disk source sink name log log' input input' output output' status
    pub crashed : Option (List ℕ)

  abbrev pub TheDid : Reception → Type 0
  TheDid r = IsReceive disk source sink r.name r.log r.log' r.input r.input' r.output r.output' r.status

  abbrev pub Took : Reception → Type 0
  Took r = HasReceived disk source sink r.name r.log r.log' r.input r.input' r.output r.output' r.status

  -- ---- what it leaves

  -- what a crash may leave at some moment since the run began: while the file was opened, or since
  abbrev pub LeftByReception : (r : Reception) → TheDid r → List ℕ → Type 0
  LeftByReception r (inl refused) file = disk.left_since r.log' (disk.moment r.log) file
  LeftByReception r (inr did) file = disk.left_since (disk_of did.receiver.keeper) (disk.moment r.log) file ⊎ disk.left_since r.log' (disk.moment (disk_of did.receiver.keeper)) file

  abbrev pub MayBreakOff : Reception → Option (List ℕ) → Type 0
  MayBreakOff r None = Unit {0}
  MayBreakOff r (Some file) = LeftByReception r r.did file

  -- the file behind a run: the one that a crash left; without one, whatever a crash may leave now, and so what a read gives
  abbrev pub IsFileLeft : Reception → Option (List ℕ) → List ℕ → Type 0
  IsFileLeft r None file = disk.may_leave r.log' file
  IsFileLeft r (Some found) file = file ≡ found

  -- ---- its frames

  module _ (r : Reception) (did : Took r) where
    abbrev pub held_first : Received
    held_first = record { name = r.name; told = true; frames = did.opened.frames }

    abbrev pub running : IsRun (journal_of disk) source sink LONGEST_INPUT r.input r.input' did.receiver did.after r.output r.output' held_first r.status
    running = did.ran true (λ is. r.tells)

    -- those that were answered, and the one that was begun
    abbrev pub answered : List Frame
    answered = answered_frames (journal_of disk) sink LONGEST_INPUT did.receiver did.after r.output running.mid held_first running.ran.read running.ran.more running.result running.ran.did

    abbrev pub begun : List Frame
    begun = begun_frame (journal_of disk) sink LONGEST_INPUT did.receiver did.after r.output running.mid held_first running.ran.read running.ran.more running.result running.ran.did

    abbrev pub came : List Frame
    came = answered ++ begun

    -- ---- its events

    -- what it did, from a world on: these events; or the first of them, where a crash has undone the rest
    pub record ReceptionDid (write : Writer) (w : World) (events : List Event) : Type 0 where
      pub undone : List Event
      pub whole : r.crashed ≡ None → undone ≡ []
      pub happened : ReceptionHappened sink write w r.name r.output running.mid answered begun (fate_at running.result) (did.left r.tells).frames (InDoubt disk did.after) (events ++ undone)

    -- What comes ahead of its frames: the newsroom stands still, with the list to which its files open; each frame that comes is sent, which
    -- may be the first time or again; and the receiver reopens, as one of its doubt or none says.
    abbrev pub beginning : List Event → Option ℕ → Option ℕ → List Event
    beginning before which own = before ++ (Reopens which ∷ (sendings came ++ ReceiverReopens r.name own ∷ []))

  -- these and then what it did; or a crash has come while the file was opened. A run that was refused is no event
  abbrev pub AreOfReception : Writer → List Event → (r : Reception) → TheDid r → List Event → Type 0
  AreOfReception write before r (inl refused) events = events ≡ before
  AreOfReception write before r (inr did) events = ((r.crashed ≡ None → ⊥) × (events ≡ before))
      ⊎ ((which : Option ℕ) × (own : Option ℕ) × (these : List Event) × (events ≡ beginning r did before which own ++ these) × ReceptionDid r did write (world write (beginning r did before which own)) these)

module _ {D S O C L : Type 0} (disk : DiskMeaning D) (clock : ClockMeaning C) (source : SourceMeaning S) (sink : SinkMeaning O) (link : LinkMeaning L) where
  -- a run of a command on the newsroom's files, or a run of `receive` on the file of a name
  pub data Step : Type 0 where
    Runs : Run disk clock source sink link → Step
    Receives : Reception disk source sink → Step

  -- ---- one behind the other, the newest first

  -- the newsroom's files behind these steps: before any run they open to the empty list
  abbrev pub FilesAreLeft : Bytes → List Step → Files → Type 0
  FilesAreLeft store [] files = OpenTo store files []
  FilesAreLeft store (Runs r ∷ steps) files = IsLeftBy disk clock source sink link r r.crashed files
  FilesAreLeft store (Receives r ∷ steps) files = FilesAreLeft store steps files

  -- the file of a name's receiver: before any run it is empty
  abbrev pub FileIsLeft : List Step → Bytes → List ℕ → Type 0
  FileIsLeft [] name file = file ≡ []
  FileIsLeft (Runs r ∷ steps) name file = FileIsLeft steps name file
  FileIsLeft (Receives r ∷ steps) name file = ((r.name ≡ name) × IsFileLeft disk source sink r r.crashed file) ⊎ ((r.name ≡ name → ⊥) × FileIsLeft steps name file)

  -- what came to a run is of the feeds on each list to which the newsroom's files may open then
  abbrev pub ComesFromNewsroom : Bytes → List Step → (r : Reception disk source sink) → TheDid disk source sink r → Type 0
  ComesFromNewsroom store steps r (inl refused) = Unit {0}
  ComesFromNewsroom store steps r (inr did) = (files : Files) (h : History) → FilesAreLeft store steps files → OpenTo store files h → AreOfFeeds (the_writer store) h (came disk source sink r did)

  -- each begins with files that the last one on them has left, and a crash leaves what it may
  abbrev pub FollowOneAnother : Bytes → List Step → Type 0
  FollowOneAnother store [] = Unit {0}
  FollowOneAnother store (Runs r ∷ steps) = ((files : Files) → MayLeave disk r.log r.side files → FilesAreLeft store steps files) × MayCrash disk clock source sink link r r.crashed × FollowOneAnother store steps
  FollowOneAnother store (Receives r ∷ steps) =
      ((file : List ℕ) → disk.may_leave r.log file → FileIsLeft steps r.name file) × MayBreakOff disk source sink r r.crashed × ComesFromNewsroom store steps r r.did × FollowOneAnother store steps

  -- ---- their events

  abbrev pub AreOfSteps : Writer → List Step → List Event → Type 0
  AreOfSteps write [] events = events ≡ []
  AreOfSteps write (Runs r ∷ steps) events = (before : List Event) × AreOfSteps write steps before × AreOfRun disk clock source sink link write before r r.did events
  AreOfSteps write (Receives r ∷ steps) events = (before : List Event) × AreOfSteps write steps before × AreOfReception disk source sink write before r r.did events

-- ---- what is left

-- behind these events and an opening more of a receiver the newsroom's files open to the list of the world, and the receiver's file
-- gives what the world's receiver holds; of this world the headline holds
pub record BothCome (write : Writer) (store : Bytes) (before : List Event) (files : Files) (name : Bytes) (file : List ℕ) : Type 0 where
  pub which : Option ℕ
  pub opens : OpenTo store files (world write (before ++ ReceiverReopens name which ∷ [])).server.list
  pub holds : Holds name file ((world write (before ++ ReceiverReopens name which ∷ [])).receivers name).held
  pub headline : Headline write (world write (before ++ ReceiverReopens name which ∷ []))

-- these frames are the first of a name's feed on the list, in its order
abbrev pub IsPrefix : Writer → History → Bytes → List Frame → Type 0
IsPrefix write h name frames = (length frames ≤ length (feed h name)) × ((k : ℕ) → 0 < k → k ≤ length frames → numbered frames k ≡ frame_at write h name k)

module _ {D S O C L : Type 0} (disk : DiskMeaning D) (clock : ClockMeaning C) (source : SourceMeaning S) (sink : SinkMeaning O) (link : LinkMeaning L) where
  -- so it is with the file of each name behind one list of events of these steps, and an opening more of the newsroom
  pub record ComesTo (write : Writer) (store : Bytes) (steps : List (Step disk clock source sink link)) (files : Files) (file_of : Bytes → List ℕ) : Type 0 where
    pub events : List Event
    pub of_steps : AreOfSteps disk clock source sink link write steps events
    pub which : Option ℕ
    pub opens : OpenTo store files (world write (events ++ Reopens which ∷ [])).server.list
    pub each : (name : Bytes) → BothCome write store (events ++ Reopens which ∷ []) files name (file_of name)

  -- A list of runs of the newsroom, of runs of receivers and of crashes, from a new store and empty files on, is a list of events, and what
  -- it leaves is the list and the receivers of a world of which the headline holds. Publications are written as those of this store are
  abbrev pub SystemsAreEvents : Type 0
  SystemsAreEvents = (store : Bytes) → length store ≡ 16 → (steps : List (Step disk clock source sink link)) → FollowOneAnother disk clock source sink link store steps
      → (files : Files) → FilesAreLeft disk clock source sink link store steps files
      → (file_of : Bytes → List ℕ) → ((name : Bytes) → FileIsLeft disk clock source sink link steps name (file_of name))
      → ComesTo (the_writer store) store steps files file_of

  -- So what the file of a receiver gives is a prefix of its subscriber's feed on the list to which the newsroom's files open
  abbrev pub FilesHoldFeeds : Type 0
  FilesHoldFeeds = (store : Bytes) → length store ≡ 16 → (steps : List (Step disk clock source sink link)) → FollowOneAnother disk clock source sink link store steps
      → (files : Files) → FilesAreLeft disk clock source sink link store steps files
      → (file_of : Bytes → List ℕ) → ((name : Bytes) → FileIsLeft disk clock source sink link steps name (file_of name))
      → (h : History) → OpenTo store files h → (name : Bytes) (frames : List Frame) → Gives name (file_of name) frames → IsPrefix (the_writer store) h name frames

-- what was ever sent, behind any events, is of the feeds on the list that the world has then
abbrev pub SentIsOfFeeds : Type 0
SentIsOfFeeds = (write : Writer) (events : List Event) (frames : List Frame) → WereSent (world write events).frames frames → AreOfFeeds write (world write events).server.list frames

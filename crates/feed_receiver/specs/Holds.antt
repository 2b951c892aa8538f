-- What a receiver stands for.
use Rattle.std.specs.Prelude.{◌≡◌, ◌+◌, Bool, true, List, ◌++◌, length, map}
use Rattle.news_types.specs.Names.{Bytes}
use Rattle.news_types.specs.Frames.{Frame}
use Rattle.news_io.specs.declared.record.Record.{Record}
use Rattle.feed_receiver.specs.declared.receiver.Receiver.{Receiver}
use Rattle.feed_receiver.specs.declared.receiver.ReceiverFault.{ReceiverFault}
use Rattle.feed_receiver.specs.declared.receiver.ReceiverFault.TheVariants.{Damaged, Memory}
use Rattle.feed_receiver.specs.Spelling.{frame_bytes}
use Rattle.feed_receiver.specs.Feed.{AreNumber, InOrder, payloads, HasBadFrame}
use Rattle.news_io.specs.Keeper.{KeeperMeaning}

-- a name, whether the keeper tells the list, and the accepted frames, oldest first
pub record Received : Type 0 where
  pub name : Bytes
  pub told : Bool
  pub frames : List Frame

-- with these frames more
abbrev pub onto : List Frame → Received → Received
onto more b = record { name = b.name; told = b.told; frames = b.frames ++ more }

module _ {K : Type 0} (keeper : KeeperMeaning K) where
  -- the keeper tells the list of these payloads, and each payload in doubt is the frame of this name that comes next
  pub record Keeps (k : K) (name : Bytes) (kept : List Bytes) : Type 0 where
    pub told : keeper.tells k
    pub is : keeper.list k ≡ kept
    pub next : (x : Bytes) → keeper.doubts k x → AreNumber name (length kept + 1) x

  -- the receiver has this name and holds these frames, which are numbered from 1 on
  pub record Holds (r : Receiver K) (b : Received) : Type 0 where
    pub name : r.name ≡ b.name
    pub count : r.count ≡ length b.frames
    pub order : InOrder b.name 1 b.frames
    pub kept : b.told ≡ true → Keeps r.keeper b.name (map frame_bytes b.frames)

  -- what it is opened to: the frames that the records are, and where the keeper tells, that is its list
  pub record OpensTo (k : K) (name : Bytes) (records : List Record) (r : Receiver K) : Type 0 where
    pub same : r.keeper ≡ k
    pub frames : List Frame
    pub are : payloads records ≡ map frame_bytes frames
    pub holds : (told : Bool) → (told ≡ true → Keeps k name (payloads records)) → Holds r (record { name = name; told = told; frames = frames })

-- a record is damaged; and opening takes no memory
abbrev pub IsFault : Bytes → List Record → ReceiverFault → Type 0
IsFault name records (Damaged at) = HasBadFrame name records at
IsFault name records Memory = ⊥

-- the keeper is given back with the fault
abbrev pub GivesBack : {K : Type 0} → K → Bytes → List Record → K × ReceiverFault → Type 0
GivesBack k name records back = (back.0 ≡ k) × IsFault name records back.1

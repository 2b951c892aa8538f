-- What a receiver answers to frames, one after the other.
use Rattle.std.specs.Prelude.{◌≡◌, ◌⊎◌, ◌<◌, ℕ, ◌+◌, true, List, [], ◌∷◌, ◌++◌, length, map, Option, Result, Ok, Err}
use Rattle.news_types.specs.Names.{Bytes}
use Rattle.news_types.specs.Frames.{Frame}
use Rattle.news_types.specs.Calls.{IsKept}
use Rattle.news_types.specs.Receiver as step
use Rattle.news_io.specs.Faults.{Rose}
use Rattle.news_io.specs.Keeper.{KeeperMeaning, KeeperGains, Leaves}
use Rattle.news_io.specs.Sink.{AreFirst, SinkMeaning}
use Rattle.run_status.specs.Output.{Wrote, AllPassed}
use Rattle.feed_receiver.specs.declared.receiver.Receiver.{Receiver}
use Rattle.feed_receiver.specs.declared.receiver.Taken.{Taken}
use Rattle.feed_receiver.specs.declared.receiver.Taken.TheVariants.{Fault, Full, Memory}
use Rattle.feed_receiver.specs.Spelling.{frame_bytes, IsFrame, receipt_bytes}
use Rattle.feed_receiver.specs.Holds.{Received, Holds}
use Rattle.frame_run.specs.declared.ending.Ending.{Ending}
use Rattle.frame_run.specs.declared.ending.Ending.TheVariants as end

-- ---- by the receiver's step

-- what is held behind a frame, which is kept where it is accepted
unfoldable pub behind : Bytes → List Frame → Frame → List Frame
behind name held f = (step.taken name (record { held = held; doubt = [] }) f IsKept).held

-- what is held behind these, in order
abbrev pub behind_all : Bytes → List Frame → List Frame → List Frame
behind_all name held [] = held
behind_all name held (f ∷ frames) = behind_all name (behind name held f) frames

-- the receipt that a frame is answered: the receiver's name, and how many frames it then holds
abbrev pub receipt_for : Bytes → List Frame → Frame → Bytes
receipt_for name held f = receipt_bytes name (length (behind name held f))

-- those of these, in order
abbrev pub receipts : Bytes → List Frame → List Frame → Bytes
receipts name held [] = []
receipts name held (f ∷ frames) = receipt_for name held f ++ receipts name (behind name held f) frames

-- ---- what is kept

-- the receiver that holds these
abbrev pub holding : List Frame → Received → Received
holding frames b = record { name = b.name; told = b.told; frames = frames }

-- the bytes of their records in a log
abbrev pub record_bytes : List Frame → ℕ
record_bytes [] = 0
record_bytes (f ∷ frames) = length (frame_bytes f) + 5 + record_bytes frames

-- a crash left h and the first few of what stands behind it up to g; one in doubt may stand behind h, of what was in doubt at first, or behind g, of what is at last
pub record Between (h g : List Frame) (D D' : Bytes → Type 0) (found : Option (List Bytes)) : Type 0 where
  pub part : List Frame
  pub beyond : (more : List Frame) × (part ≡ h ++ more)
  pub within : (more : List Frame) × (g ≡ part ++ more)
  pub left : Leaves (map frame_bytes part) (λ x. ((part ≡ h) × D x) ⊎ ((part ≡ g) × D' x)) found

-- it held b's frames and holds these, which go on from them, and each moment leaves something between
pub record Kept {K : Type 0} (keeper : KeeperMeaning K) (old new : Receiver K) (b : Received) (frames : List Frame) : Type 0 where
  pub list : Holds keeper new (holding frames b)
  pub more : (more : List Frame) × (frames ≡ b.frames ++ more)
  pub used : keeper.used new.keeper + record_bytes b.frames ≡ keeper.used old.keeper + record_bytes frames
  pub label : keeper.label new.keeper ≡ keeper.label old.keeper
  pub time : b.told ≡ true → KeeperGains keeper old.keeper new.keeper (Between b.frames frames (keeper.doubts old.keeper) (keeper.doubts new.keeper))

-- ---- frames in turn

-- all these frames were answered, in order, and each receipt has passed on; where one was kept, nothing is in doubt
pub record AnsweredAll {K O : Type 0} (keeper : KeeperMeaning K) (sink : SinkMeaning O) (old new : Receiver K) (o o' : O) (b : Received) (frames : List Frame) : Type 0 where
  pub kept : Kept keeper old new b (behind_all b.name b.frames frames)
  pub calm : b.told ≡ true → (x : Bytes) → keeper.doubts new.keeper x → (behind_all b.name b.frames frames ≡ b.frames) × keeper.doubts old.keeper x
  pub wrote : Wrote sink o o' (receipts b.name b.frames frames)
  pub passed : sink.tells o → AllPassed sink o → AllPassed sink o'

-- the log ended it
abbrev pub ByLog : Ending → Type 0
ByLog end.Store = Unit {0}
ByLog end.Full = Unit {0}
ByLog why = ⊥

-- what is held behind the frame at which it ended: a receipt that is cut short is that of a frame that was kept if it is accepted
abbrev pub held_at : Ending → List Frame → List Frame → List Frame
held_at end.Write before after = after
held_at why before after = before

-- the rest begins with this frame, which has no whole receipt: only the output cuts one short, and the log leaves out a frame that is accepted
pub record Begun (name : Bytes) (held : List Frame) (rest : Bytes) (f : Frame) (why : Ending) (now : List Frame) (said : Bytes) (used : ℕ) (D D' : Bytes → Type 0) : Type 0 where
  pub form : IsFrame f
  pub first : (more : Bytes) × (rest ≡ frame_bytes f ++ more)
  pub list : now ≡ held_at why held (behind name held f)
  pub bytes : (more : Bytes) × (receipt_for name held f ≡ said ++ more)
  pub unkept : ByLog why → behind name held f ≡ held ++ f ∷ []
  pub full : why ≡ end.Full → 1073741824 < used + length (frame_bytes f) + 5
  -- a fault may have left the frame that was tried, and nothing else
  pub doubt : (x : Bytes) → D' x → D x ⊎ ((why ≡ end.Store) × (x ≡ frame_bytes f))

-- no frame was begun
pub record NoneBegun (held : List Frame) (why : Ending) (now : List Frame) (said : Bytes) (D D' : Bytes → Type 0) : Type 0 where
  pub list : now ≡ held
  pub bytes : said ≡ []
  pub other : ByLog why → ⊥
  pub calm : (x : Bytes) → D' x → D x

abbrev pub NextIs : Bytes → List Frame → Bytes → Ending → List Frame → Bytes → ℕ → (Bytes → Type 0) → (Bytes → Type 0) → Type 0
NextIs name held rest why now said used D D' = NoneBegun held why now said D D' ⊎ ((f : Frame) × Begun name held rest f why now said used D D')

-- these frames were answered, in order, and their receipts have passed on; of the next, with which the rest begins, there may be something
pub record AnsweredSome {K O : Type 0} (keeper : KeeperMeaning K) (sink : SinkMeaning O) (old new : Receiver K) (o o' : O) (b : Received) (frames : List Frame) (rest : Bytes) (why : Ending) : Type 0 where
  pub now : List Frame
  pub said : Bytes
  -- what was in doubt before is so only where nothing was kept since
  pub next : NextIs b.name (behind_all b.name b.frames frames) rest why now said (keeper.used new.keeper)
      (λ x. (now ≡ b.frames) × keeper.doubts old.keeper x) (λ x. (b.told ≡ true) × keeper.doubts new.keeper x)
  pub half : 0 < length said → why ≡ end.Write
  pub kept : Kept keeper old new b now
  pub wrote : Wrote sink o o' (receipts b.name b.frames frames ++ said)
  pub passed : sink.tells o → AllPassed sink o → AreFirst (sink.taken o ++ receipts b.name b.frames frames) (sink.passed o')

-- a frame may end the run so
abbrev pub EndsAtFrame : Ending → Type 0
EndsAtFrame end.Read = ⊥
EndsAtFrame end.TooLong = ⊥
EndsAtFrame (end.BadFrame at) = ⊥
EndsAtFrame why = Unit {0}

-- one frame was answered, or what ended it is said
abbrev pub Answered : {K O : Type 0} → KeeperMeaning K → SinkMeaning O → Receiver K → Receiver K → O → O → Received → Frame → Result (Unit {0}) Ending → Type 0
Answered keeper sink old new o o' b f (Ok u) = AnsweredAll keeper sink old new o o' b (f ∷ [])
Answered keeper sink old new o o' b f (Err why) = EndsAtFrame why × AnsweredSome keeper sink old new o o' b [] (frame_bytes f) why

-- what ends the run at a frame of which the receiver makes this
abbrev pub outcome : Taken → Result (Unit {0}) Ending
outcome Fault = Err end.Store
outcome (Full size count) = Err end.Full
outcome Memory = Err end.Memory
outcome taken = Ok tt

-- the counts of the keeper and of the output, by what ended the run: a failure only where the count rose, and else it is as it was
abbrev pub CausedBy : ℕ → ℕ → ℕ → ℕ → Ending → Type 0
CausedBy k k' o o' end.Read = ⊥
CausedBy k k' o o' end.TooLong = ⊥
CausedBy k k' o o' end.Write = (k' ≡ k) × Rose o o'
CausedBy k k' o o' end.Store = Rose k k' × (o' ≡ o)
CausedBy k k' o o' why = (k' ≡ k) × (o' ≡ o)

abbrev pub Causes : {A : Type 0} → ℕ → ℕ → ℕ → ℕ → Result A Ending → Type 0
Causes k k' o o' (Ok x) = (k' ≡ k) × (o' ≡ o)
Causes k k' o o' (Err why) = CausedBy k k' o o' why

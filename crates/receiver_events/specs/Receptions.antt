-- What a receiver's run did, as events of the world.
use Rattle.std.specs.Prelude.{◌≡◌, ◌⊎◌, ℕ, true, List, [], ◌∷◌, ◌++◌, length, Option, Some, None, Result, Ok, Err}
use Rattle.std.specs.List.{slice_get}
use Rattle.std.proofs.Common.{inl, inr}
use Rattle.news_types.specs.Names.{Bytes}
use Rattle.news_types.specs.Frames.{Frame, Writer}
use Rattle.news_types.specs.Calls.{Fate, IsKept, IsFull, IsFailed}
use Rattle.news_io.specs.Disk.{DiskMeaning}
use Rattle.news_io.specs.Keeper.{KeeperMeaning}
use Rattle.news_io.specs.Sink.{AreFirst, SinkMeaning}
use Rattle.news_io.specs.Source.{SourceMeaning}
use Rattle.run_status.specs.Output.{Wrote}
use Rattle.news_journal.specs.Journal.{journal_of}
use Rattle.feed_receiver.specs.Formats.{receipt_of}
use Rattle.feed_receiver.specs.Holds.{Received}
use Rattle.feed_receiver.specs.Spelling.{receipt_bytes}
use Rattle.feed_receiver.specs.declared.receiver.Receiver.{Receiver}
use Rattle.frame_run.specs.Run.{IsEnd}
use Rattle.frame_run.specs.declared.ending.Ending.{Ending}
use Rattle.frame_run.specs.declared.ending.Ending.TheVariants as end
use Rattle.receiver_files.specs.LogLeft.{InDoubt}
use Rattle.receiver_files.specs.Receive.{LONGEST_INPUT, IsReceive}
use Rattle.world_laws.specs.World.{World, Event, FrameComes, SentReceipt, happens, run}

-- ---- frames that come

-- the frame is one of those that were ever sent
abbrev pub WasSent : List Frame → Frame → Type 0
WasSent ever f = (which : ℕ) × (slice_get ever which ≡ Some f)

-- and so is each of these
abbrev pub WereSent : List Frame → List Frame → Type 0
WereSent ever [] = Unit {0}
WereSent ever (f ∷ frames) = WasSent ever f × WereSent ever frames

-- this frame, of those that were ever sent, reaches the receiver of the name, and this becomes of it where it is accepted
abbrev pub IsComing : List Frame → Bytes → Fate → Frame → Event → Type 0
IsComing ever name fate f e = (which : ℕ) × (slice_get ever which ≡ Some f) × (e ≡ FrameComes which name fate)

-- these frames reach it one after the other
abbrev pub AreComings : List Frame → Bytes → Fate → List Frame → List Event → Type 0
AreComings ever name fate [] events = events ≡ []
AreComings ever name fate (f ∷ frames) [] = ⊥
AreComings ever name fate (f ∷ frames) (e ∷ events) = IsComing ever name fate f e × AreComings ever name fate frames events

-- and so does the one that was begun, unless it is as if it had not come
abbrev pub AreBegun : List Frame → Bytes → Option Fate → List Frame → List Event → Type 0
AreBegun ever name None frames events = events ≡ []
AreBegun ever name (Some fate) frames events = AreComings ever name fate frames events

-- ---- the frames of a run

-- a frame, where there is one
abbrev pub frame_in : {A : Type 0} {B : Frame → Type 0} → A ⊎ ((f : Frame) × B f) → List Frame
frame_in (inl none) = []
frame_in (inr one) = one.0 ∷ []

module _ {K O : Type 0} (keeper : KeeperMeaning K) (sink : SinkMeaning O) (most : ℕ) (old new : Receiver K) (o o' : O) (b : Received) (read more : Bytes) where
  -- those that were answered, in order
  abbrev pub answered_frames : (r : Result (Unit {0}) Ending) → IsEnd keeper sink most old new o o' b read more r → List Frame
  answered_frames (Ok u) did = did.2.0
  answered_frames (Err end.Read) did = did.1.0
  answered_frames (Err end.TooLong) did = did.1.0
  answered_frames (Err (end.BadFrame at)) did = did.1.0
  answered_frames (Err end.Write) did = did.0
  answered_frames (Err end.Store) did = did.0
  answered_frames (Err end.Full) did = did.0
  answered_frames (Err end.Memory) did = did.0

  -- the one that was begun, where the run ended at a frame
  abbrev pub begun_frame : (r : Result (Unit {0}) Ending) → IsEnd keeper sink most old new o o' b read more r → List Frame
  begun_frame (Ok u) did = []
  begun_frame (Err end.Read) did = []
  begun_frame (Err end.TooLong) did = []
  begun_frame (Err (end.BadFrame at)) did = []
  begun_frame (Err end.Write) did = frame_in did.3.next
  begun_frame (Err end.Store) did = frame_in did.3.next
  begun_frame (Err end.Full) did = frame_in did.3.next
  begun_frame (Err end.Memory) did = frame_in did.3.next

-- What became of the frame at which a run ended, where it is accepted: it was kept, and the output failed at its receipt; or the log has failed, or was full.
-- Where memory was wanting it is as if it had not come.
abbrev pub fate_at : Result (Unit {0}) Ending → Option Fate
fate_at (Err end.Write) = Some IsKept
fate_at (Err end.Store) = Some IsFailed
fate_at (Err end.Full) = Some IsFull
fate_at r = None

-- ---- the receipts

-- the lines of these receipts, of which the newest stands first in the list and last in the bytes
abbrev pub receipt_lines : List SentReceipt → Bytes
receipt_lines [] = []
receipt_lines (r ∷ receipts) = receipt_lines receipts ++ receipt_bytes r.from r.count

-- each of these lines is read as its receipt
abbrev pub AreRead : List SentReceipt → Type 0
AreRead [] = Unit {0}
AreRead (r ∷ receipts) = (receipt_of (receipt_bytes r.from r.count) ≡ Some (r.from, r.count)) × AreRead receipts

-- each of these events has its receipt, the newest first: the receiver's name, and how many frames it holds then
abbrev pub AreReceipts : Writer → World → Bytes → List Event → List SentReceipt → Type 0
AreReceipts write w name [] receipts = receipts ≡ []
AreReceipts write w name (e ∷ events) receipts =
    (later : List SentReceipt) × (receipts ≡ later ++ record { from = name; count = length ((happens write w e).receivers name).held } ∷ []) × AreReceipts write (happens write w e) name events later

-- The receipts that the world has more are those that were written: one for each frame that was answered, and that of the frame that was begun, where
-- the output failed at it, and of which the first was written, or nothing.
pub record ReceiptsAre {O : Type 0} (sink : SinkMeaning O) (write : Writer) (w : World) (name : Bytes) (o o' : O) (whole last : List Event) (fate : Option Fate) : Type 0 where
  pub sent : List SentReceipt
  pub each : AreReceipts write w name whole sent
  pub half : List SentReceipt
  pub of_last : (half ≡ []) ⊎ ((fate ≡ Some IsKept) × AreReceipts write (run write whole w) name last half)
  pub are : (run write (whole ++ last) w).receipts ≡ half ++ (sent ++ w.receipts)
  pub read : AreRead (half ++ sent)
  pub said : Bytes
  pub cut : AreFirst said (receipt_lines half)
  pub wrote : Wrote sink o o' (receipt_lines sent ++ said)

-- ---- what the events lead to

-- the first of these events lead to a world whose receiver of the name holds these frames
pub record Front (write : Writer) (w : World) (name : Bytes) (events : List Event) (held : List Frame) : Type 0 where
  pub front : List Event
  pub rest : List Event
  pub events_are : events ≡ front ++ rest
  pub holds : ((run write front w).receivers name).held ≡ held

-- these events lead to a world whose receiver of the name holds these frames, and the first of them to each list between
pub record Lead (write : Writer) (w : World) (name : Bytes) (events : List Event) (frames : List Frame) : Type 0 where
  pub holds : ((run write events w).receivers name).held ≡ frames
  pub each : (part more later : List Frame) → part ≡ (w.receivers name).held ++ more → frames ≡ part ++ later → Front write w name events part

-- the frame is one of those in doubt
abbrev pub IsOneOf : List Frame → Frame → Type 0
IsOneOf doubt f = (i : ℕ) × (slice_get doubt i ≡ Some f)

-- of the world nothing has changed but the receiver of the name and the receipts
pub record OnlyReceives (w next : World) (name : Bytes) : Type 0 where
  pub server : next.server ≡ w.server
  pub out : next.out ≡ w.out
  pub frames : next.frames ≡ w.frames
  pub others : (other : Bytes) → (name ≡ other → ⊥) → next.receivers other ≡ w.receivers other

-- ---- a run

-- what a run did, between these outputs, is these events of a world, one for each frame: they lead to the receiver that the file is left to, with whatever is in doubt of it
pub record ReceptionHappened {O : Type 0} (sink : SinkMeaning O) (write : Writer) (w : World) (name : Bytes) (o o' : O) (answered begun : List Frame) (fate : Option Fate) (frames : List Frame) (D : Frame → Type 0)
    (events : List Event) : Type 0 where
  pub whole : List Event
  pub comings : AreComings w.frames name IsKept answered whole
  pub last : List Event
  pub next : AreBegun w.frames name fate begun last
  pub events_are : events ≡ whole ++ last
  pub lead : Lead write w name events frames
  pub doubt : (f : Frame) → D f → IsOneOf ((run write events w).receivers name).doubt f
  pub receipts : ReceiptsAre sink write w name o o' whole last fate
  pub only : OnlyReceives w (run write events w) name

module _ {D S O : Type 0} (disk : DiskMeaning D) (source : SourceMeaning S) (sink : SinkMeaning O) (name : Bytes)
    (log log' : D) (i i' : S) (o o' : O) (status : ℕ) where
  -- What a run did from the opened file is events of each world whose receiver of the name holds the frames to which the file opened, and in which the frames
  -- that it answered or began were sent. A run that was not begun is no event.
  abbrev pub IsReception : IsReceive disk source sink name log log' i i' o o' status → Type 0
  IsReception (inl refused) = Unit {0}
  IsReception (inr did) = (tells : disk.tells log) →
      let b : Received = record { name = name; told = true; frames = did.opened.frames } in
      let r = did.ran true (λ is. tells) in
      let answered : List Frame = answered_frames (journal_of disk) sink LONGEST_INPUT did.receiver did.after o r.mid b r.ran.read r.ran.more r.result r.ran.did in
      let begun : List Frame = begun_frame (journal_of disk) sink LONGEST_INPUT did.receiver did.after o r.mid b r.ran.read r.ran.more r.result r.ran.did in
      (write : Writer) (w : World) → (w.receivers name).held ≡ did.opened.frames → WereSent w.frames (answered ++ begun)
      → (events : List Event) × ReceptionHappened sink write w name o r.mid answered begun (fate_at r.result) (did.left tells).frames (InDoubt disk did.after) events

-- whatever `receive` does by its contract is events of the world
abbrev pub ReceptionsAreEvents : {D S O : Type 0} → DiskMeaning D → SourceMeaning S → SinkMeaning O → Type 0
ReceptionsAreEvents {D = D} {S = S} {O = O} disk source sink = (name : Bytes) (log log' : D) (i i' : S) (o o' : O) (status : ℕ)
    → (did : IsReceive disk source sink name log log' i i' o o' status) → IsReception disk source sink name log log' i i' o o' status did

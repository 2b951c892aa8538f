-- What a receiver's run, or a crash in its course or behind it, has left of the file, as events of the world.
use Rattle.std.specs.Prelude.{◌≡◌, ℕ, List, ◌++◌, Option}
use Rattle.std.proofs.Common.{inl, inr}
use Rattle.news_types.specs.Names.{Bytes}
use Rattle.news_types.specs.Frames.{Frame, Writer}
use Rattle.news_io.specs.Disk.{DiskMeaning}
use Rattle.news_io.specs.Sink.{SinkMeaning}
use Rattle.news_io.specs.Source.{SourceMeaning}
use Rattle.news_journal.specs.Stands.{disk_of, head_of}
use Rattle.receiver_files.specs.Log.{OpenTo}
use Rattle.receiver_files.specs.LogLeft.{InDoubt}
use Rattle.receiver_files.specs.Opening.{MayBe}
use Rattle.receiver_files.specs.Receive.{IsReceive}
use Rattle.world_laws.specs.Bridge.{IsOpened}
use Rattle.world_laws.specs.World.{World, Event, ReceiverReopens, happens, run}
use Rattle.receiver_events.specs.Receptions.{Lead, IsOneOf}

-- the file is the log of the receiver of the name, and opens to the frames with which that one reopens in the world
pub record ReopensTo (write : Writer) (w : World) (name : Bytes) (head file : List ℕ) : Type 0 where
  pub held : List Frame
  pub opens : OpenTo head name file held
  pub which : Option ℕ
  pub reopened : IsOpened w (happens write w (ReceiverReopens name which)) name held

-- so it is behind the first of these events
pub record ReopensBehind (write : Writer) (w : World) (name : Bytes) (events : List Event) (head file : List ℕ) : Type 0 where
  pub front : List Event
  pub rest : List Event
  pub events_are : events ≡ front ++ rest
  pub reopens : ReopensTo write (run write front w) name head file

module _ {D S O : Type 0} (disk : DiskMeaning D) (source : SourceMeaning S) (sink : SinkMeaning O) (name : Bytes)
    (log log' : D) (i i' : S) (o o' : O) (status : ℕ) where
  -- Where events of a world lead from the frames to which the file opened to those to which it is left, with whatever is in doubt, the file is left as
  -- the receiver of the world reopens: behind all of them as a read gives it and as a crash leaves it then, and behind the first of them as a crash leaves
  -- it at any moment since it was opened.
  abbrev pub IsFoundAgain : IsReceive disk source sink name log log' i i' o o' status → Type 0
  IsFoundAgain (inl refused) = Unit {0}
  IsFoundAgain (inr did) = (tells : disk.tells log) (write : Writer) (w : World) (events : List Event) → (w.receivers name).held ≡ did.opened.frames
      → Lead write w name events (did.left tells).frames → ((f : Frame) → InDoubt disk did.after f → IsOneOf ((run write events w).receivers name).doubt f)
      → ((file : List ℕ) → MayBe disk log' file → ReopensTo write (run write events w) name (head_of did.after.keeper) file)
      × ((file : List ℕ) → disk.left_since log' (disk.moment (disk_of did.receiver.keeper)) file → ReopensBehind write w name events (head_of did.after.keeper) file)

  -- A run on a file that is left so begins with the frames with which the receiver of the world reopens.
  abbrev pub BeginsReopened : IsReceive disk source sink name log log' i i' o o' status → Type 0
  BeginsReopened (inl refused) = Unit {0}
  BeginsReopened (inr did) = (tells : disk.tells log) (write : Writer) (w : World) (head : List ℕ) (r : ReopensTo write w name head (disk.seen log))
      → ((happens write w (ReceiverReopens name r.which)).receivers name).held ≡ did.opened.frames

-- whatever a run of `receive`, or a crash, leaves is what a reopening finds in the world
abbrev pub ReopeningsAreEvents : {D S O : Type 0} → DiskMeaning D → SourceMeaning S → SinkMeaning O → Type 0
ReopeningsAreEvents {D = D} {S = S} {O = O} disk source sink = (name : Bytes) (log log' : D) (i i' : S) (o o' : O) (status : ℕ)
    → (did : IsReceive disk source sink name log log' i i' o o' status) → IsFoundAgain disk source sink name log log' i i' o o' status did

-- and with that the next one begins
abbrev pub RunsBeginReopened : {D S O : Type 0} → DiskMeaning D → SourceMeaning S → SinkMeaning O → Type 0
RunsBeginReopened {D = D} {S = S} {O = O} disk source sink = (name : Bytes) (log log' : D) (i i' : S) (o o' : O) (status : ℕ)
    → (did : IsReceive disk source sink name log log' i i' o o' status) → BeginsReopened disk source sink name log log' i i' o o' status did

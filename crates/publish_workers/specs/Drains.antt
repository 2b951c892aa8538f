-- A drain: turns one after another, until none of the feeds is ready or something ends it. Lists of turns have their newest first.
use Rattle.std.specs.Prelude.{◌≡◌, ℕ, Bool, true, false, ◌||◌, List, [], ◌∷◌, ◌++◌, Option, Some, None, Result, Ok, Err}
use Rattle.news_types.specs.declared.entry.Entry.{Entry}
use Rattle.news_types.specs.Names.{Bytes}
use Rattle.news_types.specs.Books.{Book, onto}
use Rattle.news_io.specs.Keeper.{KeeperMeaning}
use Rattle.news_io.specs.Link.{Passed}
use Rattle.news_io.specs.Sink.{SinkMeaning, AreFirst}
use Rattle.news_room.specs.Stands.{Stands}
use Rattle.news_room.specs.Steps.{ToldStep}
use Rattle.news_room.specs.declared.room.Room.{Room}
use Rattle.feed_reports.specs.Attempts.{attempt_line}
use Rattle.feed_reports.specs.declared.attempts.Attempted.{Attempted}
use Rattle.feed_reports.specs.declared.attempts.Attempted.TheVariants as came
use Rattle.publish_workers.specs.declared.worked.Worked.{Worked}
use Rattle.publish_workers.specs.declared.worked.Worked.TheVariants.{Delivered, Idle, NoReceipt, LinkFault, StoreFault, Full, Memory}
use Rattle.publish_workers.specs.declared.drain.Drained as ends
use Rattle.publish_workers.specs.declared.drain.Drained.{Drained}
use Rattle.publish_workers.specs.declared.drain.Reported.{Reported}
use Rattle.publish_workers.specs.Links.{CountsFaults}
use Rattle.publish_workers.specs.Turns.{Turn, word, frames_of, replies_of, passed_of, readings, is_link_fault, is_no_receipt, is_store_fault}
use Rattle.publish_workers.specs.Steps.{TurnHappens, turn_entries}

-- ---- what is reported

abbrev pub reported : Bytes → ℕ → Attempted → Option Reported
reported s k how = Some (record { subscriber = s; k = k; came = how })

-- an attempt is reported with its word; a turn without one is not
abbrev pub report_of : Worked → Option Reported
report_of (Delivered s k n) = reported s k came.Delivered
report_of (NoReceipt s k reply) = reported s k came.NoReceipt
report_of (LinkFault s k) = reported s k came.LinkFault
report_of (Idle next) = None
report_of StoreFault = None
report_of (Full size count) = None
report_of Memory = None

-- whether it is
abbrev pub IsReported : Worked → Type 0
IsReported (Delivered s k n) = Unit {0}
IsReported (NoReceipt s k reply) = Unit {0}
IsReported (LinkFault s k) = Unit {0}
IsReported (Idle next) = ⊥
IsReported StoreFault = ⊥
IsReported (Full size count) = ⊥
IsReported Memory = ⊥

abbrev pub line_of : Option Reported → Bytes
line_of None = []
line_of (Some r) = attempt_line r.subscriber r.k r.came

abbrev pub last_line : Turn → Bytes
last_line t = line_of (report_of (word t))

-- the lines of these turns, in order
abbrev pub lines_of : List Turn → Bytes
lines_of [] = []
lines_of (t ∷ ts) = lines_of ts ++ last_line t

abbrev pub AllReported : List Turn → Type 0
AllReported [] = Unit {0}
AllReported (t ∷ ts) = IsReported (word t) × AllReported ts

-- what passed over the link in these turns, and the readings of the clock, in order

abbrev pub all_frames : List Turn → List (Bytes × Bytes)
all_frames [] = []
all_frames (t ∷ ts) = all_frames ts ++ frames_of t.claimed t.exchange

abbrev pub all_replies : List Turn → List (Bytes × Bytes)
all_replies [] = []
all_replies (t ∷ ts) = all_replies ts ++ replies_of t.claimed t.exchange

abbrev pub all_passed : List Turn → List Passed
all_passed [] = []
all_passed (t ∷ ts) = all_passed ts ++ passed_of t.claimed t.exchange

abbrev pub all_readings : List Turn → List ℕ
all_readings [] = []
all_readings (t ∷ ts) = all_readings ts ++ readings t

-- ---- how it ends

-- the link failed at an attempt, or the reply was no receipt, at one of these turns
abbrev pub lost_in : List Turn → Bool
lost_in [] = false
lost_in (t ∷ ts) = lost_in ts || is_link_fault (word t)

abbrev pub refused_in : List Turn → Bool
refused_in [] = false
refused_in (t ∷ ts) = refused_in ts || is_no_receipt (word t)

-- the end by the word of the last turn, of which the line of an attempt had no memory
abbrev pub end_of : Worked → Bool → Bool → Drained
end_of (Idle next) lost refused = ends.Drained.Idle lost refused
end_of StoreFault lost refused = ends.Drained.StoreFault
end_of (Full size count) lost refused = ends.Drained.Full size count
end_of Memory lost refused = ends.Drained.Memory
end_of (Delivered s k n) lost refused = ends.Drained.Memory
end_of (NoReceipt s k reply) lost refused = ends.Drained.Memory
end_of (LinkFault s k) lost refused = ends.Drained.Memory

-- the last turn ended the drain, or the output did not take the line of its attempt
abbrev pub IsEnd : Bool → Bool → Worked → Drained → Type 0
IsEnd lost refused worked ends.Drained.OutputFault = IsReported worked
IsEnd lost refused worked (ends.Drained.Idle link_failed no_receipt) = ends.Drained.Idle link_failed no_receipt ≡ end_of worked lost refused
IsEnd lost refused worked ends.Drained.StoreFault = ends.Drained.StoreFault ≡ end_of worked lost refused
IsEnd lost refused worked (ends.Drained.Full size count) = ends.Drained.Full size count ≡ end_of worked lost refused
IsEnd lost refused worked ends.Drained.Memory = ends.Drained.Memory ≡ end_of worked lost refused

-- the ends at a failed keeper and at a failed output
abbrev pub is_store_end : Drained → Bool
is_store_end ends.Drained.StoreFault = true
is_store_end _ = false

abbrev pub is_output_end : Drained → Bool
is_output_end ends.Drained.OutputFault = true
is_output_end _ = false

-- where none of the feeds is ready, the count of the link rose if it failed at an attempt, and else it is as it was
abbrev pub CountsLink : Drained → ℕ → ℕ → Type 0
CountsLink (ends.Drained.Idle link_failed no_receipt) before now = CountsFaults link_failed before now
CountsLink _ before now = Unit {0}

abbrev pub IsLineFault : Drained → Type 0
IsLineFault ends.Drained.OutputFault = Unit {0}
IsLineFault ends.Drained.Memory = Unit {0}
IsLineFault (ends.Drained.Idle link_failed no_receipt) = ⊥
IsLineFault ends.Drained.StoreFault = ⊥
IsLineFault (ends.Drained.Full size count) = ⊥

-- ---- the output

-- an output that tells took these lines, and of the last one all or the first bytes
pub record Prints {O : Type 0} (sink : SinkMeaning O) (old new : O) (lines last : Bytes) : Type 0 where
  pub tells : sink.tells new
  pub front : Bytes
  pub first : AreFirst front last
  pub taken : sink.taken new ≡ sink.taken old ++ (lines ++ front)

-- it took a line, or its first bytes
abbrev pub Writes : {O E : Type 0} → SinkMeaning O → O → O → Bytes → Result (Unit {0}) E → Type 0
Writes sink old new line (Ok u) = sink.tells new × (sink.taken new ≡ sink.taken old ++ line)
Writes sink old new line (Err e) = Prints sink old new [] line

module _ {K : Type 0} (keeper : KeeperMeaning K) where
  -- ---- the room

  -- the turns happened one behind another, each in the room that the one before it left
  abbrev pub TurnsHappen : Room K → Room K → Book → List Bytes → List Turn → List Entry → Type 0
  TurnsHappen old new b names [] more = (new ≡ old) × (more ≡ [])
  TurnsHappen old new b names (t ∷ ts) more =
      (left : Room K) × (between : Room K) × (before : List Entry) × (first : List Entry) × (later : List Entry) × TurnsHappen old left b names ts before
      × TurnHappens keeper left between new (onto before b) names t first later × (more ≡ before ++ (first ++ later))

  -- A drain of a room that stood for the book, over a link to these subscribers: its turns, of which the last left the room as it is. The
  -- room stands for the book with all that they added. Where the keeper tells its list, so is what a crash may leave, at any moment of the
  -- drain and behind it: all that came before the last turn was kept.
  pub record DrainHappens (old new : Room K) (b : Book) (names : List Bytes) (t : Turn) (ts : List Turn) (more : List Entry) : Type 0 where
    pub left : Room K
    pub between : Room K
    pub before : List Entry
    pub first : List Entry
    pub later : List Entry
    pub turns : TurnsHappen old left b names ts before
    pub last : TurnHappens keeper left between new (onto before b) names t first later
    pub more_is : more ≡ before ++ (first ++ later)
    pub stands : Stands keeper new (onto more b)
    pub told : b.told ≡ true → ToldStep keeper old new b (before ++ turn_entries (onto before b) names t first) more (is_store_fault (word t))

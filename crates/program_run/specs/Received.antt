-- What `receive` does to a receiver's file.
use Rattle.std.specs.Prelude.{◌≡◌, ◌⊎◌, ◌<◌, ◌≤◌, ℕ, ◌+◌, Bool, true, List, [], ◌∷◌, ◌++◌, length, take, Option, Some, None, Result, Ok, Err, IsTrue}
use Rattle.news_types.specs.Names.{Bytes, is_name}
use Rattle.news_types.specs.Frames.{Frame}
use Rattle.news_types.specs.Calls.{IsKept}
use Rattle.news_types.specs.Receiver.{taken}
use Rattle.news_io.specs.Disk.{LeavesOnly}
use Rattle.news_io.specs.Faults.{Rose}
use Rattle.news_io.specs.Outside.{Meanings, Outside}
use Rattle.news_io.specs.Sink.{AreFirst}
use Rattle.news_journal.specs.Created.{IsInTheMaking}
use Rattle.news_journal.specs.Log.{header_bytes}
use Rattle.news_journal.specs.Opened.{Still}
use Rattle.news_journal.specs.declared.header.Header.TheVariants as header
use Rattle.feed_receiver.specs.Feed.{InOrder}
use Rattle.feed_receiver.specs.Spelling.{frame_bytes, IsFrame, receipt_bytes}
use Rattle.frame_run.specs.Input.{AreFrames, AreAll, IsBadAt, IsLookedAt}
use Rattle.frame_run.specs.declared.ending.Ending.{Ending}
use Rattle.frame_run.specs.declared.ending.Ending.TheVariants as end
use Rattle.receiver_files.specs.Log.{Gives, OpenTo, IsOther, IsDamaged}
use Rattle.program_run.specs.Telling.{StoreCounts}
use Rattle.room_reports.specs.Written.{IsStopped}
use Rattle.run_status.specs.Output.{Wrote, AllPassed, Told}
use Rattle.run_status.specs.Status.{number_of, line_of}
use Rattle.run_status.specs.declared.status.Status.{Status}
use Rattle.run_status.specs.declared.status.Status.TheVariants as status

-- ---- what a receiver answers to frames

-- what is held behind a frame, which is kept where it is accepted
unfoldable pub behind : Bytes → List Frame → Frame → List Frame
behind name held f = (taken name (record { held = held; doubt = [] }) f IsKept).held

abbrev pub behind_all : Bytes → List Frame → List Frame → List Frame
behind_all name held [] = held
behind_all name held (f ∷ frames) = behind_all name (behind name held f) frames

-- the receipt that a frame is answered: the receiver's name, and how many frames it then holds
abbrev pub receipt : Bytes → List Frame → Frame → Bytes
receipt name held f = receipt_bytes name (length (behind name held f))

-- those of these, in order
abbrev pub receipts : Bytes → List Frame → List Frame → Bytes
receipts name held [] = []
receipts name held (f ∷ frames) = receipt name held f ++ receipts name (behind name held f) frames

-- the bytes of their records in a log
abbrev pub sizes : List Frame → ℕ
sizes [] = 0
sizes (f ∷ frames) = length (frame_bytes f) + 5 + sizes frames

-- ---- what of an input was answered

-- the most bytes of an input, and of a log
abbrev pub LONGEST_INPUT : ℕ
LONGEST_INPUT = 4294967296

abbrev pub LONGEST_LOG : ℕ
LONGEST_LOG = 1073741824

abbrev pub status_by : Ending → Status
status_by end.Read = status.Input
status_by end.Write = status.Output
status_by end.Store = status.Store
status_by end.Full = status.Full
status_by end.Memory = status.Memory
status_by end.TooLong = status.TooLong
status_by (end.BadFrame at) = status.BadFrame at

abbrev pub status_of : Result (Unit {0}) Ending → Status
status_of (Ok u) = status.Done
status_of (Err why) = status_by why

-- the log ended it
abbrev pub ByLog : Ending → Type 0
ByLog end.Store = Unit {0}
ByLog end.Full = Unit {0}
ByLog why = ⊥

-- the frame that was begun, where the log failed at it
abbrev pub WasTried : Result (Unit {0}) Ending → Option Frame → Frame → Type 0
WasTried ended next f = (ended ≡ Err end.Store) × (next ≡ Some f)

-- what is held behind the frame at which it ended: a receipt that is cut short is that of a frame that was kept if it is
-- accepted
abbrev pub held_at : Ending → List Frame → List Frame → List Frame
held_at end.Write before after = after
held_at why before after = before

module _ (name : Bytes) (held : List Frame) (rest : Bytes) (why : Ending) (now : List Frame) (said : Bytes) where
  -- Behind these held ones the rest begins with this frame, of whose receipt so much was written, and these are held then.
  -- Only the output cuts a receipt short, and the log leaves out only a frame that is accepted: as full, where its record
  -- would take the log past its most bytes.
  pub record Begun (f : Frame) : Type 0 where
    pub form : IsFrame f
    pub first : AreFirst (frame_bytes f) rest
    pub list : now ≡ held_at why held (behind name held f)
    pub begun : AreFirst said (receipt name held f)
    pub unkept : ByLog why → behind name held f ≡ held ++ f ∷ []
    pub full : why ≡ end.Full → LONGEST_LOG < 65 + sizes now + length (frame_bytes f) + 5

  -- so, or no frame was begun
  abbrev pub NextIs : Option Frame → Type 0
  NextIs None = (now ≡ held) × (said ≡ []) × (ByLog why → ⊥)
  NextIs (Some f) = Begun f

-- of bytes that were read, and more that were to come, these frames were answered, one after the other
module _ (name : Bytes) (held : List Frame) (read more : Bytes) (frames : List Frame) where
  -- and none was begun
  abbrev pub NoneBegun : List Frame → Bytes → Option Frame → Type 0
  NoneBegun now said next = (now ≡ behind_all name held frames) × (said ≡ []) × (next ≡ None)

  -- by what ended it: all of them; those that were read; those of the first bytes of an input that is too long; those before
  -- bytes that are no frame; or those before one that was begun
  abbrev pub Answers : List Frame → Bytes → Option Frame → Result (Unit {0}) Ending → Type 0
  Answers now said next (Ok u) = (more ≡ []) × (length read ≤ LONGEST_INPUT) × AreFrames read frames [] × NoneBegun now said next
  Answers now said next (Err end.Read) = (length read ≤ LONGEST_INPUT) × AreAll read frames × NoneBegun now said next
  Answers now said next (Err end.TooLong) =
      (LONGEST_INPUT < length read) × AreAll (take LONGEST_INPUT read) frames × NoneBegun now said next
  Answers now said next (Err (end.BadFrame at)) =
      IsLookedAt (read ++ more) at LONGEST_INPUT × IsBadAt (read ++ more) frames at × NoneBegun now said next
  Answers now said next (Err why) =
      (rest : Bytes) × AreFrames (read ++ more) frames rest × NextIs name (behind_all name held frames) rest why now said next

-- a failure is told only where its count rose, and else it is as it was: of the input, the log and the output
abbrev pub Causes : ℕ → ℕ → ℕ → ℕ → ℕ → ℕ → Result (Unit {0}) Ending → Type 0
Causes i i' k k' o o' (Err end.Read) = Rose i i' × (k' ≡ k) × (o' ≡ o)
Causes i i' k k' o o' (Err end.Store) = (i' ≡ i) × Rose k k' × (o' ≡ o)
Causes i i' k k' o o' (Err end.Write) = (i' ≡ i) × (k' ≡ k) × Rose o o'
Causes i i' k k' o o' r = (i' ≡ i) × (k' ≡ k) × (o' ≡ o)

-- ---- the file

-- the header that the file of a receiver has, or is given where it is empty
abbrev pub head_of : Bytes → List ℕ → List ℕ
head_of name [] = header_bytes (header.Receiver name)
head_of name (x ∷ file) = take 64 (x ∷ file)

module _ (head : List ℕ) (name : Bytes) where
  abbrev pub OpensTo : List ℕ → List Frame → Type 0
  OpensTo file frames = OpenTo head name file frames

  -- the file opens to the frames, or to them and one that was tried
  abbrev pub IsLeft : List Frame → (Frame → Type 0) → List ℕ → Type 0
  IsLeft frames Tried file = OpensTo file frames ⊎ ((f : Frame) × Tried f × OpensTo file (frames ++ f ∷ []))

  -- it opens to the held ones and the first few of those behind them, or to all and one that was tried
  pub record Between (held now : List Frame) (Tried : Frame → Type 0) (file : List ℕ) : Type 0 where
    pub part : List Frame
    pub beyond : (more : List Frame) × (part ≡ held ++ more)
    pub within : (more : List Frame) × (now ≡ part ++ more)
    pub left : IsLeft part (λ f. (part ≡ now) × Tried f) file

  -- each of them opens to the frames that the other opens to
  abbrev pub OpenAlike : List ℕ → List ℕ → Type 0
  OpenAlike file other = (frames : List Frame) → (OpensTo file frames → OpensTo other frames) × (OpensTo other frames → OpensTo file frames)

-- what the file says to each status
abbrev pub Cause : Bytes → List ℕ → Status → Type 0
Cause name file status.WrongStore = IsOther name file
Cause name file status.Store = Unit {0}
Cause name file (status.Damaged at found) = IsDamaged name file at found
Cause name file status.Memory = Unit {0}
Cause name file why = ⊥

-- ---- the command

module _ {D S O C L : Type 0} (m : Meanings D S O C L) (before after : Outside D S O C L) (number : ℕ)
    (name : Bytes) where
  -- what a crash may have left before, or, of an empty file, a log in the making
  abbrev pub MayBeMade : List ℕ → Type 0
  MayBeMade file =
      m.disk.may_leave before.log file ⊎ ((m.disk.seen before.log ≡ []) × IsInTheMaking (header.Receiver name) file)

  -- the file was empty, and could not be made a log
  pub record IsUnmade (why : Status) : Type 0 where
    pub empty : m.disk.seen before.log ≡ []
    pub failed : why ≡ status.Store
    pub tells : m.disk.tells after.log
    pub crash : LeavesOnly m.disk before.log after.log MayBeMade

  -- the file does not serve, and nothing was read from the input; it was only read, or could not be made a log
  pub record NotBegun : Type 0 where
    pub why : Status
    pub cause : m.disk.tells before.log → Cause name (m.disk.seen before.log) why
    pub counts : StoreCounts (m.disk.faults before.log) (m.disk.faults after.log) why
    pub left : m.disk.tells before.log → Still m.disk before.log after.log ⊎ IsUnmade why
    pub told : IsStopped m.sink why before.output after.output number
    pub input : after.input ≡ before.input

  abbrev pub Head : List ℕ
  Head = head_of name (m.disk.seen before.log)

  -- The file had these frames, and is left with those: as a read gives it, and as a crash leaves it. One at any moment of the
  -- call leaves the first few of them behind those that it had, or all and one that was tried; or a file that opens as one
  -- does that it could leave before.
  pub record FileLeft (held now : List Frame) (Tried : Frame → Type 0) : Type 0 where
    pub gives : Gives name (m.disk.seen before.log) held
    pub left : (file : List ℕ) → (file ≡ m.disk.seen after.log) ⊎ m.disk.may_leave after.log file → IsLeft Head name now Tried file
    pub later : m.disk.moment before.log ≤ m.disk.moment after.log
    pub since : (file : List ℕ) → m.disk.left_since after.log (m.disk.moment before.log) file
        → Between Head name held now Tried file ⊎ ((was : List ℕ) × MayBeMade was × OpenAlike Head name was file)

  -- From the held frames on, those of the input were answered, one after the other. Told, the file held these at first, and is
  -- left with all that are held at last.
  pub record Received (told : Bool) : Type 0 where
    pub named : IsTrue (is_name name)
    pub held : List Frame
    pub order : InOrder name 1 held
    -- the input
    pub read : Bytes
    pub more : Bytes
    pub source_tells : m.source.tells before.input → m.source.tells after.input
    pub was_read : m.source.tells before.input
        → (m.source.ahead before.input ≡ read ++ more) × (m.source.ahead after.input ≡ more)
    pub few : length read ≤ LONGEST_INPUT + 1
    pub ended : Result (Unit {0}) Ending
    pub frames : List Frame
    pub now : List Frame
    pub goes_on : (more : List Frame) × (now ≡ held ++ more)
    pub said : Bytes
    pub next : Option Frame
    pub answers : Answers name held read more frames now said next ended
    -- the output: the receipts, of the next one its first bytes, and the status line
    pub mid : O
    pub half : 0 < length said → ended ≡ Err end.Write
    pub wrote : Wrote m.sink before.output mid (receipts name held frames ++ said)
    pub passed_first : m.sink.tells before.output → AllPassed m.sink before.output
        → AreFirst (m.sink.taken before.output ++ receipts name held frames) (m.sink.passed mid)
    pub number_is : number ≡ number_of (status_of ended)
    pub line : Told m.sink mid after.output (line_of (status_of ended))
    pub passed : m.sink.tells before.output
        → AllPassed m.sink after.output ⊎ Rose (m.sink.faults before.output) (m.sink.faults after.output)
    pub done : number ≡ 0 → m.sink.tells before.output → AllPassed m.sink after.output
    pub causes : Causes (m.source.faults before.input) (m.source.faults after.input) (m.disk.faults before.log)
        (m.disk.faults after.log) (m.sink.faults before.output) (m.sink.faults mid) ended
    pub file : told ≡ true → FileLeft held now (WasTried ended next)

  -- where nothing failed, and the input is whole frames and not too long, everything was answered, or the log was full, or
  -- memory was wanting
  abbrev pub Complete : Type 0
  Complete = m.source.tells before.input → length (m.source.ahead before.input) ≤ LONGEST_INPUT
      → (frames : List Frame) → AreFrames (m.source.ahead before.input) frames []
      → (Rose (m.source.faults before.input) (m.source.faults after.input) → ⊥)
      → (Rose (m.sink.faults before.output) (m.sink.faults after.output) → ⊥)
      → (Rose (m.disk.faults before.log) (m.disk.faults after.log) → ⊥) → (number ≡ 0) ⊎ ((number ≡ 8) ⊎ (number ≡ 9))

  -- the file does not serve; or, whether it tells what it holds or not, the input was answered
  abbrev pub IsReceived : Type 0
  IsReceived = (after.side ≡ before.side) × (after.clock ≡ before.clock) × (after.links ≡ before.links)
      × (NotBegun ⊎ (((told : Bool) → (told ≡ true → m.disk.tells before.log) → Received told) × Complete))

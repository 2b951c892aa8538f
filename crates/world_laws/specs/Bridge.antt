-- What the contracts of calls cite is what the events of the world do.
use Rattle.std.specs.Prelude.{◌≡◌, ◌⊎◌, ℕ, Bool, true, false, List, [], ◌∷◌, ◌++◌, length, map, Option, Some}
use Rattle.std.specs.List.{slice_get}
use Rattle.news_types.specs.declared.entry.Entry.{Entry}
use Rattle.news_types.specs.declared.command.Command.{Command}
use Rattle.news_types.specs.declared.story.Incoming.{Incoming}
use Rattle.news_types.specs.declared.query.Query.{Query}
use Rattle.news_types.specs.declared.query.Query.TheVariants as question
use Rattle.news_types.specs.declared.query.Answer.TheVariants as told
use Rattle.news_types.specs.Names.{Bytes}
use Rattle.news_types.specs.Frames.{Frame, Writer, frame_bytes}
use Rattle.news_types.specs.Calls.{Call, Requested, Ingested, Receipted, Ticked, Halted, Asked, Claimed, Job, Tells, Fate, IsKept, IsFailed}
use Rattle.news_types.specs.Server.{Server, put, called, call_answer, claimed, claim_answer}
use Rattle.news_types.specs.Receiver.{Receiver, accepted, reaction, taken, is_receipted}
use Rattle.news_types.specs.Doubt.{IsAmong, Leaves, payloads}
use Rattle.world_laws.specs.World.{World, Event, Given, SentReceipt, Requests, Ingests, Ticks, Halts, Asks, Claims, Sends, FrameComes, ReceiptComes, Reopens, ReceiverReopens, happens, run, after}

-- from one world to the next: the server, and one answer more
pub record Answers (w next : World) (c : Server) (g : Given) : Type 0 where
  pub server : next.server ≡ c
  pub out : next.out ≡ g ∷ w.out
  pub frames : next.frames ≡ w.frames
  pub receipts : next.receipts ≡ w.receipts
  pub receivers : next.receivers ≡ w.receivers

-- a call at a reading: what `called` makes of the server, and what `call_answer` answers
abbrev pub IsCall : Writer → World → World → Call → ℕ → Fate → Type 0
IsCall write w next call reading fate =
    Answers w next (called w.server call reading fate) (record { at = length w.server.list; call = call; reading = reading; answer = call_answer write w.server call reading fate })

abbrev pub IsClaim : Writer → World → World → List Bytes → ℕ → Fate → Fate → Type 0
IsClaim write w next names reading first second =
    Answers w next (claimed w.server names reading first second) (record { at = length w.server.list; call = Claimed names; reading = reading; answer = claim_answer write w.server names reading first second })

-- the receiver of a name has become another, and the others are as they were
pub record OneChanges (w next : World) (s : Bytes) (r : Receiver) : Type 0 where
  pub server : next.server ≡ w.server
  pub out : next.out ≡ w.out
  pub frames : next.frames ≡ w.frames
  pub mine : next.receivers s ≡ r
  pub others : (t : Bytes) → (s ≡ t → ⊥) → next.receivers t ≡ w.receivers t

-- the receipt of a receiver that holds so many frames, where one goes out
abbrev pub receipt_if : Bool → Bytes → ℕ → List SentReceipt
receipt_if true s n = record { from = s; count = n } ∷ []
receipt_if false s n = []

-- a frame that reaches the receiver of a name: what `taken` makes of that one, and the receipt that goes out
pub record IsTake (w next : World) (s : Bytes) (f : Frame) (fate : Fate) : Type 0 where
  pub change : OneChanges w next s (taken s (w.receivers s) f fate)
  pub receipts : next.receipts ≡ receipt_if (is_receipted fate (reaction s (length (w.receivers s).held) f)) s (length (taken s (w.receivers s) f fate).held) ++ w.receipts

-- a receiver that was opened with these frames: nothing is in doubt
pub record IsOpened (w next : World) (s : Bytes) (opened : List Frame) : Type 0 where
  pub change : OneChanges w next s (record { held = opened; doubt = [] })
  pub receipts : next.receipts ≡ w.receipts

-- the frame is the next one that is sent where entry k of this feed is
abbrev pub IsSent : Writer → World → Bytes → ℕ → Frame → Type 0
IsSent write w s k f = (happens write w (Sends s k)).frames ≡ f ∷ w.frames

-- what a crash leaves: the list, or the list with the bytes of one entry in doubt at its end
abbrev pub LeavesOf : (Entry → Bytes) → Server → List Bytes → Type 0
LeavesOf spelled c opened =
    (opened ≡ payloads spelled c.list) ⊎ ((i : ℕ) × (e : Entry) × (slice_get c.doubt i ≡ Some e) × (opened ≡ payloads spelled c.list ++ spelled e ∷ []))

-- what a crash leaves of a receiver: the frames that it held, or these and one of those in doubt
abbrev pub LeavesFrames : Receiver → List Frame → Type 0
LeavesFrames r opened = (opened ≡ r.held) ⊎ ((i : ℕ) × (f : Frame) × (slice_get r.doubt i ≡ Some f) × (opened ≡ r.held ++ f ∷ []))

-- the payload is the bytes of one of these frames
abbrev pub IsAmongFrames : (Frame → Bytes) → List Frame → Bytes → Type 0
IsAmongFrames spelled frames x = (i : ℕ) × (f : Frame) × (slice_get frames i ≡ Some f) × (x ≡ spelled f)

-- whether a payload may be in doubt behind an append, by what became of that: it was before, or it is the payload that failed
abbrev pub StaysInDoubt : Fate → Type 0 → Type 0 → Type 0
StaysInDoubt IsKept was is_appended = ⊥
StaysInDoubt IsFailed was is_appended = was ⊎ is_appended
StaysInDoubt _ was is_appended = was

pub record CallsAreEvents : Type 0 where
  pub request : (write : Writer) (w : World) (caller : Bytes) (number : ℕ) (command : Command) (reading : ℕ) (fate : Fate) →
      IsCall write w (happens write w (Requests caller number command reading fate)) (Requested caller number command) reading fate
  pub ingest : (write : Writer) (w : World) (name : Bytes) (come : Incoming) (reading : ℕ) (fate : Fate) →
      IsCall write w (happens write w (Ingests name come reading fate)) (Ingested name come) reading fate
  pub tick : (write : Writer) (w : World) (reading : ℕ) (fate : Fate) → IsCall write w (happens write w (Ticks reading fate)) Ticked reading fate
  pub halt : (write : Writer) (w : World) (reading : ℕ) (fate : Fate) → IsCall write w (happens write w (Halts reading fate)) Halted reading fate
  pub ask : (write : Writer) (w : World) (query : Query) (reading : ℕ) (fate : Fate) → IsCall write w (happens write w (Asks query reading fate)) (Asked query) reading fate
  pub claim : (write : Writer) (w : World) (names : List Bytes) (reading : ℕ) (first second : Fate) →
      IsClaim write w (happens write w (Claims names reading first second)) names reading first second
  -- a receipt that came is one that was sent
  pub receipt : (write : Writer) (w : World) (which : ℕ) (receipt : SentReceipt) (reading : ℕ) (fate : Fate) → slice_get w.receipts which ≡ Some receipt →
      IsCall write w (happens write w (ReceiptComes which reading fate)) (Receipted receipt.from receipt.count) reading fate
  -- the frame that a claim was answered is the one that may be sent behind it, at once or later
  pub job : (write : Writer) (events more : List Event) (names : List Bytes) (reading : ℕ) (first second : Fate) (s : Bytes) (k front : ℕ) (f : Frame) →
      claim_answer write (after (happens write) events).server names reading first second ≡ Job s k (Some f) front →
      IsSent write (run write more (happens write (after (happens write) events) (Claims names reading first second))) s k f
  -- and so is the frame that a question was answered, whose bytes the answer is
  pub asked : (write : Writer) (events more : List Event) (s : Bytes) (k reading : ℕ) (fate : Fate) (bytes : Bytes) →
      call_answer write (after (happens write) events).server (Asked (question.Frame s k)) reading fate ≡ Tells (told.Frame bytes) →
      (f : Frame) × (bytes ≡ frame_bytes f) × IsSent write (run write more (happens write (after (happens write) events) (Asks (question.Frame s k) reading fate))) s k f
  pub take : (write : Writer) (w : World) (which : ℕ) (f : Frame) (s : Bytes) (fate : Fate) → slice_get w.frames which ≡ Some f →
      IsTake w (happens write w (FrameComes which s fate)) s f fate
  -- what a crash leaves is the list behind some reopening
  pub stop : (write : Writer) (spelled : Entry → Bytes) (w : World) (opened : List Bytes) → LeavesOf spelled w.server opened →
      (which : Option ℕ) × (opened ≡ payloads spelled (happens write w (Reopens which)).server.list)
  -- of a receiver too
  pub receiver_stop : (write : Writer) (w : World) (s : Bytes) (opened : List Frame) → LeavesFrames (w.receivers s) opened →
      (which : Option ℕ) × IsOpened w (happens write w (ReceiverReopens s which)) s opened
  -- a keeper's payloads in doubt are among the entries in doubt: so it stays by each append
  pub append : (spelled : Entry → Bytes) (c : Server) (e : Entry) (fate : Fate) (x : Bytes) → StaysInDoubt fate (IsAmong spelled c.doubt x) (x ≡ spelled e) → IsAmong spelled (put c (Some e) fate).doubt x
  -- and what a crash leaves of the keeper is the list behind some reopening
  pub reopen : (write : Writer) (spelled : Entry → Bytes) (w : World) (opened : List Bytes) → Leaves (payloads spelled w.server.list) (IsAmong spelled w.server.doubt) opened →
      (which : Option ℕ) × (opened ≡ payloads spelled (happens write w (Reopens which)).server.list)
  -- both of a receiver's keeper too
  pub receiver_append : (spelled : Frame → Bytes) (r : Receiver) (f : Frame) (fate : Fate) (x : Bytes) → StaysInDoubt fate (IsAmongFrames spelled r.doubt x) (x ≡ spelled f) → IsAmongFrames spelled (accepted r f fate).doubt x
  pub receiver_reopen : (write : Writer) (spelled : Frame → Bytes) (w : World) (s : Bytes) (opened : List Bytes) → Leaves (map spelled (w.receivers s).held) (IsAmongFrames spelled (w.receivers s).doubt) opened →
      (frames : List Frame) × (opened ≡ map spelled frames) × (which : Option ℕ) × IsOpened w (happens write w (ReceiverReopens s which)) s frames
  -- events behind events are one list of events: so are runs behind runs
  pub runs : (write : Writer) (first second : List Event) (w : World) → run write (first ++ second) w ≡ run write second (run write first w)

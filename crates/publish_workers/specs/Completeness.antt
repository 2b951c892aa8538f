-- What a drain has done at whose end none of the feeds is ready.
use Rattle.std.specs.Prelude.{◌≡◌, ◌⊎◌, ◌≤◌, ◌||◌, ℕ, Bool, true, false, List, [], ◌∷◌, length, Option}
use Rattle.news_types.specs.declared.entry.Act.{Act}
use Rattle.news_types.specs.declared.entry.Act.TheVariants.{Advance, Attempt, Receipt}
use Rattle.news_types.specs.declared.entry.Entry.{Entry}
use Rattle.news_types.specs.declared.query.Ready.TheVariants.{Later}
use Rattle.news_types.specs.Names.{Bytes, same, is_in}
use Rattle.news_types.specs.Members.{Each}
use Rattle.news_types.specs.History.{History, moment_at}
use Rattle.news_types.specs.Books.{Book, onto}
use Rattle.news_types.specs.Calls.{IsKept}
use Rattle.news_types.specs.Delivery.{acked, tries, is_ready, choice}
use Rattle.news_types.specs.Feeds.{feed}
use Rattle.news_types.specs.Frames.{Frame, frame_bytes}
use Rattle.news_types.specs.Receiver.{taken}
use Rattle.news_io.specs.Faults.{Rose}
use Rattle.news_io.specs.Keeper.{KeeperMeaning}
use Rattle.feed_receiver.specs.Spelling.{receipt_bytes}
use Rattle.news_room.specs.declared.claim.Claimed.{Claimed}
use Rattle.news_room.specs.declared.room.Room.{Room}
use Rattle.publish_workers.specs.declared.worked.Worked.{Worked}
use Rattle.publish_workers.specs.declared.worked.Worked.TheVariants.{Idle, NoReceipt, LinkFault}
use Rattle.publish_workers.specs.declared.drain.Drained as ends
use Rattle.publish_workers.specs.declared.drain.Drained.{Drained}
use Rattle.publish_workers.specs.Links.{CountsFaults}
use Rattle.publish_workers.specs.Turns.{Exchange, Unsent, Unread, Replied, Receipted, Turn, word}
use Rattle.publish_workers.specs.Drains.{AllReported, lost_in, refused_in, IsEnd, is_store_end, CountsLink, DrainHappens}

-- ---- what is acknowledged

-- the subscriber's whole feed is
abbrev pub IsAcknowledged : History → Bytes → Type 0
IsAcknowledged h s = length (feed h s) ≤ acked h s

-- at the moment none of these feeds is ready: all without failed tries are acknowledged
pub record NoneReady (h : History) (names : List Bytes) (m : ℕ) : Type 0 where
  pub next : Option ℕ
  pub choice_is : choice h names m ≡ Later next
  pub none : (s : Bytes) → is_in s names ≡ true → is_ready h s m ≡ false
  pub done : (s : Bytes) → is_in s names ≡ true → tries h s ≡ 0 → IsAcknowledged h s

-- the feed is ready at the moment, or has no failed tries
abbrev pub MayBeSent : History → Bytes → ℕ → Type 0
MayBeSent h s m = (tries h s ≡ 0) ⊎ (is_ready h s m ≡ true)

-- ---- a receiver

-- a receiver of this name that holds the old frames takes the one with number k and these bytes, and keeps it if it is the next
pub record Takes (s : Bytes) (k : ℕ) (frame : Bytes) (old new : List Frame) : Type 0 where
  pub payload : Bytes
  pub is : frame ≡ frame_bytes (record { to = s; k = k; payload = payload })
  pub holds : new ≡ (taken s (record { held = old; doubt = [] }) (record { to = s; k = k; payload = payload }) IsKept).held

-- it takes the frame that is sent to it, and its receipt is the reply that is read; where the link fails, it may have taken it or not
abbrev pub AnswersFrame : Bytes → ℕ → Bytes → Exchange → List Frame → List Frame → Type 0
AnswersFrame s k frame Unsent old new = (new ≡ old) ⊎ Takes s k frame old new
AnswersFrame s k frame Unread old new = (new ≡ old) ⊎ Takes s k frame old new
AnswersFrame s k frame (Replied reply) old new = Takes s k frame old new × (reply ≡ receipt_bytes s (length new))
AnswersFrame s k frame (Receipted reply n at kept) old new = Takes s k frame old new × (reply ≡ receipt_bytes s (length new))

-- frames for others do not reach it
abbrev pub AnswersClaim : Bytes → Claimed → Exchange → List Frame → List Frame → Type 0
AnswersClaim s (Claimed.Job r k frame front) exchange old new = (r ≡ s → AnswersFrame s k frame exchange old new) × ((r ≡ s → ⊥) → new ≡ old)
AnswersClaim s (Claimed.Idle next) exchange old new = new ≡ old
AnswersClaim s Claimed.Fault exchange old new = new ≡ old
AnswersClaim s (Claimed.Full size count) exchange old new = new ≡ old
AnswersClaim s Claimed.Memory exchange old new = new ≡ old

-- so in each of these turns
abbrev pub Answers : Bytes → List Frame → List Turn → List Frame → Type 0
Answers s first [] now = now ≡ first
Answers s first (t ∷ ts) now = (before : List Frame) × Answers s first ts before × AnswersClaim s t.claimed t.exchange before now

-- It holds at first no less of its feed than is acknowledged, and no more than the feed has; and it answers so in each of these turns.
pub record HasReceiver (h : History) (s : Bytes) (ts : List Turn) : Type 0 where
  pub first : List Frame
  pub now : List Frame
  pub least : acked h s ≤ length first
  pub most : length first ≤ length (feed h s)
  pub answers : Answers s first ts now

-- ---- turns of one subscriber

abbrev pub is_lost_to : Bytes → Worked → Bool
is_lost_to s (LinkFault r k) = same r s
is_lost_to s _ = false

abbrev pub is_refused_by : Bytes → Worked → Bool
is_refused_by s (NoReceipt r k reply) = same r s
is_refused_by s _ = false

-- the link failed at one of its frames in these turns; the reply to one of them was no receipt
abbrev pub lost_to : Bytes → List Turn → Bool
lost_to s [] = false
lost_to s (t ∷ ts) = lost_to s ts || is_lost_to s (word t)

abbrev pub refused_by : Bytes → List Turn → Bool
refused_by s [] = false
refused_by s (t ∷ ts) = refused_by s ts || is_refused_by s (word t)

-- ---- the laws

-- the end of a drain that had nothing against it
abbrev pub IsFree : Drained → Type 0
IsFree (ends.Drained.Idle link_failed no_receipt) = Unit {0}
IsFree ends.Drained.StoreFault = Unit {0}
IsFree ends.Drained.OutputFault = ⊥
IsFree (ends.Drained.Full size count) = ⊥
IsFree ends.Drained.Memory = ⊥

-- a tick, an attempt or a receipt
abbrev pub Delivers : Act → Type 0
Delivers Advance = Unit {0}
Delivers (Attempt s k) = Unit {0}
Delivers (Receipt s n) = Unit {0}
Delivers _ = ⊥

module _ {K : Type 0} (keeper : KeeperMeaning K) where
  -- a drain adds no other entries
  abbrev pub DrainsOnlyDeliver : Type 0
  DrainsOnlyDeliver = (old new : Room K) (b : Book) (names : List Bytes) (t : Turn) (ts : List Turn) (more : List Entry) → DrainHappens keeper old new b names t ts more → Each (λ (e : Entry). Delivers e.act) more

  -- behind a drain whose last turn found none ready, none is
  abbrev pub IdlesAreDone : Type 0
  IdlesAreDone = (old new : Room K) (b : Book) (names : List Bytes) (t : Turn) (ts : List Turn) (more : List Entry) (next : Option ℕ) → DrainHappens keeper old new b names t ts more → word t ≡ Idle next
      → NoneReady (onto more b).list names (moment_at (onto more b).list t.reading)

  -- Behind such a drain a subscriber's whole feed is acknowledged where the link failed at none of its frames and the reply to each was its
  -- receipt, if it had no failed tries at the start, or their delay was over at the last turn.
  abbrev pub FeedsAreDelivered : Type 0
  FeedsAreDelivered = (old new : Room K) (b : Book) (names : List Bytes) (t : Turn) (ts : List Turn) (more : List Entry) (next : Option ℕ) → DrainHappens keeper old new b names t ts more → AllReported ts → word t ≡ Idle next
      → (s : Bytes) → is_in s names ≡ true → lost_to s ts ≡ false → refused_by s ts ≡ false → MayBeSent b.list s (moment_at (onto more b).list t.reading) → IsAcknowledged (onto more b).list s

  -- of a receiver that answers as it should no reply is refused, whatever the link does and the others answer
  abbrev pub RepliesAreReceipts : Type 0
  RepliesAreReceipts = (old new : Room K) (b : Book) (names : List Bytes) (t : Turn) (ts : List Turn) (more : List Entry) → DrainHappens keeper old new b names t ts more → AllReported ts
      → (s : Bytes) → HasReceiver b.list s ts → refused_by s ts ≡ false

  -- Where no count of the keeper or the link rises, nothing is full, there is memory, the output does not fail and each receiver answers as it
  -- should, the drain ends with none ready, none lost and none refused, and every such feed is acknowledged.
  abbrev pub DrainsAreComplete : Type 0
  DrainsAreComplete = (old new : Room K) (b : Book) (names : List Bytes) (t : Turn) (ts : List Turn) (more : List Entry) (d : Drained) (link later_link : ℕ) → DrainHappens keeper old new b names t ts more → AllReported ts
      → IsEnd (lost_in ts) (refused_in ts) (word t) d → CountsLink d link later_link → CountsFaults (is_store_end d) (keeper.faults old.keeper) (keeper.faults new.keeper)
      → (Rose link later_link → ⊥) → (Rose (keeper.faults old.keeper) (keeper.faults new.keeper) → ⊥) → IsFree d → ((s : Bytes) → is_in s names ≡ true → HasReceiver b.list s ts)
      → (d ≡ ends.Drained.Idle false false) × ((s : Bytes) → is_in s names ≡ true → MayBeSent b.list s (moment_at (onto more b).list t.reading) → IsAcknowledged (onto more b).list s)

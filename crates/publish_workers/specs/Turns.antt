-- One turn of a worker: what it claimed, what became of the frame, and what the turn is told as.
use Rattle.std.specs.Prelude.{◌≡◌, ℕ, Bool, true, false, List, [], ◌∷◌, if◌then◌else◌}
use Rattle.news_types.specs.Names.{Bytes}
use Rattle.news_io.specs.Link.{Passed, Sent, Said, Nothing}
use Rattle.news_room.specs.declared.claim.Claimed.{Claimed}
use Rattle.news_room.specs.declared.answers.Kept.{Kept}
use Rattle.publish_workers.specs.declared.worked.Worked.{Worked}
use Rattle.publish_workers.specs.declared.worked.Worked.TheVariants.{Delivered, Idle, NoReceipt, LinkFault, StoreFault, Full, Memory}

-- what became of a frame on its way to the subscriber and back
pub data Exchange : Type 0 where
  -- nothing was sent: there was no frame, or the link failed
  Unsent : Exchange
  -- it was sent, and then the link failed: no reply was read
  Unread : Exchange
  -- the reply is no receipt for it
  Replied : Bytes → Exchange
  -- the reply is a receipt for so many entries; at a reading of the clock it was brought to the room, which answered so
  Receipted : Bytes → ℕ → ℕ → Kept → Exchange

-- a claim at a reading of the clock, its answer, and the exchange behind it
pub record Turn : Type 0 where
  pub reading : ℕ
  pub claimed : Claimed
  pub exchange : Exchange

-- ---- the word for a turn

-- for a receipt that was brought to the room: n entries are acknowledged where it is done
abbrev pub word_of_receipt : Bytes → ℕ → Bytes → ℕ → Kept → Worked
word_of_receipt s k reply n (Kept.Done done) = Delivered s k n
word_of_receipt s k reply n (Kept.Denied denial) = NoReceipt s k reply
word_of_receipt s k reply n Kept.Fault = StoreFault
word_of_receipt s k reply n (Kept.Full size count) = Full size count

-- for the frame of the subscriber's entry k
abbrev pub word_of_frame : Bytes → ℕ → Exchange → Worked
word_of_frame s k Unsent = LinkFault s k
word_of_frame s k Unread = LinkFault s k
word_of_frame s k (Replied reply) = NoReceipt s k reply
word_of_frame s k (Receipted reply n at kept) = word_of_receipt s k reply n kept

abbrev pub word_of : Claimed → Exchange → Worked
word_of (Claimed.Job s k frame front) exchange = word_of_frame s k exchange
word_of (Claimed.Idle next) exchange = Idle next
word_of Claimed.Fault exchange = StoreFault
word_of (Claimed.Full size count) exchange = Full size count
word_of Claimed.Memory exchange = Memory

abbrev pub word : Turn → Worked
word t = word_of t.claimed t.exchange

-- the words of a failed link, of a reply that is no receipt, and of a failed keeper
abbrev pub is_link_fault : Worked → Bool
is_link_fault (LinkFault s k) = true
is_link_fault _ = false

abbrev pub is_no_receipt : Worked → Bool
is_no_receipt (NoReceipt s k reply) = true
is_no_receipt _ = false

abbrev pub is_store_fault : Worked → Bool
is_store_fault StoreFault = true
is_store_fault _ = false

-- ---- what passed over the link, each with its subscriber

abbrev pub is_sent : Exchange → Bool
is_sent Unsent = false
is_sent Unread = true
is_sent (Replied reply) = true
is_sent (Receipted reply n at kept) = true

abbrev pub frames_to : Bytes → Bytes → Exchange → List (Bytes × Bytes)
frames_to s frame exchange = if is_sent exchange then (s, frame) ∷ [] else []

-- the frame of the claim, where the link took it
abbrev pub frames_of : Claimed → Exchange → List (Bytes × Bytes)
frames_of (Claimed.Job s k frame front) exchange = frames_to s frame exchange
frames_of (Claimed.Idle next) exchange = []
frames_of Claimed.Fault exchange = []
frames_of (Claimed.Full size count) exchange = []
frames_of Claimed.Memory exchange = []

-- this reply was read
abbrev pub IsReplied : Bytes → Exchange → Type 0
IsReplied bytes Unsent = ⊥
IsReplied bytes Unread = ⊥
IsReplied bytes (Replied reply) = reply ≡ bytes
IsReplied bytes (Receipted reply n at kept) = reply ≡ bytes

abbrev pub replies_from : Bytes → Exchange → List (Bytes × Bytes)
replies_from s Unsent = []
replies_from s Unread = []
replies_from s (Replied reply) = (s, reply) ∷ []
replies_from s (Receipted reply n at kept) = (s, reply) ∷ []

-- the reply to it, where one was read
abbrev pub replies_of : Claimed → Exchange → List (Bytes × Bytes)
replies_of (Claimed.Job s k frame front) exchange = replies_from s exchange
replies_of (Claimed.Idle next) exchange = []
replies_of Claimed.Fault exchange = []
replies_of (Claimed.Full size count) exchange = []
replies_of Claimed.Memory exchange = []

-- what passed in the calls of the exchange, in order

abbrev pub passed_with : Bytes → Bytes → Exchange → List Passed
passed_with s frame Unsent = Nothing ∷ []
passed_with s frame Unread = Sent s frame ∷ Nothing ∷ []
passed_with s frame (Replied reply) = Sent s frame ∷ Said s reply ∷ []
passed_with s frame (Receipted reply n at kept) = Sent s frame ∷ Said s reply ∷ []

-- without a frame there is no call
abbrev pub passed_of : Claimed → Exchange → List Passed
passed_of (Claimed.Job s k frame front) exchange = passed_with s frame exchange
passed_of (Claimed.Idle next) exchange = []
passed_of Claimed.Fault exchange = []
passed_of (Claimed.Full size count) exchange = []
passed_of Claimed.Memory exchange = []

-- ---- the readings of the clock, in order

abbrev pub receipt_readings : Exchange → List ℕ
receipt_readings Unsent = []
receipt_readings Unread = []
receipt_readings (Replied reply) = []
receipt_readings (Receipted reply n at kept) = at ∷ []

abbrev pub readings : Turn → List ℕ
readings t = t.reading ∷ receipt_readings t.exchange

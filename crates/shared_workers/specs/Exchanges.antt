-- What becomes of the frame that a claim gave.
use Rattle.std.specs.Prelude.{◌≡◌, ℕ, Bool, true, false, List, [], ◌∷◌, Result, Ok, Err}
use Rattle.news_types.specs.Names.{Bytes, is_in}
use Rattle.news_io.specs.Link.{LinkMeaning, Sent, Said}
use Rattle.room_lock.specs.Passes.{At}
use Rattle.news_room.specs.declared.answers.Kept.{Kept}
use Rattle.news_room.specs.declared.claim.Claimed.{Claimed}
use Rattle.publish_workers.specs.declared.worked.Worked.{Worked}
use Rattle.publish_workers.specs.Links.{Passes}
use Rattle.publish_workers.specs.Receipts.{IsReceiptFor}
use Rattle.publish_workers.specs.Steps.{IsReceiptAnswer}
use Rattle.publish_workers.specs.Turns.{Exchange, Unsent, Unread, Replied, Receipted, word_of, is_link_fault, frames_of, replies_of, passed_of}
use Rattle.shared_workers.specs.declared.exchange.Receipt.{Receipt}
use Rattle.shared_workers.specs.Steps.{KeptBy}

-- ---- with the turn of the lock behind it

-- The reply is a receipt for entry k or later ones, and one call brought it to the room. By the list which that call found it counts, or it counts as none.
pub record Brought (s : Bytes) (k : ℕ) (reply : Bytes) (n at : ℕ) (kept : Kept) (calls : List (At × At)) : Type 0 where
  pub call : At × At
  pub calls_are : calls ≡ call ∷ []
  pub receipt : IsReceiptFor s k n reply
  pub kept_by : KeptBy at s n call.0 kept call.1
  pub counts : IsReceiptAnswer call.0.book.list s k reply n kept

-- the exchange of the frame of a subscriber's entry k, by what the calls behind the claim's found and left. A reply that is brought to no call is no receipt for that
-- entry or later ones, however long the feed is
abbrev pub Carried : Bytes → ℕ → Exchange → List (At × At) → Type 0
Carried s k Unsent calls = calls ≡ []
Carried s k Unread calls = calls ≡ []
Carried s k (Replied reply) calls = (calls ≡ []) × ((j : ℕ) → IsReceiptFor s k j reply → ⊥)
Carried s k (Receipted reply n at kept) calls = Brought s k reply n at kept calls

-- the exchange of a claim: of one that gave no frame there is none
abbrev pub Exchanged : Claimed → Exchange → List (At × At) → Type 0
Exchanged (Claimed.Job s k frame front) exchange calls = Carried s k exchange calls
Exchanged (Claimed.Idle next) exchange calls = (exchange ≡ Unsent) × (calls ≡ [])
Exchanged Claimed.Fault exchange calls = (exchange ≡ Unsent) × (calls ≡ [])
Exchanged (Claimed.Full size count) exchange calls = (exchange ≡ Unsent) × (calls ≡ [])
Exchanged Claimed.Memory exchange calls = (exchange ≡ Unsent) × (calls ≡ [])

-- ---- outside the lock

-- whose frame it is, is one of these
abbrev pub is_served : List Bytes → Claimed → Bool
is_served names (Claimed.Job s k frame front) = is_in s names
is_served names (Claimed.Idle next) = true
is_served names Claimed.Fault = true
is_served names (Claimed.Full size count) = true
is_served names Claimed.Memory = true

module _ {L : Type 0} (link : LinkMeaning L) (old new : L) (claimed : Claimed) where
  -- the frame was sent, and the reply is this receipt for it
  pub record Comes (r : Receipt) : Type 0 where
    pub frame : Bytes
    pub front : ℕ
    pub claimed_is : claimed ≡ Claimed.Job r.subscriber r.k frame front
    pub receipt : IsReceiptFor r.subscriber r.k r.n r.reply
    pub passes : link.tells old → Passes link old new ((r.subscriber, frame) ∷ []) ((r.subscriber, r.reply) ∷ []) (Sent r.subscriber frame ∷ Said r.subscriber r.reply ∷ [])

  -- no receipt came, and the turn has come to this
  pub record Ends (worked : Worked) : Type 0 where
    pub exchange : Exchange
    pub word_is : worked ≡ word_of claimed exchange
    pub exchanged : Exchanged claimed exchange []
    pub passes : link.tells old → Passes link old new (frames_of claimed exchange) (replies_of claimed exchange) (passed_of claimed exchange)

-- the link has failed
abbrev pub is_lost : Result Receipt Worked → Bool
is_lost (Ok r) = false
is_lost (Err worked) = is_link_fault worked

-- What a turn makes of a room.
use Rattle.std.specs.Prelude.{◌≡◌, ℕ, true, List, [], ◌++◌}
use Rattle.news_types.specs.declared.entry.Entry.{Entry}
use Rattle.news_types.specs.Names.{Bytes}
use Rattle.news_types.specs.History.{History, moment_at}
use Rattle.news_types.specs.Books.{Book, onto}
use Rattle.news_types.specs.Calls as call
use Rattle.news_types.specs.Calls.{follow}
use Rattle.news_io.specs.Keeper.{KeeperMeaning}
use Rattle.news_room.specs.Claims.{ClaimStep, ClaimHappens, claim_entries}
use Rattle.news_room.specs.Events.{Happens}
use Rattle.news_room.specs.Said.{said_kept}
use Rattle.news_room.specs.Stands.{Stands, numbers}
use Rattle.news_room.specs.Steps.{ReceiptStep, ToldStep, entries}
use Rattle.news_room.specs.declared.answers.Kept.{Kept}
use Rattle.news_room.specs.declared.claim.Claimed.{Claimed}
use Rattle.news_room.specs.declared.room.Room.{Room}
use Rattle.publish_workers.specs.Events.{IsTurnOfWorld}
use Rattle.publish_workers.specs.Receipts.{Acknowledges}
use Rattle.publish_workers.specs.Turns.{Exchange, Unsent, Unread, Replied, Receipted, Turn, word, is_store_fault}

-- ---- the entries that should follow, oldest first

-- the receipt's, where one came that raises what is acknowledged
abbrev pub receipt_entries : History → Bytes → Exchange → List Entry
receipt_entries g s Unsent = []
receipt_entries g s Unread = []
receipt_entries g s (Replied reply) = []
receipt_entries g s (Receipted reply n at kept) = entries (follow g (call.Receipted s n) (moment_at g at))

-- behind a claim that left this list
abbrev pub later_entries : History → Claimed → Exchange → List Entry
later_entries g (Claimed.Job s k frame front) exchange = receipt_entries g s exchange
later_entries g (Claimed.Idle next) exchange = []
later_entries g Claimed.Fault exchange = []
later_entries g (Claimed.Full size count) exchange = []
later_entries g Claimed.Memory exchange = []

-- those of a turn whose claim kept these: the claim's, and then the receipt's
abbrev pub turn_entries : Book → List Bytes → Turn → List Entry → List Entry
turn_entries b names t claimed = claim_entries b.list names (moment_at b.list t.reading) ++ later_entries (onto claimed b).list t.claimed t.exchange

-- ---- which replies are receipts

abbrev pub IsReceiptAnswer : History → Bytes → ℕ → Bytes → ℕ → Kept → Type 0
IsReceiptAnswer g s k reply n (Kept.Done done) = Acknowledges g s k n reply
IsReceiptAnswer g s k reply n (Kept.Denied denial) = (j : ℕ) → Acknowledges g s k j reply → ⊥
IsReceiptAnswer g s k reply n Kept.Fault = Acknowledges g s k n reply
IsReceiptAnswer g s k reply n (Kept.Full size count) = Acknowledges g s k n reply

-- a reply counts as no receipt exactly where it acknowledges entry k with no number up to the feed's length in the list that the claim left
abbrev pub IsReply : History → Bytes → ℕ → Exchange → Type 0
IsReply g s k Unsent = Unit {0}
IsReply g s k Unread = Unit {0}
IsReply g s k (Replied reply) = (j : ℕ) → Acknowledges g s k j reply → ⊥
IsReply g s k (Receipted reply n at kept) = IsReceiptAnswer g s k reply n kept

module _ {K : Type 0} (keeper : KeeperMeaning K) where
  -- ---- the room behind the claim, and behind the turn

  -- only a receipt changes the room behind the claim: it is brought to it as any other, and adds these entries
  abbrev pub ExchangeStep : Room K → Room K → Book → Bytes → Exchange → List Entry → Type 0
  ExchangeStep between new b s Unsent more = (new ≡ between) × (more ≡ [])
  ExchangeStep between new b s Unread more = (new ≡ between) × (more ≡ [])
  ExchangeStep between new b s (Replied reply) more = (new ≡ between) × (more ≡ [])
  ExchangeStep between new b s (Receipted reply n at kept) more = Happens keeper between new b more (call.Receipted s n) at (said_kept kept) (ReceiptStep (numbers keeper between new) b at s n more kept)

  -- the exchange of a claim that left the room so: of a claim that gave no frame there is none
  abbrev pub Exchanges : Room K → Room K → Book → Claimed → Exchange → List Entry → Type 0
  Exchanges between new b (Claimed.Job s k frame front) exchange more = ExchangeStep between new b s exchange more × IsReply b.list s k exchange
  Exchanges between new b (Claimed.Idle next) exchange more = (exchange ≡ Unsent) × (new ≡ between) × (more ≡ [])
  Exchanges between new b Claimed.Fault exchange more = (exchange ≡ Unsent) × (new ≡ between) × (more ≡ [])
  Exchanges between new b (Claimed.Full size count) exchange more = (exchange ≡ Unsent) × (new ≡ between) × (more ≡ [])
  Exchanges between new b Claimed.Memory exchange more = (exchange ≡ Unsent) × (new ≡ between) × (more ≡ [])

  -- A turn of a room that stood for the book, over a link to these subscribers: its claim added the first entries and left the room between,
  -- the exchange added the others. The room stands for the book with all of them, and the turn is a list of events of the world. Where the
  -- keeper tells its list, so is what a crash may leave, at any moment of the turn and behind it.
  pub record TurnHappens (old between new : Room K) (b : Book) (names : List Bytes) (t : Turn) (first later : List Entry) : Type 0 where
    pub claim : ClaimHappens keeper old between b first names t.reading t.claimed (ClaimStep (numbers keeper old between) b t.reading names first t.claimed)
    pub exchange : Exchanges between new (onto first b) t.claimed t.exchange later
    pub stands : Stands keeper new (onto (first ++ later) b)
    pub events : IsTurnOfWorld keeper old new b (first ++ later) names t
    pub told : b.told ≡ true → ToldStep keeper old new b (turn_entries b names t first) (first ++ later) (is_store_fault (word t))

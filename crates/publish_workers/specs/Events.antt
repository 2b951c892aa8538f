-- A turn as events of the world.
use Rattle.std.specs.Prelude.{◌≡◌, ℕ, List, [], ◌∷◌, Some, if◌then◌else◌}
use Rattle.std.specs.List.{slice_get}
use Rattle.news_types.specs.declared.entry.Entry.{Entry}
use Rattle.news_types.specs.Names.{Bytes}
use Rattle.news_types.specs.Books.{Book, onto}
use Rattle.news_types.specs.Frames.{Frame, Writer, frame_bytes}
use Rattle.news_types.specs.Calls.{Receipted as BroughtReceipt, Fate}
use Rattle.news_types.specs.Server.{call_answer, claim_answer}
use Rattle.feed_frames.specs.Writer.{the_writer}
use Rattle.news_io.specs.Keeper.{KeeperMeaning}
use Rattle.news_room.specs.Claims.{IsSaid}
use Rattle.news_room.specs.Events.{Serves}
use Rattle.news_room.specs.Said.{said_kept}
use Rattle.news_room.specs.declared.claim.Claimed.{Claimed}
use Rattle.news_room.specs.declared.room.Room.{Room}
use Rattle.world_laws.specs.World.{World, Event, Claims, Sends, ReceiptComes, Forges, run}
use Rattle.publish_workers.specs.Turns.{Exchange, Unsent, Unread, Replied, Receipted, Turn, is_sent, frames_of}

-- the sending of the claim's frame, where the link took it
abbrev pub sendings : Claimed → Exchange → List Event
sendings (Claimed.Job s k frame front) exchange = if is_sent exchange then Sends s k ∷ [] else []
sendings (Claimed.Idle next) exchange = []
sendings Claimed.Fault exchange = []
sendings (Claimed.Full size count) exchange = []
sendings Claimed.Memory exchange = []

-- the events with which a turn begins: its claim, with what becomes of the tick's entry and of the attempt, and the sending
abbrev pub beginning : List Bytes → Turn → Fate → Fate → List Event
beginning names t first second = Claims names t.reading first second ∷ sendings t.claimed t.exchange

-- the event brings a subscriber's receipt for n entries to the server: one that a receiver sent, or a forged one
pub data Brings (w : World) (s : Bytes) (n reading : ℕ) (fate : Fate) : Event → Type 0 where
  WasSent : (which : ℕ) → slice_get w.receipts which ≡ Some (record { from = s; count = n }) → Brings w s n reading fate (ReceiptComes which reading fate)
  IsForged : Brings w s n reading fate (Forges s n reading fate)

-- these events bring the receipt of a frame's exchange: none where there is none
abbrev pub BringReceipt : World → Bytes → Exchange → Fate → List Event → Type 0
BringReceipt w s Unsent fate events = events ≡ []
BringReceipt w s Unread fate events = events ≡ []
BringReceipt w s (Replied reply) fate events = events ≡ []
BringReceipt w s (Receipted reply n at kept) fate events = (last : Event) × (events ≡ last ∷ []) × Brings w s n at fate last

-- the events with which a turn ends: the arrival of the receipt, where one came
abbrev pub IsEnding : World → Claimed → Exchange → Fate → List Event → Type 0
IsEnding w (Claimed.Job s k frame front) exchange fate events = BringReceipt w s exchange fate events
IsEnding w (Claimed.Idle next) exchange fate events = events ≡ []
IsEnding w Claimed.Fault exchange fate events = events ≡ []
IsEnding w (Claimed.Full size count) exchange fate events = events ≡ []
IsEnding w Claimed.Memory exchange fate events = events ≡ []

-- the frames that were sent are the world's: one frame more, with these bytes, or none
abbrev pub AreSent : List (Bytes × Bytes) → World → World → Type 0
AreSent [] old new = new.frames ≡ old.frames
AreSent (sent ∷ more) old new = (f : Frame) × (sent.1 ≡ frame_bytes f) × (new.frames ≡ f ∷ old.frames) × (more ≡ [])

-- what the world answers to the receipt of a frame's exchange
abbrev pub IsAnswered : Writer → World → Bytes → Exchange → Fate → Type 0
IsAnswered write w s Unsent fate = Unit {0}
IsAnswered write w s Unread fate = Unit {0}
IsAnswered write w s (Replied reply) fate = Unit {0}
IsAnswered write w s (Receipted reply n at kept) fate = call_answer write w.server (BroughtReceipt s n) at fate ≡ said_kept kept

abbrev pub AnswersReceipt : Writer → World → Claimed → Exchange → Fate → Type 0
AnswersReceipt write w (Claimed.Job s k frame front) exchange fate = IsAnswered write w s exchange fate
AnswersReceipt write w (Claimed.Idle next) exchange fate = Unit {0}
AnswersReceipt write w Claimed.Fault exchange fate = Unit {0}
AnswersReceipt write w (Claimed.Full size count) exchange fate = Unit {0}
AnswersReceipt write w Claimed.Memory exchange fate = Unit {0}

module _ {K : Type 0} (keeper : KeeperMeaning K) where
  -- A turn over a link to these subscribers is these events of the world: its claim, the sending of the frame, and the arrival of the
  -- receipt. Behind the sending anything else may happen that leaves the server as it is. Publications are written as those of this
  -- store are.
  pub record IsTurnOfWorld (old new : Room K) (b : Book) (more : List Entry) (names : List Bytes) (t : Turn) : Type 0 where
    -- what becomes of the tick's entry, of the attempt and of the receipt
    pub first : Fate
    pub second : Fate
    pub third : Fate
    -- the claim is answered as the world answers it
    pub claimed : (w : World) → Serves keeper old b w.server → IsSaid t.claimed (claim_answer (the_writer b.store) w.server names t.reading first second)
    -- what the link took is the frame that the world sends
    pub sent : (w : World) → Serves keeper old b w.server → AreSent (frames_of t.claimed t.exchange) w (run (the_writer b.store) (beginning names t first second) w)
    -- so is the receipt
    pub received : (w : World) (others : List Event) → Serves keeper old b w.server →
        let begun : World = run (the_writer b.store) (beginning names t first second) w in
        let behind : World = run (the_writer b.store) others begun in
        behind.server ≡ begun.server → AnswersReceipt (the_writer b.store) behind t.claimed t.exchange third
    -- each server that the room serves becomes one that it serves behind the turn
    pub serves : (w : World) (others ending : List Event) → Serves keeper old b w.server →
        let begun : World = run (the_writer b.store) (beginning names t first second) w in
        let behind : World = run (the_writer b.store) others begun in
        behind.server ≡ begun.server → IsEnding behind t.claimed t.exchange third ending → Serves keeper new (onto more b) (run (the_writer b.store) ending behind).server

-- Drains over a link to receivers in memory: what the receivers hold behind them.
use Rattle.std.specs.Prelude.{◌≡◌, ◌≤◌, ◌&&◌, ◌||◌, ℕ, Bool, true, false, List, [], ◌∷◌, length, slice_get, Option, Some}
use Rattle.std.specs.Option.{option_and_then}
use Rattle.news_types.specs.declared.entry.Entry.{Entry}
use Rattle.news_types.specs.Names.{Bytes, same, is_in}
use Rattle.news_types.specs.History.{History, moment_at}
use Rattle.news_types.specs.Books.{Book, onto}
use Rattle.news_types.specs.Delivery.{acked}
use Rattle.news_types.specs.Feeds.{feed}
use Rattle.news_io.specs.Faults.{Rose}
use Rattle.news_io.specs.Keeper.{KeeperMeaning}
use Rattle.news_io.specs.Link.{Goes}
use Rattle.feed_receiver.specs.Holds.{Received}
use Rattle.feed_links.specs.declared.memory_link.MemoryLink.{MemoryLink}
use Rattle.feed_links.specs.Links.{AllHold, memory_link}
use Rattle.feed_links.specs.Receivers.{place}
use Rattle.news_room.specs.declared.claim.Claimed.{Claimed}
use Rattle.news_room.specs.declared.room.Room.{Room}
use Rattle.publish_workers.specs.declared.worked.Worked.TheVariants.{Idle}
use Rattle.publish_workers.specs.declared.drain.Drained as ends
use Rattle.publish_workers.specs.declared.drain.Drained.{Drained}
use Rattle.publish_workers.specs.Links.{CountsFaults}
use Rattle.publish_workers.specs.Turns.{Exchange, Replied, Receipted, Turn, word}
use Rattle.publish_workers.specs.Drains.{AllReported, all_passed, lost_in, refused_in, IsEnd, is_store_end, CountsLink, DrainHappens}
use Rattle.publish_workers.specs.Completeness.{MayBeSent, HasReceiver, lost_to, refused_by, IsFree}

-- ---- how far a receiver is

-- the subscribers that a link serves, and how often it failed
abbrev pub names_of : {R : Type 0} → MemoryLink R → List Bytes
names_of link = link.names

abbrev pub fault_count : {R : Type 0} → MemoryLink R → ℕ
fault_count link = link.calls.faults

-- what a subscriber's receiver holds, where these are held by the receivers of these names
abbrev pub received_by : List Bytes → List Received → Bytes → Option Received
received_by names held s = option_and_then (slice_get held) (place s names)

-- The subscriber's receiver has its name. It holds no fewer frames than are acknowledged, and no more than the feed has entries.
pub record KeepsPace (h : History) (names : List Bytes) (held : List Received) (s : Bytes) : Type 0 where
  pub receiver : Received
  pub there : received_by names held s ≡ Some receiver
  pub name : receiver.name ≡ s
  pub least : acked h s ≤ length receiver.frames
  pub most : length receiver.frames ≤ length (feed h s)

-- it holds a frame for each entry of the feed, and all of them are acknowledged
pub record HoldsAll (h : History) (names : List Bytes) (held : List Received) (s : Bytes) : Type 0 where
  pub receiver : Received
  pub there : received_by names held s ≡ Some receiver
  pub name : receiver.name ≡ s
  pub all : length receiver.frames ≡ length (feed h s)
  pub acknowledged : acked h s ≡ length (feed h s)

-- ---- empty replies

-- the reply that was read has no bytes, as that of a receiver which did not keep the frame
abbrev pub is_silent : Exchange → Bool
is_silent (Replied []) = true
is_silent (Receipted [] n at kept) = true
is_silent _ = false

abbrev pub is_silent_to : Bytes → Claimed → Exchange → Bool
is_silent_to s (Claimed.Job r k frame front) exchange = same r s && is_silent exchange
is_silent_to s _ exchange = false

-- that to one of the subscriber's frames in these turns has none
abbrev pub silent_to : Bytes → List Turn → Bool
silent_to s [] = false
silent_to s (t ∷ ts) = silent_to s ts || is_silent_to s t.claimed t.exchange

-- ---- the laws

module _ {K R : Type 0} (keeper : KeeperMeaning K) (receivers : KeeperMeaning R) where
  -- a drain over a link whose receivers held these at first: what passed in its calls made of the link what it is behind the drain
  pub record DrainsMemory (old new : Room K) (b : Book) (t : Turn) (ts : List Turn) (more : List Entry) (link later : MemoryLink R) (held : List Received) : Type 0 where
    pub happens : DrainHappens keeper old new b (names_of link) t ts more
    pub reported : AllReported ts
    pub goes : Goes (memory_link receivers) link later (all_passed (t ∷ ts))
    pub first : AllHold receivers link held

  -- Whatever fails in the drain, each receiver that kept pace before it keeps pace behind it.
  abbrev pub ReceiversKeepPace : Type 0
  ReceiversKeepPace = (old new : Room K) (b : Book) (t : Turn) (ts : List Turn) (more : List Entry) (link later : MemoryLink R) (held : List Received) → DrainsMemory old new b t ts more link later held
      → (now : List Received) × AllHold receivers later now × ((s : Bytes) → KeepsPace b.list (names_of link) held s → KeepsPace (onto more b).list (names_of link) now s)

  -- Behind a drain whose last turn found none ready, such a receiver holds the whole feed, and all of it is acknowledged, where the link failed
  -- at none of its frames and the reply to each was its receipt, if there were no failed tries at the start, or their delay was over at the
  -- last turn.
  abbrev pub ReceiversHoldAll : Type 0
  ReceiversHoldAll = (old new : Room K) (b : Book) (t : Turn) (ts : List Turn) (more : List Entry) (link later : MemoryLink R) (held : List Received) (next : Option ℕ) → DrainsMemory old new b t ts more link later held → word t ≡ Idle next
      → (now : List Received) × AllHold receivers later now × ((s : Bytes) → KeepsPace b.list (names_of link) held s → lost_to s ts ≡ false → refused_by s ts ≡ false
      → MayBeSent b.list s (moment_at (onto more b).list t.reading) → HoldsAll (onto more b).list (names_of link) now s)

  -- such a receiver answers as it should, unless a reply of it was empty
  abbrev pub ReceiversAnswer : Type 0
  ReceiversAnswer = (old new : Room K) (b : Book) (t : Turn) (ts : List Turn) (more : List Entry) (link later : MemoryLink R) (held : List Received) → DrainsMemory old new b t ts more link later held
      → (s : Bytes) → KeepsPace b.list (names_of link) held s → silent_to s ts ≡ false → HasReceiver b.list s ts

  -- Where no count of the keeper or the link rises, nothing is full, there is memory, the output does not fail, each receiver kept pace and no
  -- reply was empty, the drain ends with none ready, none lost and none refused, and every such receiver holds its whole feed.
  abbrev pub MemoryDrainsAreComplete : Type 0
  MemoryDrainsAreComplete = (old new : Room K) (b : Book) (t : Turn) (ts : List Turn) (more : List Entry) (link later : MemoryLink R) (held : List Received) (d : Drained) → DrainsMemory old new b t ts more link later held
      → IsEnd (lost_in ts) (refused_in ts) (word t) d → CountsLink d (fault_count link) (fault_count later) → CountsFaults (is_store_end d) (keeper.faults old.keeper) (keeper.faults new.keeper)
      → (Rose (fault_count link) (fault_count later) → ⊥) → (Rose (keeper.faults old.keeper) (keeper.faults new.keeper) → ⊥) → IsFree d
      → ((s : Bytes) → is_in s (names_of link) ≡ true → KeepsPace b.list (names_of link) held s × (silent_to s ts ≡ false))
      → (d ≡ ends.Drained.Idle false false) × ((now : List Received) × AllHold receivers later now × ((s : Bytes) → is_in s (names_of link) ≡ true → MayBeSent b.list s (moment_at (onto more b).list t.reading) → HoldsAll (onto more b).list (names_of link) now s))

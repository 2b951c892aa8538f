-- What each link means: the one in memory tells its frames and replies, the one over TCP nothing.
use Rattle.std.specs.Prelude.{◌≡◌, List, [], slice_get, Option}
use Rattle.std.specs.List.{AllZip}
use Rattle.std.specs.Option.{option_and_then}
use Rattle.news_types.specs.Names.{Bytes}
use Rattle.news_io.specs.Keeper.{KeeperMeaning}
use Rattle.news_io.specs.Link.{Passed, LinkMeaning}
use Rattle.feed_receiver.specs.declared.receiver.Receiver.{Receiver}
use Rattle.feed_receiver.specs.Holds.{Received, Holds}
use Rattle.feed_links.specs.declared.memory_link.MemoryLink.{MemoryLink}
use Rattle.feed_links.specs.declared.tcp_link.TcpLink.{TcpLink}
use Rattle.feed_links.specs.Receivers.{Passes, place}

-- the receiver that a link holds for a subscriber
abbrev pub receiver_of : {K : Type 0} → MemoryLink K → Bytes → Option (Receiver K)
receiver_of l s = option_and_then (slice_get l.receivers.items) (place s l.names)

-- its receivers hold these
abbrev pub AllHold : {K : Type 0} → KeeperMeaning K → MemoryLink K → List Received → Type 0
AllHold keeper l held = AllZip (Holds keeper) l.receivers.items held

-- A call serves the same names as before, and what passes in it makes of what the receivers held what they hold then.
pub record Moves {K : Type 0} (keeper : KeeperMeaning K) (old new : MemoryLink K) (p : Passed) : Type 0 where
  pub names : new.names ≡ old.names
  pub held : (was : List Received) → AllHold keeper old was → (now : List Received) × AllHold keeper new now × Passes old.names p (record { held = was; waits = old.reply }) (record { held = now; waits = new.reply })

-- a link to receivers in memory
abbrev pub memory_link : {K : Type 0} → KeeperMeaning K → LinkMeaning (MemoryLink K)
memory_link keeper = record {
  faults = λ l. l.calls.faults;
  serves = λ l. l.names;
  tells = λ l. (held : List Received) × AllHold keeper l held;
  sent = λ l. l.sent.items;
  said = λ l. l.said.items;
  step = λ old new p. Moves keeper old new p;
}

-- a link over TCP: it tells nothing
abbrev pub tcp_link : {R : Type 0} → LinkMeaning (TcpLink R)
tcp_link = record {
  faults = λ l. l.faults;
  serves = λ l. l.names;
  tells = λ l. ⊥;
  sent = λ l. [];
  said = λ l. [];
  step = λ old new p. ⊥;
}

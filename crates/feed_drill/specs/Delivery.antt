-- The delivery of all feeds to receivers in memory.
use Rattle.std.specs.Prelude.{◌≡◌, ℕ, List, [], false}
use Rattle.news_types.specs.declared.entry.Entry.{Entry}
use Rattle.news_types.specs.Names.{Bytes}
use Rattle.news_types.specs.Members.{Each}
use Rattle.news_types.specs.History.{moment_at}
use Rattle.news_types.specs.Books.{Book, onto}
use Rattle.news_types.specs.Delivery.{tries}
use Rattle.news_io.specs.Devices.{memory_keeper}
use Rattle.news_io.specs.declared.memory_keeper.MemoryKeeper.{MemoryKeeper}
use Rattle.news_room.specs.Stands.{Stands}
use Rattle.news_room.specs.declared.room.Room.{Room}
use Rattle.feed_receiver.specs.Holds.{Received}
use Rattle.feed_links.specs.declared.memory_link.MemoryLink.{MemoryLink}
use Rattle.feed_links.specs.Links.{AllHold}
use Rattle.publish_workers.specs.Completeness.{Delivers, NoneReady}
use Rattle.publish_workers.specs.InMemory.{names_of, KeepsPace, HoldsAll}

-- a receiver of this name that holds nothing
abbrev pub empty : Bytes → Received
empty s = record { name = s; told = false; frames = [] }

-- At this reading of the clock all feeds of a book were delivered over a link whose receivers held these at first: the room stands for the
-- book with some ticks, attempts and receipts more, none is ready then, and of each subscriber whose receiver kept pace and that had no
-- failed tries the receiver holds the whole feed, all of it acknowledged.
pub record IsDelivered (reading : ℕ) (b : Book) (held : List Received) (room : Room MemoryKeeper) (old new : MemoryLink MemoryKeeper) : Type 0 where
  pub more : List Entry
  pub stands : Stands memory_keeper room (onto more b)
  pub only : Each (λ (e : Entry). Delivers e.act) more
  pub rests : NoneReady (onto more b).list (names_of old) (moment_at (onto more b).list reading)
  pub later : List Received
  pub holds : AllHold memory_keeper new later
  pub names : names_of new ≡ names_of old
  pub each : (s : Bytes) → KeepsPace b.list (names_of old) held s → tries b.list s ≡ 0 → HoldsAll (onto more b).list (names_of old) later s

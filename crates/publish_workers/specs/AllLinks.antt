-- What drains over some links have done, where they are told with status 0.
use Rattle.std.specs.Prelude.{◌≡◌, true, List, [], ◌∷◌, ◌++◌, length, slice_get, map, Some}
use Rattle.news_types.specs.declared.entry.Entry.{Entry}
use Rattle.news_types.specs.Names.{Bytes, is_in}
use Rattle.news_types.specs.History.{History, moment_at}
use Rattle.news_types.specs.Books.{Book, onto}
use Rattle.news_io.specs.Clock.{ClockMeaning}
use Rattle.news_io.specs.Keeper.{KeeperMeaning}
use Rattle.news_io.specs.Link.{LinkMeaning}
use Rattle.news_io.specs.Sink.{SinkMeaning}
use Rattle.news_room.specs.Stands.{Stands}
use Rattle.news_room.specs.declared.room.Room.{Room}
use Rattle.publish_workers.specs.LinkDrains.{LinkDrain, IsDrained}
use Rattle.publish_workers.specs.Completeness.{MayBeSent, IsAcknowledged}

-- the entries that these drains added, oldest first
abbrev pub drains_more : List LinkDrain → List Entry
drains_more [] = []
drains_more (d ∷ ds) = drains_more ds ++ d.more

-- Behind each of these drains of a book, over links to these subscribers, each feed of its link is acknowledged to its end that had no failed
-- tries in the book, or whose delay was over at the drain's last turn.
abbrev pub EachDelivers : Book → List (List Bytes) → List LinkDrain → Type 0
EachDelivers b served [] = Unit {0}
EachDelivers b served (d ∷ ds) =
    EachDelivers b served ds
    × ((names : List Bytes) (s : Bytes) → slice_get served (length ds) ≡ Some names → is_in s names ≡ true →
    let h : History = (onto (drains_more (d ∷ ds)) b).list in
    MayBeSent b.list s (moment_at h d.last.reading) → IsAcknowledged h s)

-- drains that are told with status 0 drained every link, and each delivered its feeds
abbrev pub LinksAreDelivered : {K C O L : Type 0} → KeeperMeaning K → ClockMeaning C → SinkMeaning O → LinkMeaning L → Type 0
LinksAreDelivered {K} {C} {O} {L} keeper clock sink link = (old new : Room K) (c c' : C) (l l' : List L) (o o' : O) → (drained : IsDrained keeper clock sink link old new c c' l l' o o' 0)
    → (length drained.drains ≡ length l) × ((b : Book) → Stands keeper old b → EachDelivers b (map link.serves l) drained.drains)

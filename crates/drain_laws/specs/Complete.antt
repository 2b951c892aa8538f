-- Drains over some links against which there is nothing.
use Rattle.std.specs.Prelude.{◌≡◌, ◌⊎◌, ℕ, true, List, [], ◌∷◌, length, slice_get, map, Some}
use Rattle.news_types.specs.Names.{Bytes, is_in}
use Rattle.news_types.specs.Books.{Book, onto}
use Rattle.news_io.specs.Clock.{ClockMeaning}
use Rattle.news_io.specs.Faults.{Rose}
use Rattle.news_io.specs.Keeper.{KeeperMeaning}
use Rattle.news_io.specs.Link.{LinkMeaning}
use Rattle.news_io.specs.Sink.{SinkMeaning}
use Rattle.news_room.specs.Stands.{Stands}
use Rattle.news_room.specs.declared.room.Room.{Room}
use Rattle.publish_workers.specs.Completeness.{HasReceiver}
use Rattle.publish_workers.specs.LinkDrains.{LinkDrain, IsDrained}
use Rattle.publish_workers.specs.AllLinks.{drains_more, EachDelivers}

-- no failure of any of the links was counted
abbrev pub NoLinkFailed : {L : Type 0} → LinkMeaning L → List L → List L → Type 0
NoLinkFailed {L} link old new = (i : ℕ) (one now : L) → slice_get old i ≡ Some one → slice_get new i ≡ Some now → Rose (link.faults one) (link.faults now) → ⊥

-- In each of these drains of a book, over links to these subscribers, each subscriber of its link has a receiver that answers as it should,
-- from the list on that the drains before left.
abbrev pub EachAnswers : Book → List (List Bytes) → List LinkDrain → Type 0
EachAnswers b served [] = Unit {0}
EachAnswers b served (d ∷ ds) =
    EachAnswers b served ds
    × ((names : List Bytes) (s : Bytes) → slice_get served (length ds) ≡ Some names → is_in s names ≡ true → HasReceiver (onto (drains_more ds) b).list s d.turns)

-- Where no count of the keeper, the output or a link rises, they are not told to be full (8) and each receiver answers as it should, drains end
-- with status 0, every link was drained and each drain delivered its feeds; or they end for want of memory (9).
abbrev pub LinksAreComplete : {K C O L : Type 0} → KeeperMeaning K → ClockMeaning C → SinkMeaning O → LinkMeaning L → Type 0
LinksAreComplete {K} {C} {O} {L} keeper clock sink link = (old new : Room K) (c c' : C) (l l' : List L) (o o' : O) (status : ℕ) → (drained : IsDrained keeper clock sink link old new c c' l l' o o' status)
    → (b : Book) → Stands keeper old b → (Rose (keeper.faults old.keeper) (keeper.faults new.keeper) → ⊥) → (Rose (sink.faults o) (sink.faults o') → ⊥) → NoLinkFailed link l l' → (status ≡ 8 → ⊥)
    → EachAnswers b (map link.serves l) drained.drains
    → ((status ≡ 0) × (length drained.drains ≡ length l) × EachDelivers b (map link.serves l) drained.drains) ⊎ (status ≡ 9)

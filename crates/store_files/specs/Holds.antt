-- A room that holds a list, and what its keeper uses.
use Rattle.std.specs.Prelude.{◌≡◌, ℕ, ◌+◌}
use Rattle.news_types.specs.Books.{Book}
use Rattle.news_io.specs.Keeper.{KeeperMeaning}
use Rattle.news_room.specs.Log.{sizes}
use Rattle.news_room.specs.Stands.{Stands}
use Rattle.news_room.specs.declared.room.Room.{Room}

-- the room stands for the book, and its keeper uses so many bytes before the list's records
pub record Holds {K : Type 0} (keeper : KeeperMeaning K) (r : Room K) (b : Book) (before : ℕ) : Type 0 where
  pub stands : Stands keeper r b
  pub uses : keeper.used r.keeper ≡ before + sizes b.list

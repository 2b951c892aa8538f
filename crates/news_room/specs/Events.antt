-- What a call makes of a room, and the call as an event of the world.
use Rattle.std.specs.Prelude.{◌≡◌, ℕ, true, List}
use Rattle.news_types.specs.declared.entry.Entry.{Entry}
use Rattle.news_types.specs.History.{moment_at}
use Rattle.news_types.specs.Books.{Book, onto}
use Rattle.news_types.specs.Doubt.{IsWithin}
use Rattle.feed_frames.specs.Writer.{the_writer}
use Rattle.news_types.specs.Calls.{Call, Answer, Fate, follow}
use Rattle.news_types.specs.Server.{Server, called, call_answer}
use Rattle.news_io.specs.Keeper.{KeeperMeaning}
use Rattle.entry_codec.specs.Spelling.{entry_bytes}
use Rattle.news_room.specs.Said.{is_failure}
use Rattle.news_room.specs.Stands.{Stands}
use Rattle.news_room.specs.Steps.{entries, ToldStep}
use Rattle.news_room.specs.declared.room.Room.{Room}

module _ {K : Type 0} (keeper : KeeperMeaning K) where
  -- a server of the world has the book's list; where the keeper tells its list, each payload in doubt is the bytes of an entry that the
  -- server has in doubt
  pub record Serves (r : Room K) (b : Book) (c : Server) : Type 0 where
    pub list_is : c.list ≡ b.list
    pub doubt : b.told ≡ true → IsWithin entry_bytes (keeper.doubts r.keeper) c.doubt

  -- the call is an event of the world, of one fate: each server that the room serves becomes one that it serves then, and the world's
  -- answer is the one that was given, where publications are written as those of this store are
  pub record IsEvent (old new : Room K) (b : Book) (more : List Entry) (call : Call) (now : ℕ) (answer : Answer) : Type 0 where
    pub fate : Fate
    pub serves : (c : Server) → Serves old b c → Serves new (onto more b) (called c call now fate)
    pub answers : (c : Server) → Serves old b c → call_answer (the_writer b.store) c call now fate ≡ answer

  -- a call at a reading of the clock, by a room that stood for the book: it stands for the book with more, what was kept and answered is
  -- the step, and the call is an event of the world. Where the keeper tells its list, so is what a crash may leave
  pub record Happens (old new : Room K) (b : Book) (more : List Entry) (call : Call) (now : ℕ) (answer : Answer) (Step : Type 0) : Type 0 where
    pub stands : Stands keeper new (onto more b)
    pub step : Step
    pub event : IsEvent old new b more call now answer
    pub told : b.told ≡ true → ToldStep keeper old new b (entries (follow b.list call (moment_at b.list now))) more (is_failure answer)

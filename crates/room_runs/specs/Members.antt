-- A run over the members of an input, by a desk over a room and a clock.
use Rattle.std.specs.Prelude.{◌≡◌, ℕ, List}
use Rattle.news_types.specs.Books.{Book}
use Rattle.news_types.specs.declared.entry.Entry.{Entry}
use Rattle.line_run.specs.Life.{Meaning}
use Rattle.line_run.specs.Status.{IsRun, CrashLeaves}
use Rattle.news_room.specs.declared.room.Room.{Room}
use Rattle.room_runs.specs.Lines.{LONGEST_INPUT}
use Rattle.room_runs.specs.Desk.{Hand, Shelf, book}
use Rattle.room_runs.specs.Life.{life}
use Rattle.news_io.specs.Keeper.{KeeperMeaning}
use Rattle.news_io.specs.Clock.{ClockMeaning}
use Rattle.news_io.specs.Source.{SourceMeaning}
use Rattle.news_io.specs.Sink.{SinkMeaning}

-- a desk that has this room and this clock
pub record IsDesk {K C : Type 0} (d : Hand K C) (r : Room K) (c : C) : Type 0 where
  pub room_is : d.room.now ≡ r
  pub clock_is : d.clock.now ≡ c

-- by desks of a type, which answer members as the meaning says where the log has so many bytes before its first record; the first bytes of an input decide some members, and a whole input has all
module _ {K C S O A X : Type 0} (keeper : KeeperMeaning K) (clock : ClockMeaning C) (source : SourceMeaning S) (sink : SinkMeaning O)
    (hand : A → Hand K C) (M : ℕ → Meaning Entry X) (decided all : List ℕ → List X) where
  -- the members of the input were answered from the list on, as far as the status tells, and a crash leaves a list between
  pub record MembersAnswered (r r' : Room K) (c c' : C) (i i' : S) (o o' : O) (b : Book) (start : ℕ) (status : ℕ) : Type 0 where
    pub shelf : Shelf
    pub same_book : book shelf b.list ≡ b
    pub same_start : shelf.before ≡ start
    pub old : A
    pub new : A
    pub before : IsDesk (hand old) r c
    pub after : IsDesk (hand new) r' c'
    pub run : IsRun (M start) (life keeper clock hand shelf) (λ d. keeper.faults (hand d).room.now.keeper) source sink decided all LONGEST_INPUT i i' old new o o' b.list status
    pub crash : CrashLeaves (life keeper clock hand shelf) old new b.list

-- Drains of some links, one behind another, until one ends otherwise than with none of its feeds ready. Lists of drains have their newest
-- first.
use Rattle.std.specs.Prelude.{◌≡◌, ◌||◌, ℕ, Bool, true, false, IsTrue, List, [], ◌∷◌, ◌++◌, length, slice_get, slice_set, map, Some}
use Rattle.news_types.specs.declared.entry.Entry.{Entry}
use Rattle.news_types.specs.Names.{Bytes}
use Rattle.news_types.specs.Books.{Book, onto}
use Rattle.news_io.specs.Clock.{ClockMeaning}
use Rattle.news_io.specs.Keeper.{KeeperMeaning}
use Rattle.news_io.specs.Link.{LinkMeaning}
use Rattle.news_io.specs.Sink.{SinkMeaning}
use Rattle.news_room.specs.Stands.{Stands}
use Rattle.news_room.specs.Steps.{ToldStep}
use Rattle.news_room.specs.declared.room.Room.{Room}
use Rattle.publish_workers.specs.declared.drain.Drained as ends
use Rattle.publish_workers.specs.declared.drain.Drained.{Drained}
use Rattle.publish_workers.specs.Links.{Passes, Reads, CountsFaults}
use Rattle.publish_workers.specs.Turns.{Turn, word, is_store_fault}
use Rattle.publish_workers.specs.Steps.{turn_entries}
use Rattle.publish_workers.specs.Drains.{AllReported, lost_in, refused_in, IsEnd, CountsLink, is_store_end, is_output_end, all_frames, all_replies, all_passed, all_readings, lines_of, last_line, Prints, DrainHappens}
use Rattle.publish_workers.specs.Statuses.{drain_status}
use Rattle.run_status.specs.Output.{Told}
use Rattle.run_status.specs.Status.{number_of, line_of as status_line}

-- the drain of one link: its last turn and those before it, newest first, the entries that it added, and its end
pub record LinkDrain : Type 0 where
  pub last : Turn
  pub turns : List Turn
  pub more : List Entry
  pub end : Drained

-- ---- how they end

-- with none of the feeds ready
abbrev pub is_idle : Drained → Bool
is_idle (ends.Drained.Idle link_failed no_receipt) = true
is_idle _ = false

abbrev pub AllIdle : List LinkDrain → Type 0
AllIdle [] = Unit {0}
AllIdle (d ∷ ds) = IsTrue (is_idle d.end) × AllIdle ds

-- only the newest may end otherwise
abbrev pub AllIdleButLast : List LinkDrain → Type 0
AllIdleButLast [] = Unit {0}
AllIdleButLast (d ∷ ds) = AllIdle ds

-- an end behind another one: whether a link failed or a reply was no receipt, at either
abbrev pub behind : Drained → Drained → Drained
behind (ends.Drained.Idle lost refused) (ends.Drained.Idle link_failed no_receipt) = ends.Drained.Idle (lost || link_failed) (refused || no_receipt)
behind before end = end

abbrev pub end_of_all : List LinkDrain → Drained
end_of_all [] = ends.Drained.Idle false false
end_of_all (d ∷ ds) = behind (end_of_all ds) d.end

-- ---- readings and lines, in order

abbrev pub drains_readings : List LinkDrain → List ℕ
drains_readings [] = []
drains_readings (d ∷ ds) = drains_readings ds ++ all_readings (d.last ∷ d.turns)

-- the lines of attempts but for that of the last turn of all, at which the output may have failed
abbrev pub drains_lines : List LinkDrain → Bytes
drains_lines [] = []
drains_lines (d ∷ ds) = drains_lines ds ++ lines_of d.turns

abbrev pub drains_last : List LinkDrain → Bytes
drains_last [] = []
drains_last (d ∷ ds) = last_line d.last

-- ---- the links

-- what one drain makes of its link
pub record DrainsLink {L : Type 0} (link : LinkMeaning L) (old new : L) (d : LinkDrain) : Type 0 where
  pub reported : AllReported d.turns
  pub end : IsEnd (lost_in d.turns) (refused_in d.turns) (word d.last) d.end
  pub passes : link.tells old → Passes link old new (all_frames (d.last ∷ d.turns)) (all_replies (d.last ∷ d.turns)) (all_passed (d.last ∷ d.turns))
  pub faults : CountsLink d.end (link.faults old) (link.faults new)
  pub serves : link.serves new ≡ link.serves old

-- each drains the next of the links, as it was, and leaves the others as they are
abbrev pub DrainLinks : {L : Type 0} → LinkMeaning L → List L → List L → List LinkDrain → Type 0
DrainLinks {L} link old new [] = new ≡ old
DrainLinks {L} link old new (d ∷ ds) =
    (before : List L) × (one : L) × (now : L) × DrainLinks link old before ds × (slice_get old (length ds) ≡ Some one) × DrainsLink link one now d × (new ≡ slice_set before (length ds) now)

-- ---- the room

module _ {K : Type 0} (keeper : KeeperMeaning K) where
  -- each happened in the room that the one before it left, over a link to the next of these lists of subscribers
  abbrev pub DrainsHappen : Room K → Room K → Book → List (List Bytes) → List LinkDrain → List Entry → Type 0
  DrainsHappen old new b served [] more = (new ≡ old) × (more ≡ [])
  DrainsHappen old new b served (d ∷ ds) more =
      (left : Room K) × (before : List Entry) × (names : List Bytes) × DrainsHappen old left b served ds before × (slice_get served (length ds) ≡ Some names)
      × DrainHappens keeper left new (onto before b) names d.last d.turns d.more × (more ≡ before ++ d.more)

  -- the entries that should follow: those of the drains before, and those of the last one's turns
  abbrev pub drains_entries : (old new : Room K) (b : Book) (served : List (List Bytes)) (ds : List LinkDrain) (more : List Entry) → DrainsHappen old new b served ds more → List Entry
  drains_entries old new b served [] more happens = []
  drains_entries old new b served (d ∷ ds) more happens =
      let drain : DrainHappens keeper happens.0 new (onto happens.1 b) happens.2 d.last d.turns d.more = happens.5 in
      happens.1 ++ (drain.before ++ turn_entries (onto drain.before (onto happens.1 b)) happens.2 d.last drain.first)

  abbrev pub is_failed : List LinkDrain → Bool
  is_failed [] = false
  is_failed (d ∷ ds) = is_store_fault (word d.last)

  -- The drains of a room that stood for the book, over links to these subscribers. The room stands for the book with all that they added.
  -- Where the keeper tells its list, so is what a crash may leave, at any moment of them and behind them.
  pub record LinksDrained (old new : Room K) (b : Book) (served : List (List Bytes)) (ds : List LinkDrain) (more : List Entry) : Type 0 where
    pub drains : DrainsHappen old new b served ds more
    pub stands : Stands keeper new (onto more b)
    pub told : b.told ≡ true → ToldStep keeper old new b (drains_entries old new b served ds more drains) more (is_failed ds)

-- ---- all of it, told on an output

-- what becomes of a room, its links, a clock and an output by drains over the links, and with which status they end
pub record IsDrained {K C O L : Type 0} (keeper : KeeperMeaning K) (clock : ClockMeaning C) (sink : SinkMeaning O) (link : LinkMeaning L) (old new : Room K) (c c' : C) (l l' : List L) (o o' : O) (status : ℕ) : Type 0 where
  -- the drains, newest first: each but the last found none ready, and where the last did too, all links were drained
  pub drains : List LinkDrain
  pub but_last : AllIdleButLast drains
  pub all : IsTrue (is_idle (end_of_all drains)) → length drains ≡ length l
  pub links : DrainLinks link l l' drains
  pub more : List Entry
  pub room : (b : Book) → Stands keeper old b → LinksDrained keeper old new b (map link.serves l) drains more
  pub readings : clock.tells c → Reads clock c c' (drains_readings drains)
  pub store_faults : CountsFaults (is_store_end (end_of_all drains)) (keeper.faults old.keeper) (keeper.faults new.keeper)
  -- the output behind the lines of the attempts, and then the status's line
  pub told : O
  pub lines : sink.tells o → Prints sink o told (drains_lines drains) (drains_last drains)
  pub output_faults : CountsFaults (is_output_end (end_of_all drains)) (sink.faults o) (sink.faults told)
  pub status_is : status ≡ number_of (drain_status (end_of_all drains))
  pub line : Told sink told o' (status_line (drain_status (end_of_all drains)))

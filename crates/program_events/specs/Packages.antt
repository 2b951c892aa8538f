-- A package as events of the world.
use Rattle.std.specs.Prelude.{◌≡◌, ◌⊎◌, ℕ, List, [], ◌∷◌, length}
use Rattle.std.proofs.Common.{inl, inr}
use Rattle.news_types.specs.declared.entry.Entry.{Entry}
use Rattle.news_types.specs.Names.{Bytes}
use Rattle.news_types.specs.History.{History}
use Rattle.news_types.specs.Frames.{Writer}
use Rattle.news_types.specs.Calls.{Requested, Fate, IsKept, IsFull, IsFailed}
use Rattle.news_types.specs.Server.{call_answer}
use Rattle.news_io.specs.Clock.{ClockMeaning, Gave}
use Rattle.news_io.specs.Keeper.{KeeperMeaning}
use Rattle.news_io.specs.Sink.{SinkMeaning}
use Rattle.news_io.specs.Source.{SourceMeaning}
use Rattle.news_room.specs.Said.{said}
use Rattle.news_room.specs.declared.answers.Handled.{Handled}
use Rattle.news_room.specs.declared.room.Room.{Room}
use Rattle.package_rules.specs.declared.publish.Packaged.{Packaged}
use Rattle.package_rules.specs.Composed.{Composed}
use Rattle.package_rules.specs.Publishing.{packaged_by, flash_of}
use Rattle.package_rules.specs.Readers.{readers}
use Rattle.whole_runs.specs.Packaging.{IsPackagedTold, IsPackageRun}
use Rattle.world_laws.specs.World.{World, Event, Requests, Ticks, run}
use Rattle.program_events.specs.Leads.{LeadsOn}

module _ (write : Writer) (w : World) (caller : Bytes) (number : ℕ) (p : Composed) (at : ℕ) (answer : Packaged) (events : List Event) where
  -- the entry of the tick was not kept, and nothing was asked behind it
  pub record HasNotTicked : Type 0 where
    pub fate : Fate
    pub events_are : events ≡ Ticks at fate ∷ []
    pub why : ((fate ≡ IsFailed) × (answer ≡ Packaged.Fault)) ⊎ ((fate ≡ IsFull) × (size : ℕ) × (count : ℕ) × (answer ≡ Packaged.Full size count))

  -- the world behind the tick, and its list
  abbrev pub ticked : World
  ticked = run write (Ticks at IsKept ∷ []) w

  abbrev pub list_ticked : History
  list_ticked = ticked.server.list

  -- nobody has every member, or there was no memory: nothing was asked behind the tick
  pub record HasAskedNothing : Type 0 where
    pub events_are : events ≡ Ticks at IsKept ∷ []
    pub why : ((readers list_ticked p.members ≡ []) × (answer ≡ Packaged.NoReaders (length list_ticked))) ⊎ (answer ≡ Packaged.Memory)

  -- the flash to those who have every member was asked, and answered as in the world
  pub record HasAskedFlash : Type 0 where
    pub fate : Fate
    pub events_are : events ≡ Ticks at IsKept ∷ Requests caller number (flash_of p list_ticked) at fate ∷ []
    pub some : readers list_ticked p.members ≡ [] → ⊥
    pub handled : Handled
    pub answer_is : answer ≡ packaged_by handled
    pub said_is : call_answer write ticked.server (Requested caller number (flash_of p list_ticked)) at fate ≡ said handled

  -- a tick, and behind it the flash
  abbrev pub AreOfPackage : Type 0
  AreOfPackage = HasNotTicked ⊎ (HasAskedNothing ⊎ HasAskedFlash)

-- a package is these events of a world, at one reading of the clock: what was told is the world's answer, and they lead to the list g
pub record PackageHappened {C O : Type 0} (clock : ClockMeaning C) (sink : SinkMeaning O) (caller : Bytes) (number : ℕ) (p : Composed) (write : Writer) (w : World) (o o' : O) (c c' : C) (status : ℕ) (g : History) (D : Entry → Type 0) (events : List Event) : Type 0 where
  pub at : ℕ
  pub read : clock.tells c → clock.tells c' × Gave (clock.ahead c) (at ∷ []) (clock.ahead c')
  pub answer : Packaged
  pub are : AreOfPackage write w caller number p at answer events
  pub told : IsPackagedTold sink answer o o' status
  pub leads : LeadsOn write w g D events

-- nothing was asked, and the world's list is g
pub record NothingHappened (write : Writer) (w : World) (g : History) (D : Entry → Type 0) (events : List Event) : Type 0 where
  pub none : events ≡ []
  pub leads : LeadsOn write w g D events

module _ {K C S O : Type 0} (keeper : KeeperMeaning K) (clock : ClockMeaning C) (source : SourceMeaning S) (sink : SinkMeaning O) (caller : Bytes) (number : ℕ)
    (old new : Room K) (c c' : C) (i i' : S) (o o' : O) (status : ℕ) (write : Writer) (w : World) (g : History) (D : Entry → Type 0) (events : List Event) where
  -- what the run of a package did; an input that describes none is no event
  abbrev pub PackageRunHappened : IsPackageRun keeper clock source sink caller number old new c c' i i' o o' status → Type 0
  PackageRunHappened (inl did) = PackageHappened clock sink caller number did.package_is write w o o' c c' status g D events
  PackageRunHappened (inr unasked) = NothingHappened write w g D events

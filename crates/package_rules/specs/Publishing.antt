-- What `publish_package` does, by what it answers.
use Rattle.std.specs.Prelude.{◌≡◌, ◌⊎◌, ℕ, List, [], ◌∷◌, length, Result, Ok, Err}
use Rattle.news_types.specs.declared.entry.Entry.{Entry}
use Rattle.news_types.specs.declared.command.Command.{Command}
use Rattle.news_types.specs.declared.command.Command.TheVariants.{Flash}
use Rattle.news_types.specs.Names.{Bytes}
use Rattle.news_types.specs.History.{History}
use Rattle.news_types.specs.Books.{Book, onto}
use Rattle.news_types.specs.Calls as call
use Rattle.news_io.specs.Keeper.{KeeperMeaning}
use Rattle.news_room.specs.Events.{Happens}
use Rattle.news_room.specs.Said.{said, said_tick}
use Rattle.news_room.specs.Stands.{Stands, numbers}
use Rattle.news_room.specs.Steps.{RequestStep, TickStep}
use Rattle.news_room.specs.declared.answers.Handled.{Handled}
use Rattle.news_room.specs.declared.answers.Ticked.{Ticked}
use Rattle.news_room.specs.declared.room.Room.{Room}
use Rattle.package_rules.specs.declared.publish.Packaged.{Packaged}
use Rattle.package_rules.specs.Composed.{Composed}
use Rattle.package_rules.specs.Promise.{IsPackaging, next_number}
use Rattle.package_rules.specs.Readers.{readers}

-- the answer to a package's request, by that to its flash
abbrev pub packaged_by : Handled → Packaged
packaged_by (Handled.Done reply) = Packaged.Done reply
packaged_by (Handled.Repeat reply) = Packaged.Repeat reply
packaged_by (Handled.Denied denial) = Packaged.Denied denial
packaged_by Handled.Fault = Packaged.Fault
packaged_by (Handled.Full size count) = Packaged.Full size count
packaged_by Handled.Memory = Packaged.Memory

-- what a tick leaves to be answered, where it does not let the package follow
abbrev pub passed_by : Ticked → Result (Unit {0}) Packaged
passed_by (Ticked.Kept place) = Ok tt
passed_by Ticked.Still = Ok tt
passed_by Ticked.Fault = Err Packaged.Fault
passed_by (Ticked.Full size count) = Err (Packaged.Full size count)

-- to its readers on a list
abbrev pub flash_of : Composed → History → Command
flash_of p g = Flash p.story (readers g p.members)

module _ {K : Type 0} (keeper : KeeperMeaning K) (old new : Room K) (now : ℕ) (caller : Bytes) (number : ℕ) (p : Composed) where
  -- there are readers, and the flash to them was requested, answered and kept as every request is
  pub record IsFlashed (handled : Handled) : Type 0 where
    pub more : List Entry
    pub some : (b : Book) → Stands keeper old b → readers b.list p.members ≡ [] → ⊥
    pub happens : (b : Book) → Stands keeper old b
        → Happens keeper old new b more (call.Requested caller number (flash_of p b.list)) now (said handled) (RequestStep (numbers keeper old new) b now caller number (flash_of p b.list) more handled)

  -- there are none: nothing is asked of the room
  pub record HasNoReaders (front : ℕ) : Type 0 where
    pub same : new ≡ old
    pub none : (b : Book) → Stands keeper old b → readers b.list p.members ≡ []
    pub front_is : (b : Book) → Stands keeper old b → front ≡ length b.list

  -- what was done behind the tick: without readers nothing, before every denial; and else what became of the flash. Want of memory may
  -- come before it
  abbrev pub FlashStep : Packaged → Type 0
  FlashStep (Packaged.NoReaders front) = HasNoReaders front
  FlashStep Packaged.Memory = (new ≡ old) ⊎ IsFlashed Handled.Memory
  FlashStep answer = (handled : Handled) × (answer ≡ packaged_by handled) × IsFlashed handled

  -- behind what the tick was answered
  abbrev pub BehindTick : Ticked → Packaged → Type 0
  BehindTick (Ticked.Kept place) answer = FlashStep answer
  BehindTick Ticked.Still answer = FlashStep answer
  BehindTick Ticked.Fault answer = (answer ≡ Packaged.Fault) × (new ≡ old)
  BehindTick (Ticked.Full size count) answer = (answer ≡ Packaged.Full size count) × (new ≡ old)

module _ {K : Type 0} (keeper : KeeperMeaning K) (old new : Room K) (now : ℕ) (caller : Bytes) (number : ℕ) (p : Composed) where
  -- a tick at a reading of the clock, and then, at the same reading, the flash
  pub record IsPublished (answer : Packaged) : Type 0 where
    pub mid : Room K
    pub ticked : Ticked
    pub released : List Entry
    pub tick : (b : Book) → Stands keeper old b → Happens keeper old mid b released call.Ticked now (said_tick ticked) (TickStep (numbers keeper old mid) b now released ticked)
    pub rest : BehindTick keeper mid new now caller number p ticked answer

module _ {K : Type 0} (keeper : KeeperMeaning K) (old new : Room K) (p : Composed) where
  -- the package was published behind the list that the tick left: what is promised of it holds from then on
  pub record HasPackage (b : Book) (publication : ℕ) : Type 0 where
    pub released : List Entry
    pub entry : Entry
    pub packaging : IsPackaging ((onto released b).list) p.members p.story entry
    pub stands : Stands keeper new (onto (entry ∷ []) (onto released b))
    pub number_is : publication ≡ next_number ((onto released b).list)

  -- where the answer is that it is done
  abbrev pub IfDone : Packaged → Type 0
  IfDone (Packaged.Done reply) = (b : Book) → Stands keeper old b → HasPackage b reply.publication
  IfDone answer = Unit {0}

-- The import of a table as events of the world.
use Rattle.std.specs.Prelude.{◌≡◌, ◌⊎◌, ℕ, ◌+◌, List, [], ◌∷◌, ◌++◌, if◌then◌else◌, Option, Some, None}
use Rattle.std.proofs.Common.{inl, inr}
use Rattle.news_types.specs.declared.entry.Entry.{Entry}
use Rattle.news_types.specs.declared.command.Command.TheVariants.{Stop}
use Rattle.news_types.specs.Names.{Bytes}
use Rattle.news_types.specs.History.{History, last_number}
use Rattle.news_types.specs.Frames.{Writer}
use Rattle.news_types.specs.Products.{is_subscriber}
use Rattle.news_types.specs.Calls.{Fate, IsKept, IsFull, IsFailed}
use Rattle.news_io.specs.Clock.{ClockMeaning, Gave}
use Rattle.news_io.specs.Keeper.{KeeperMeaning}
use Rattle.news_io.specs.Sink.{SinkMeaning}
use Rattle.news_io.specs.Source.{SourceMeaning}
use Rattle.news_room.specs.declared.room.Room.{Room}
use Rattle.subscriber_import.specs.declared.import.Imported.{Imported}
use Rattle.subscriber_import.specs.Fields.{Wanted, wanted_of, command_of}
use Rattle.subscriber_import.specs.Import.{added_by, behind, imported, lines}
use Rattle.subscriber_import.specs.Table.{Row, rows_of, behind_head}
use Rattle.whole_runs.specs.Importing.{IsImportTold, IsImport}
use Rattle.world_laws.specs.World.{World, Event, Requests}
use Rattle.program_events.specs.Leads.{LeadsOn}
use Rattle.program_events.specs.Packages.{NothingHappened}

-- what a record asks for: the caller's next number, which the denial of a request out of turn tells, and then the subscriber; nothing where
-- it is not of its form, or the subscriber is there
abbrev pub wanted_events : History → Bytes → ℕ → Option Wanted → Fate → List Event
wanted_events h caller at None fate = []
wanted_events h caller at (Some w) fate = if is_subscriber h w.subscriber then [] else Requests caller 0 Stop at IsKept ∷ Requests caller (last_number h caller + 1) (command_of w) at fate ∷ []

-- what these records ask for, one after another, where each entry is kept
abbrev pub row_events : History → Bytes → ℕ → List Row → List Event
row_events h caller at [] = []
row_events h caller at (row ∷ rows) = wanted_events h caller at (wanted_of row) IsKept ++ row_events (behind h caller at row) caller at rows

-- the records before one whose entry was not kept, and this one
pub record AreStopped (h : History) (caller : Bytes) (at : ℕ) (rows : List Row) (fate : Fate) (events : List Event) : Type 0 where
  pub before : List Row
  pub row : Row
  pub rest : List Row
  pub are : rows ≡ before ++ row ∷ rest
  pub next : Entry
  pub adds : added_by (imported h caller at before) caller at (wanted_of row) ≡ Some next
  pub events_are : events ≡ row_events h caller at before ++ wanted_events (imported h caller at before) caller at (wanted_of row) fate

-- the first of the records, where there was no memory for more
pub record AreFirst (h : History) (caller : Bytes) (at : ℕ) (rows : List Row) (events : List Event) : Type 0 where
  pub before : List Row
  pub rest : List Row
  pub are : rows ≡ before ++ rest
  pub events_are : events ≡ row_events h caller at before

-- the events of a table with these records behind its head, from a list on; what it is told as is what becomes of its records there
abbrev pub AreOfTable : History → Bytes → ℕ → Option (List Row) → Imported → List Event → Type 0
AreOfTable h caller at None answer events = ((answer ≡ Imported.BadHead) ⊎ (answer ≡ Imported.Memory)) × (events ≡ [])
AreOfTable h caller at (Some rows) (Imported.Done told) events = (told ≡ lines h caller at rows) × (events ≡ row_events h caller at rows)
AreOfTable h caller at (Some rows) Imported.BadHead events = ⊥
AreOfTable h caller at (Some rows) Imported.Fault events = AreStopped h caller at rows IsFailed events
AreOfTable h caller at (Some rows) (Imported.Full size count) events = AreStopped h caller at rows IsFull events
AreOfTable h caller at (Some rows) Imported.Memory events = AreFirst h caller at rows events

-- an import is these events of a world, at one reading of the clock, and they lead to the list g
pub record ImportHappened {C O : Type 0} (clock : ClockMeaning C) (sink : SinkMeaning O) (caller : Bytes) (rows : Option (List Row)) (write : Writer) (w : World) (o o' : O) (c c' : C) (status : ℕ) (g : History) (D : Entry → Type 0) (events : List Event) : Type 0 where
  pub at : ℕ
  pub read : clock.tells c → clock.tells c' × Gave (clock.ahead c) (at ∷ []) (clock.ahead c')
  pub answer : Imported
  pub are : AreOfTable w.server.list caller at rows answer events
  pub told : IsImportTold sink answer o o' status
  pub leads : LeadsOn write w g D events

module _ {K C S O : Type 0} (keeper : KeeperMeaning K) (clock : ClockMeaning C) (source : SourceMeaning S) (sink : SinkMeaning O) (caller : Bytes)
    (old new : Room K) (c c' : C) (i i' : S) (o o' : O) (status : ℕ) (write : Writer) (w : World) (g : History) (D : Entry → Type 0) (events : List Event) where
  -- what the run of an import did; an input that was not read to its end is no event
  abbrev pub ImportRunHappened : IsImport keeper clock source sink caller old new c c' i i' o o' status → Type 0
  ImportRunHappened (inl did) = ImportHappened clock sink caller (behind_head (rows_of did.table)) write w o o' c c' status g D events
  ImportRunHappened (inr unread) = NothingHappened write w g D events

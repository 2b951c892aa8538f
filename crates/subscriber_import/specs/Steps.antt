-- What `import_table` answers, and how much of the table it took in.
use Rattle.std.specs.Prelude.{◌≡◌, ◌⊎◌, ℕ, Bool, true, false, List, [], ◌++◌, ◌+◌, Option, Some, None, Result, Ok, Err}
use Rattle.news_types.specs.declared.entry.Entry.{Entry}
use Rattle.news_types.specs.Names.{Bytes}
use Rattle.news_types.specs.declared.denial.Denial.{Denial}
use Rattle.news_types.specs.declared.denial.Denial.TheVariants.{OutOfTurn}
use Rattle.news_types.specs.History.{History, last_number}
use Rattle.news_types.specs.Books.{Book}
use Rattle.news_io.specs.Keeper.{KeeperMeaning}
use Rattle.news_room.specs.Beside.{Beside}
use Rattle.news_room.specs.Stands.{LIMIT, numbers}
use Rattle.news_room.specs.Steps.{Whole, Given, Failed, Refused, After, entries}
use Rattle.news_room.specs.declared.answers.Handled.{Handled}
use Rattle.news_room.specs.declared.room.Room.{Room}
use Rattle.subscriber_import.specs.declared.line.Line.{Line}
use Rattle.subscriber_import.specs.declared.import.Imported.{Imported}
use Rattle.subscriber_import.specs.declared.rows.Stop.{Stop}
use Rattle.subscriber_import.specs.Fields.{Wanted}
use Rattle.subscriber_import.specs.Table.{Row}
use Rattle.subscriber_import.specs.Import.{added_by, line_by, lines, added}

-- ---- one record

-- what a record adds
abbrev pub next_of : History → Bytes → ℕ → Option Wanted → List Entry
next_of h caller now wanted = entries (added_by h caller now wanted)

module _ (n : Beside) (h : History) (caller : Bytes) (now : ℕ) (wanted : Option Wanted) (more : List Entry) where
  -- a record behind the list: what becomes of it, or what stopped it
  abbrev pub RowStep : Result Line Stop → Type 0
  RowStep (Ok line) = (line ≡ line_by h caller now wanted) × Given n LIMIT (next_of h caller now wanted) more
  RowStep (Err Stop.Fault) = Failed n LIMIT (next_of h caller now wanted) more
  RowStep (Err (Stop.Full size count)) = Refused n LIMIT (next_of h caller now wanted) more size count
  RowStep (Err Stop.Memory) = Whole n [] more

-- the answer to a request for a subscriber, as what becomes of its record
abbrev pub line_of : Handled → Result Line Stop
line_of (Handled.Done reply) = Ok Line.Added
line_of (Handled.Repeat reply) = Ok Line.Added
line_of (Handled.Denied denial) = Ok (Line.Denied denial)
line_of Handled.Fault = Err Stop.Fault
line_of (Handled.Full size count) = Err (Stop.Full size count)
line_of Handled.Memory = Err Stop.Memory

-- the number that the denial of a request out of turn has
abbrev pub expected_of : Denial → Option (Option ℕ)
expected_of (OutOfTurn expected) = Some (Some expected)
expected_of _ = None

-- the number in the answer to such a request, and nothing where there was no memory
abbrev pub expected_in : Handled → Option (Option ℕ)
expected_in (Handled.Denied denial) = expected_of denial
expected_in Handled.Memory = Some None
expected_in _ = None

-- the caller's next number, where there was memory for it; nothing is kept
abbrev pub NumberStep : Beside → History → Bytes → Option ℕ → Type 0
NumberStep n h caller (Some number) = (number ≡ last_number h caller + 1) × Whole n [] []
NumberStep n h caller None = Whole n [] []

-- ---- the table

module _ (n : Beside) (h : History) (caller : Bytes) (now : ℕ) (rows : List Row) (more : List Entry) where
  -- the first of the records were gone through: what was kept is what these add
  pub record HasStopped : Type 0 where
    pub before : List Row
    pub rest : List Row
    pub are : rows ≡ before ++ rest
    pub kept : more ≡ added h caller now before

  -- all of them, with what became of each; or the first of them, and why it stopped at the next
  abbrev pub ImportStep : Imported → Type 0
  ImportStep (Imported.Done told) = (told ≡ lines h caller now rows) × Given n LIMIT (added h caller now rows) more
  ImportStep Imported.BadHead = ⊥
  ImportStep Imported.Fault = HasStopped × Failed n LIMIT (added h caller now rows) more
  ImportStep (Imported.Full size count) = HasStopped × Refused n LIMIT (added h caller now rows) more size count
  ImportStep Imported.Memory = (stopped : HasStopped) × Given n LIMIT (added h caller now stopped.before) more

-- what stopped a record stops the table
abbrev pub stopped_by : Stop → Imported
stopped_by Stop.Fault = Imported.Fault
stopped_by (Stop.Full size count) = Imported.Full size count
stopped_by Stop.Memory = Imported.Memory

-- the answer that a failure of the keeper has
abbrev pub is_import_fault : Imported → Bool
is_import_fault Imported.Fault = true
is_import_fault _ = false

abbrev pub is_stop_fault : Result Line Stop → Bool
is_stop_fault (Err Stop.Fault) = true
is_stop_fault _ = false

-- where the table has no head, nothing is asked of the room
pub record HasNoHead (n : Beside) (more : List Entry) (answer : Imported) : Type 0 where
  pub why : (answer ≡ Imported.BadHead) ⊎ (answer ≡ Imported.Memory)
  pub none : Whole n [] more

module _ {K : Type 0} (keeper : KeeperMeaning K) (old new : Room K) (b : Book) (caller : Bytes) (now : ℕ) where
  -- the room behind a table with these records behind its head, by a room that stood for the book; where the keeper tells its list, so is
  -- what a crash may leave
  abbrev pub Imports : Option (List Row) → List Entry → Imported → Type 0
  Imports None more answer = After keeper old new b [] more false (HasNoHead (numbers keeper old new) more answer)
  Imports (Some rows) more answer =
      After keeper old new b (added b.list caller now rows) more (is_import_fault answer) (ImportStep (numbers keeper old new) b.list caller now rows more answer)

-- What holds of every import.
use Rattle.std.specs.Prelude.{◌≡◌, ℕ, List, [], ◌∷◌, None}
use Rattle.news_types.specs.Names.{Bytes}
use Rattle.news_types.specs.History.{History}
use Rattle.news_types.specs.Books.{followed_by}
use Rattle.csv.specs.Reading.{AreRecords, default_config, strip_bom}
use Rattle.csv.specs.declared.parser.State.TheVariants as st
use Rattle.subscriber_import.specs.declared.line.Line.{Line}
use Rattle.subscriber_import.specs.Fields.{wanted_of}
use Rattle.subscriber_import.specs.Table.{Row, rows_of}
use Rattle.subscriber_import.specs.Import.{added_by, behind, imported, lines, added}

-- the records of a table are those that its text is read as, one after another, and all of them
abbrev pub RowsAreRecords : Type 0
RowsAreRecords = (table : Bytes) (rows : List Row) → AreRecords default_config st.StartRecord (strip_bom table) rows → rows_of table ≡ rows

-- what the records add, put behind the list, is the imported list
abbrev pub AddedIsImported : Type 0
AddedIsImported = (h : History) (caller : Bytes) (now : ℕ) (rows : List Row) → followed_by (added h caller now rows) h ≡ imported h caller now rows

-- the subscriber is there behind the record
abbrev pub IsThen : Line → Type 0
IsThen Line.Added = Unit {0}
IsThen Line.There = Unit {0}
IsThen _ = ⊥

-- of records that came to these lines, those whose subscriber was added or there add nothing behind this list
abbrev pub AddNothing : List Line → History → Bytes → ℕ → List Row → Type 0
AddNothing [] h caller now rows = Unit {0}
AddNothing (line ∷ told) h caller now [] = Unit {0}
AddNothing (line ∷ told) h caller now (row ∷ rows) = (IsThen line → added_by h caller now (wanted_of row) ≡ None) × AddNothing told (behind h caller now row) caller now rows

-- so it is of a table that is imported once more, by anybody
abbrev pub SecondAddsNothing : Type 0
SecondAddsNothing = (h : History) (caller again : Bytes) (now later : ℕ) (rows : List Row) → AddNothing (lines h caller now rows) (imported h caller now rows) again later rows

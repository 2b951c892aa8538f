-- What the run of an import does.
use Rattle.std.specs.Prelude.{◌≡◌, ◌⊎◌, ℕ, List, [], ◌∷◌, Ok, Err}
use Rattle.news_types.specs.declared.entry.Entry.{Entry}
use Rattle.news_types.specs.Names.{Bytes}
use Rattle.news_types.specs.Books.{Book}
use Rattle.news_io.specs.Clock.{ClockMeaning, Gave}
use Rattle.news_io.specs.Keeper.{KeeperMeaning}
use Rattle.news_io.specs.Sink.{SinkMeaning}
use Rattle.news_io.specs.Source.{SourceMeaning}
use Rattle.line_run.specs.Status.{status_by}
use Rattle.line_run.specs.declared.ending.Ending.{Ending}
use Rattle.wire_run.specs.Reading.{IsReadThrough}
use Rattle.run_status.specs.declared.status.Status.{Status}
use Rattle.room_reports.specs.Written.{IsStopped}
use Rattle.news_room.specs.Stands.{Stands}
use Rattle.news_room.specs.declared.room.Room.{Room}
use Rattle.subscriber_import.specs.declared.import.Imported.{Imported}
use Rattle.subscriber_import.specs.Table.{rows_of, behind_head}
use Rattle.subscriber_import.specs.Steps.{Imports}
use Rattle.subscriber_import.specs.Report.{lines_text}
use Rattle.whole_runs.specs.Output.{IsTextTold}

-- the most bytes of a table
abbrev pub LONGEST_TABLE : ℕ
LONGEST_TABLE = 4194304

-- how an import is told: by a line for each record, or by its status alone
abbrev pub IsImportTold : {O : Type 0} → SinkMeaning O → Imported → O → O → ℕ → Type 0
IsImportTold sink (Imported.Done lines) o o' status = IsTextTold sink (lines_text 1 lines) o o' status
IsImportTold sink Imported.BadHead o o' status = IsStopped sink Status.BadHead o o' status
IsImportTold sink Imported.Fault o o' status = IsStopped sink Status.Store o o' status
IsImportTold sink (Imported.Full size count) o o' status = IsStopped sink Status.Full o o' status
IsImportTold sink Imported.Memory o o' status = IsStopped sink Status.Memory o o' status

module _ {K C S O : Type 0} (keeper : KeeperMeaning K) (clock : ClockMeaning C) (source : SourceMeaning S) (sink : SinkMeaning O) (caller : Bytes) (old new : Room K) (c c' : C) (i i' : S) (o o' : O) (status : ℕ) where
  -- the input was read to its end, and its table imported at one reading of the clock
  pub record HasImported : Type 0 where
    pub table : Bytes
    pub part : IsReadThrough source LONGEST_TABLE i i' table (Ok tt)
    pub now : ℕ
    pub read : clock.tells c → clock.tells c' × Gave (clock.ahead c) (now ∷ []) (clock.ahead c')
    pub imported : Imported
    pub more : List Entry
    pub imports : (b : Book) → Stands keeper old b → Imports keeper old new b caller now (behind_head (rows_of table)) more imported
    pub told : IsImportTold sink imported o o' status

  -- it was not read to its end: nothing is asked of the room
  pub record HasNotRead : Type 0 where
    pub why : Ending
    pub part : IsReadThrough source LONGEST_TABLE i i' [] (Err why)
    pub same : new ≡ old
    pub same_clock : c' ≡ c
    pub stopped : IsStopped sink (status_by why) o o' status

  abbrev pub IsImport : Type 0
  IsImport = HasImported ⊎ HasNotRead

-- What the import of a table does to the log, its side, the input and the output, and with which status it ends.
use Rattle.std.specs.Prelude.{◌≡◌, ◌⊎◌, ◌≤◌, ℕ, ◌+◌, length}
use Rattle.news_types.specs.Names.{Bytes}
use Rattle.news_io.specs.Clock.{ClockMeaning}
use Rattle.news_io.specs.Disk.{DiskMeaning}
use Rattle.news_io.specs.Faults.{Rose}
use Rattle.news_io.specs.Sink.{SinkMeaning}
use Rattle.news_io.specs.Source.{SourceMeaning}
use Rattle.news_pair.specs.Keeper.{pair_of}
use Rattle.line_run.specs.Status.{IsComplete}
use Rattle.whole_runs.specs.Importing.{LONGEST_TABLE, IsImport}
use Rattle.newsdesk_cli.specs.Opened.{HasGoneOn, NotBegun}

module _ {D O S C : Type 0} (disk : DiskMeaning D) (clock : ClockMeaning C) (source : SourceMeaning S) (sink : SinkMeaning O)
    (log log' side side' : D) (i i' : S) (o o' : O) (c c' : C) (status : ℕ) (caller : Bytes) where
  -- the table of the input was imported, from the list of the files on
  pub record HasTakenTable : Type 0 where
    pub went : HasGoneOn disk log log' side side' status
    pub imported : IsImport (pair_of disk) clock source sink caller went.room went.after c c' i i' o o' status
    -- where nothing failed and the table is not too long, only a missing head, the limit and want of memory keep the run from its end
    pub complete : source.tells i → length (source.ahead i) ≤ LONGEST_TABLE → (Rose (source.faults i) (source.faults i') → ⊥) → (Rose (sink.faults o) (sink.faults o') → ⊥)
        → (Rose (disk.faults log + disk.faults side) (disk.faults log' + disk.faults side') → ⊥) → IsComplete status ⊎ (status ≡ 14)

  -- as requests of this caller
  abbrev pub IsImportOf : Type 0
  IsImportOf = NotBegun disk sink log log' side side' i i' o o' c c' status ⊎ HasTakenTable

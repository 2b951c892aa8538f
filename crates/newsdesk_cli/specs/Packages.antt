-- What a package, and what is asked of one, does to the log, its side, the input and the output, and with which status it ends.
use Rattle.std.specs.Prelude.{◌≡◌, ◌⊎◌, ◌≤◌, ℕ, ◌+◌, length}
use Rattle.news_types.specs.Names.{Bytes}
use Rattle.news_io.specs.Clock.{ClockMeaning}
use Rattle.news_io.specs.Disk.{DiskMeaning}
use Rattle.news_io.specs.Faults.{Rose}
use Rattle.news_io.specs.Sink.{SinkMeaning}
use Rattle.news_io.specs.Source.{SourceMeaning}
use Rattle.news_pair.specs.Keeper.{pair_of}
use Rattle.line_run.specs.Status.{IsComplete}
use Rattle.package_rules.specs.Report.{contents_report}
use Rattle.whole_runs.specs.Packaging.{LONGEST_INPUT, IsPackageRun}
use Rattle.newsdesk_cli.specs.Opened.{IsLook, HasGoneOn, NotBegun}
use Rattle.newsdesk_cli.specs.Telling.{IsAnswered}

module _ {D O S C : Type 0} (disk : DiskMeaning D) (clock : ClockMeaning C) (source : SourceMeaning S) (sink : SinkMeaning O)
    (log log' side side' : D) (i i' : S) (o o' : O) (c c' : C) (status : ℕ) (caller : Bytes) (number : ℕ) where
  -- the package of the input was published, from the list of the files on
  pub record HasTakenPackage : Type 0 where
    pub went : HasGoneOn disk log log' side side' status
    pub published : IsPackageRun (pair_of disk) clock source sink caller number went.room went.after c c' i i' o o' status
    -- where nothing failed and the input is not too long, only the limit and want of memory keep the run from its end
    pub complete : source.tells i → length (source.ahead i) ≤ LONGEST_INPUT → (Rose (source.faults i) (source.faults i') → ⊥) → (Rose (sink.faults o) (sink.faults o') → ⊥)
        → (Rose (disk.faults log + disk.faults side) (disk.faults log' + disk.faults side') → ⊥) → IsComplete status

  -- as this caller's request of this number
  abbrev pub IsPackageOf : Type 0
  IsPackageOf = NotBegun disk sink log log' side side' i i' o o' c c' status ⊎ HasTakenPackage

-- what the publication of this number holds is told, on the list of the files
abbrev pub IsContents : {D O : Type 0} → DiskMeaning D → SinkMeaning O → ℕ → D → D → D → D → O → O → ℕ → Type 0
IsContents disk sink number log log' side side' o o' status = IsLook disk sink log log' side side' o o' status (λ store h. IsAnswered sink (contents_report h store number) o o' status)

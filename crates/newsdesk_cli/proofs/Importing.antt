-- What the import of a table leaves in the two files of a store, and with which statuses it ends.
use Rattle.std.proofs.Common.{◌≡◌, ◌⊎◌, inl, inr, ℕ, ◌+◌, ◌≤◌, Bool, true, false, List, [], length, Option, Some, None, refl, arith}
use mathlib.Core.Bool.{false≢true}
use Rattle.news_types.specs.Books.{Book}
use Rattle.news_types.specs.Names.{Bytes}
use Rattle.news_types.specs.declared.entry.Entry.{Entry}
use Rattle.news_io.specs.Clock.{ClockMeaning}
use Rattle.news_io.specs.Disk.{DiskMeaning}
use Rattle.news_io.specs.Faults.{Rose}
use Rattle.news_io.specs.Keeper.{KeeperMeaning}
use Rattle.news_io.specs.Sink.{SinkMeaning}
use Rattle.news_io.specs.Source.{SourceMeaning}
use Rattle.news_pair.specs.Keeper.{pair_of}
use Rattle.news_pair.specs.Stands.{log_disk, side_disk}
use Rattle.news_pair.specs.declared.pair.Pair.{Pair}
use Rattle.news_room.specs.Stands.{Stands}
use Rattle.news_room.specs.declared.room.Room.{Room}
use Rattle.line_run.specs.Status.{IsComplete}
use Rattle.subscriber_import.specs.declared.import.Imported.{Imported}
use Rattle.subscriber_import.specs.Import.{added}
use Rattle.subscriber_import.specs.Report.{lines_text}
use Rattle.subscriber_import.specs.Steps.{Imports, is_import_fault}
use Rattle.subscriber_import.specs.Table.{Row, rows_of, behind_head}
use Rattle.store_files.specs.Store.{IsOpenRoom}
use Rattle.whole_runs.specs.Importing.{LONGEST_TABLE, IsImportTold, HasImported, IsImport}
use Rattle.newsdesk_cli.specs.Command.{IsServed}
use Rattle.newsdesk_cli.specs.FilesLeft.{FilesLeft}
use Rattle.newsdesk_cli.proofs.Commands.{rose_along}
use Rattle.newsdesk_cli.proofs.FilesLeft.{step_left}
use Rattle.newsdesk_cli.proofs.Statuses.{others, text_served, text_complete, unread_served, unread_complete}
use Rattle.newsdesk_cli.proofs.Still.{still_left}

-- ---- by what the import was told as

module _ {O : Type 0} (sink : SinkMeaning O) (o o' : O) (status : ℕ) where
  -- a keeper that failed is told by status 6
  no_failure : (answer : Imported) → IsImportTold sink answer o o' status → (status ≡ 6 → ⊥) → is_import_fault answer ≡ false
  no_failure (Imported.Done lines) told other = refl
  no_failure Imported.BadHead told other = refl
  no_failure Imported.Fault told other = absurd (other told.status_is)
  no_failure (Imported.Full size count) told other = refl
  no_failure Imported.Memory told other = refl

  told_served : (before now : ℕ) (answer : Imported) → (answer ≡ Imported.Fault → Rose before now) → IsImportTold sink answer o o' status → IsServed before now status
  told_served before now (Imported.Done lines) rose told = text_served sink (lines_text 1 lines) o o' status before now told
  told_served before now Imported.BadHead rose told = others before now 14 status (λ s. absurd (omega (arith, s))) (λ s. absurd (omega (arith, s))) (λ s. absurd (omega (arith, s))) told.status_is
  told_served before now Imported.Fault rose told = others before now 6 status (λ s. absurd (omega (arith, s))) (λ s. absurd (omega (arith, s))) (λ s. rose refl) told.status_is
  told_served before now (Imported.Full size count) rose told = others before now 8 status (λ s. absurd (omega (arith, s))) (λ s. absurd (omega (arith, s))) (λ s. absurd (omega (arith, s))) told.status_is
  told_served before now Imported.Memory rose told = others before now 9 status (λ s. absurd (omega (arith, s))) (λ s. absurd (omega (arith, s))) (λ s. absurd (omega (arith, s))) told.status_is

  told_complete : (answer : Imported) → (answer ≡ Imported.Fault → ⊥) → (Rose (sink.faults o) (sink.faults o') → ⊥) → IsImportTold sink answer o o' status → IsComplete status ⊎ (status ≡ 14)
  told_complete (Imported.Done lines) sound calm told = inl (text_complete sink (lines_text 1 lines) o o' status calm told)
  told_complete Imported.BadHead sound calm told = inr told.status_is
  told_complete Imported.Fault sound calm told = absurd (sound refl)
  told_complete (Imported.Full size count) sound calm told = inl (inr (inl told.status_is))
  told_complete Imported.Memory sound calm told = inl (inr (inr told.status_is))

-- ---- the room behind it

module _ {K : Type 0} (keeper : KeeperMeaning K) (old new : Room K) (b : Book) (caller : Bytes) (now : ℕ) (more : List Entry) where
  -- only a keeper that failed is told as a failure
  fault_rose : (rows : Option (List Row)) (answer : Imported) → Imports keeper old new b caller now rows more answer → answer ≡ Imported.Fault → Rose (keeper.faults old.keeper) (keeper.faults new.keeper)
  fault_rose None Imported.Fault a is = elim a.did.why [ inl head ↦ absurd (cc head) | inr memory ↦ absurd (cc memory) ]
  fault_rose (Some rows) Imported.Fault a is = a.did.1.rose
  fault_rose rows (Imported.Done lines) a is = absurd (cc is)
  fault_rose rows Imported.BadHead a is = absurd (cc is)
  fault_rose rows (Imported.Full size count) a is = absurd (cc is)
  fault_rose rows Imported.Memory a is = absurd (cc is)

module _ {D : Type 0} (disk : DiskMeaning D) (log side : D) (r r' : Room (Pair D)) (status : ℕ) (opened : IsOpenRoom disk log side r) (tells : disk.tells log) (tells' : disk.tells side) where
  abbrev here : Book
  here = record { store = opened.store; told = true; list = opened.history }

  rows_left : (caller : Bytes) (now : ℕ) (rows : Option (List Row)) (more : List Entry) (answer : Imported) → ((status ≡ 6 → ⊥) → is_import_fault answer ≡ false) → Imports (pair_of disk) r r' here caller now rows more answer
      → FilesLeft disk log side opened.store r r' opened.history status
  rows_left caller now None more answer sure a = step_left disk log side r r' status opened tells tells' [] more false (λ other. refl) a.stands (a.told refl)
  rows_left caller now (Some rows) more answer sure a = step_left disk log side r r' status opened tells tells' (added opened.history caller now rows) more (is_import_fault answer) sure a.stands (a.told refl)

-- ---- the run

module _ {D C S O : Type 0} (disk : DiskMeaning D) (clock : ClockMeaning C) (source : SourceMeaning S) (sink : SinkMeaning O) (caller : Bytes)
    (log side : D) (r r' : Room (Pair D)) (c c' : C) (i i' : S) (o o' : O) (status : ℕ) (opened : IsOpenRoom disk log side r) where
  pub import_left : disk.tells log → disk.tells side → IsImport (pair_of disk) clock source sink caller r r' c c' i i' o o' status → FilesLeft disk log side opened.store r r' opened.history status
  import_left tells tells' (inl did) =
      rows_left disk log side r r' status opened tells tells' caller did.now (behind_head (rows_of did.table)) did.more did.imported
      (no_failure sink o o' status did.imported did.told)
      (did.imports (record { store = opened.store; told = true; list = opened.history }) (opened.holds true (λ is. (tells, tells'))).stands)
  import_left tells tells' (inr not) = still_left disk log side r r' status opened tells tells' not.same

  abbrev untold : Book
  untold = record { store = opened.store; told = false; list = opened.history }

  first_stands : Stands (pair_of disk) r untold
  first_stands = (opened.holds false (λ is. absurd (false≢true is))).stands

  -- files that are left by the room behind the run
  module _ (log' side' : D) (same : log' ≡ log_disk r'.keeper) (same_side : side' ≡ side_disk r'.keeper) where
    disks_rose : (did : HasImported (pair_of disk) clock source sink caller r r' c c' i i' o o' status) → did.imported ≡ Imported.Fault → Rose (disk.faults log + disk.faults side) (disk.faults log' + disk.faults side')
    disks_rose did is =
        rose_along disk log side log' side' r.keeper r'.keeper opened.calm same same_side
        (fault_rose (pair_of disk) r r' untold caller did.now did.more (behind_head (rows_of did.table)) did.imported (did.imports untold first_stands) is)

    pub import_served : IsImport (pair_of disk) clock source sink caller r r' c c' i i' o o' status → IsServed (disk.faults log + disk.faults side) (disk.faults log' + disk.faults side') status
    import_served (inl did) = told_served sink o o' status (disk.faults log + disk.faults side) (disk.faults log' + disk.faults side') did.imported (disks_rose did) did.told
    import_served (inr not) = unread_served source LONGEST_TABLE i i' status (disk.faults log + disk.faults side) (disk.faults log' + disk.faults side') not.why not.part not.stopped.status_is

    pub import_complete : source.tells i → length (source.ahead i) ≤ LONGEST_TABLE → (Rose (source.faults i) (source.faults i') → ⊥) → (Rose (sink.faults o) (sink.faults o') → ⊥)
        → (Rose (disk.faults log + disk.faults side) (disk.faults log' + disk.faults side') → ⊥) → IsImport (pair_of disk) clock source sink caller r r' c c' i i' o o' status → IsComplete status ⊎ (status ≡ 14)
    import_complete given few reads writes disks (inl did) = told_complete sink o o' status did.imported (λ is. disks (disks_rose did is)) writes did.told
    import_complete given few reads writes disks (inr not) = inl (unread_complete source LONGEST_TABLE i i' status given few reads not.why not.part not.stopped.status_is)

-- What the publishing of a package leaves in the two files of a store, and with which statuses it ends.
use Rattle.std.proofs.Common.{◌≡◌, ◌⊎◌, inl, inr, ℕ, ◌+◌, ◌≤◌, Bool, true, false, List, [], ◌++◌, length, refl, sym, subst, arith}
use mathlib.Core.Bool.{false≢true}
use Rattle.news_types.specs.Books.{Book, onto}
use Rattle.news_types.specs.Calls as call
use Rattle.news_types.specs.Calls.{follow}
use Rattle.news_types.specs.History.{moment_at}
use Rattle.news_types.specs.Names.{Bytes}
use Rattle.news_types.specs.declared.entry.Entry.{Entry}
use Rattle.news_io.specs.Clock.{ClockMeaning}
use Rattle.news_io.specs.Disk.{DiskMeaning}
use Rattle.news_io.specs.Faults.{Rose}
use Rattle.news_io.specs.Keeper.{KeeperMeaning}
use Rattle.news_io.specs.Sink.{SinkMeaning}
use Rattle.news_io.specs.Source.{SourceMeaning}
use Rattle.news_pair.specs.Keeper.{pair_of}
use Rattle.news_pair.specs.Stands.{log_disk, side_disk}
use Rattle.news_pair.specs.declared.pair.Pair.{Pair}
use Rattle.news_room.specs.Events.{Happens}
use Rattle.news_room.specs.Said.{said, said_tick, is_failure}
use Rattle.news_room.specs.Stands.{Stands, numbers}
use Rattle.news_room.specs.Steps.{TickStep, RequestStep, ToldStep, After, entries}
use Rattle.news_room.specs.declared.answers.Handled.{Handled}
use Rattle.news_room.specs.declared.answers.Ticked.{Ticked}
use Rattle.news_room.specs.declared.room.Room.{Room}
use Rattle.news_room.proofs.Going.{after_then}
use Rattle.line_run.specs.Status.{IsComplete}
use Rattle.desk_answers.specs.Answers.{reply_bytes, denial_bytes, bad_bytes}
use Rattle.package_rules.specs.declared.publish.Packaged.{Packaged}
use Rattle.package_rules.specs.Composed.{Composed}
use Rattle.package_rules.specs.Publishing.{packaged_by, flash_of, IsFlashed, HasNoReaders, FlashStep, BehindTick, IsPublished}
use Rattle.package_rules.specs.Report.{no_readers_text}
use Rattle.store_files.specs.Store.{IsOpenRoom}
use Rattle.whole_runs.specs.Packaging.{LONGEST_INPUT, end_line, IsPackagedTold, HasPublished, IsPackageRun}
use Rattle.newsdesk_cli.specs.Command.{IsServed}
use Rattle.newsdesk_cli.specs.FilesLeft.{FilesLeft}
use Rattle.newsdesk_cli.proofs.Commands.{rose_along}
use Rattle.newsdesk_cli.proofs.FilesLeft.{step_left}
use Rattle.newsdesk_cli.proofs.Statuses.{others, text_served, text_complete, unread_served, unread_complete}
use Rattle.newsdesk_cli.proofs.Still.{still_left}

-- ---- by what the package was told as

module _ {O : Type 0} (sink : SinkMeaning O) (o o' : O) (status : ℕ) where
  -- a keeper that failed is told by status 6
  told_fault : (answer : Packaged) → answer ≡ Packaged.Fault → IsPackagedTold sink answer o o' status → status ≡ 6
  told_fault Packaged.Fault is told = told.status_is
  told_fault (Packaged.Done reply) is told = absurd (cc is)
  told_fault (Packaged.Repeat reply) is told = absurd (cc is)
  told_fault (Packaged.Denied denial) is told = absurd (cc is)
  told_fault (Packaged.NoReaders front) is told = absurd (cc is)
  told_fault (Packaged.Full size count) is told = absurd (cc is)
  told_fault Packaged.Memory is told = absurd (cc is)

  told_served : (before now : ℕ) (answer : Packaged) → (answer ≡ Packaged.Fault → Rose before now) → IsPackagedTold sink answer o o' status → IsServed before now status
  told_served before now (Packaged.Done reply) rose told = text_served sink (end_line (reply_bytes reply false)) o o' status before now told
  told_served before now (Packaged.Repeat reply) rose told = text_served sink (end_line (reply_bytes reply true)) o o' status before now told
  told_served before now (Packaged.Denied denial) rose told = text_served sink (end_line (denial_bytes denial)) o o' status before now told
  told_served before now (Packaged.NoReaders front) rose told = text_served sink (end_line (no_readers_text front)) o o' status before now told
  told_served before now Packaged.Fault rose told = others before now 6 status (λ s. absurd (omega (arith, s))) (λ s. absurd (omega (arith, s))) (λ s. rose refl) told.status_is
  told_served before now (Packaged.Full size count) rose told = others before now 8 status (λ s. absurd (omega (arith, s))) (λ s. absurd (omega (arith, s))) (λ s. absurd (omega (arith, s))) told.status_is
  told_served before now Packaged.Memory rose told = others before now 9 status (λ s. absurd (omega (arith, s))) (λ s. absurd (omega (arith, s))) (λ s. absurd (omega (arith, s))) told.status_is

  told_complete : (answer : Packaged) → (answer ≡ Packaged.Fault → ⊥) → (Rose (sink.faults o) (sink.faults o') → ⊥) → IsPackagedTold sink answer o o' status → IsComplete status
  told_complete (Packaged.Done reply) sound calm told = text_complete sink (end_line (reply_bytes reply false)) o o' status calm told
  told_complete (Packaged.Repeat reply) sound calm told = text_complete sink (end_line (reply_bytes reply true)) o o' status calm told
  told_complete (Packaged.Denied denial) sound calm told = text_complete sink (end_line (denial_bytes denial)) o o' status calm told
  told_complete (Packaged.NoReaders front) sound calm told = text_complete sink (end_line (no_readers_text front)) o o' status calm told
  told_complete Packaged.Fault sound calm told = absurd (sound refl)
  told_complete (Packaged.Full size count) sound calm told = inr (inl told.status_is)
  told_complete Packaged.Memory sound calm told = inr (inr told.status_is)

-- the flash did not fail where the package was told otherwise
flash_calm : (answer : Packaged) (handled : Handled) → answer ≡ packaged_by handled → (answer ≡ Packaged.Fault → ⊥) → is_failure (said handled) ≡ false
flash_calm answer (Handled.Done reply) is sound = refl
flash_calm answer (Handled.Repeat reply) is sound = refl
flash_calm answer (Handled.Denied denial) is sound = refl
flash_calm answer Handled.Fault is sound = absurd (sound is)
flash_calm answer (Handled.Full size count) is sound = refl
flash_calm answer Handled.Memory is sound = refl

-- ---- a keeper that failed

module _ {K : Type 0} (keeper : KeeperMeaning K) (now : ℕ) (caller : Bytes) (number : ℕ) (p : Composed) where
  flash_rose : (mid new : Room K) (b : Book) → Stands keeper mid b → (handled : Handled) → Packaged.Fault ≡ packaged_by handled → IsFlashed keeper mid new now caller number p handled → Rose (keeper.faults mid.keeper) (keeper.faults new.keeper)
  flash_rose mid new b stands Handled.Fault is f = let happened = f.happens b stands in happened.step.rose
  flash_rose mid new b stands (Handled.Done reply) is f = absurd (cc is)
  flash_rose mid new b stands (Handled.Repeat reply) is f = absurd (cc is)
  flash_rose mid new b stands (Handled.Denied denial) is f = absurd (cc is)
  flash_rose mid new b stands (Handled.Full size count) is f = absurd (cc is)
  flash_rose mid new b stands Handled.Memory is f = absurd (cc is)

  behind_rose : (old mid new : Room K) (b : Book) (released : List Entry) (t : Ticked) → Happens keeper old mid b released call.Ticked now (said_tick t) (TickStep (numbers keeper old mid) b now released t)
      → BehindTick keeper mid new now caller number p t Packaged.Fault → Rose (keeper.faults old.keeper) (keeper.faults new.keeper)
  behind_rose old mid new b released (Ticked.Kept place) tick rest =
      subst (λ (n : ℕ). Rose n (keeper.faults new.keeper)) tick.step.2.whole.calm (flash_rose mid new (onto released b) tick.stands rest.0 rest.1 rest.2)
  behind_rose old mid new b released Ticked.Still tick rest =
      subst (λ (n : ℕ). Rose n (keeper.faults new.keeper)) tick.step.1.whole.calm (flash_rose mid new (onto released b) tick.stands rest.0 rest.1 rest.2)
  behind_rose old mid new b released Ticked.Fault tick rest = subst (λ (k : Room K). Rose (keeper.faults old.keeper) (keeper.faults k.keeper)) (sym rest.1) tick.step.rose
  behind_rose old mid new b released (Ticked.Full size count) tick rest = absurd (cc rest.0)

  publish_rose : (old new : Room K) (b : Book) → Stands keeper old b → (answer : Packaged) → IsPublished keeper old new now caller number p answer → answer ≡ Packaged.Fault → Rose (keeper.faults old.keeper) (keeper.faults new.keeper)
  publish_rose old new b stands Packaged.Fault a is = behind_rose old a.mid new b a.released a.ticked (a.tick b stands) a.rest
  publish_rose old new b stands (Packaged.Done reply) a is = absurd (cc is)
  publish_rose old new b stands (Packaged.Repeat reply) a is = absurd (cc is)
  publish_rose old new b stands (Packaged.Denied denial) a is = absurd (cc is)
  publish_rose old new b stands (Packaged.NoReaders front) a is = absurd (cc is)
  publish_rose old new b stands (Packaged.Full size count) a is = absurd (cc is)
  publish_rose old new b stands Packaged.Memory a is = absurd (cc is)

-- ---- the files

module _ {D : Type 0} (disk : DiskMeaning D) (log side : D) (r : Room (Pair D)) (status : ℕ) (opened : IsOpenRoom disk log side r) (tells : disk.tells log) (tells' : disk.tells side) (now : ℕ) (caller : Bytes) (number : ℕ) (p : Composed) where
  abbrev here : Book
  here = record { store = opened.store; told = true; list = opened.history }

  abbrev Left : Room (Pair D) → Type 0
  Left k = FilesLeft disk log side opened.store r k opened.history status

  abbrev Ticks : Room (Pair D) → List Entry → Ticked → Type 0
  Ticks mid released t = Happens (pair_of disk) r mid here released call.Ticked now (said_tick t) (TickStep (numbers (pair_of disk) r mid) here now released t)

  -- a tick, and nothing behind it
  tick_left : (mid : Room (Pair D)) (released : List Entry) (t : Ticked) → Ticks mid released t → ((status ≡ 6 → ⊥) → is_failure (said_tick t) ≡ false) → Left mid
  tick_left mid released t tick sure = step_left disk log side r mid status opened tells tells' _ released (is_failure (said_tick t)) sure tick.stands (tick.told refl)

  abbrev due : List Entry
  due = entries (follow here.list call.Ticked (moment_at here.list now))

  -- a tick of which all was kept, and the flash
  module _ (mid new : Room (Pair D)) (released : List Entry) (ticked : After (pair_of disk) r mid here due released false (Unit {0})) (whole : released ≡ due) where
    flash_left : (handled : Handled) → IsFlashed (pair_of disk) mid new now caller number p handled → ((status ≡ 6 → ⊥) → is_failure (said handled) ≡ false) → Left new
    flash_left handled f sure =
        let b : Book = onto released here in
        let happened = f.happens b ticked.stands in
        let asked : List Entry = entries (follow b.list (call.Requested caller number (flash_of p b.list)) (moment_at b.list now)) in
        let flashed : After (pair_of disk) mid new b asked f.more (is_failure (said handled)) (Unit {0}) = record { stands = happened.stands; did = tt; told = happened.told } in
        let both = after_then (pair_of disk) r mid new here due asked released f.more (is_failure (said handled)) (Unit {0}) (Unit {0}) (Unit {0}) whole ticked flashed tt in
        step_left disk log side r new status opened tells tells' _ (released ++ f.more) (is_failure (said handled)) sure both.stands (both.told refl)

    -- so, or nothing was asked
    behind_left : (mid_left : Left mid) (answer : Packaged) → ((status ≡ 6 → ⊥) → answer ≡ Packaged.Fault → ⊥) → FlashStep (pair_of disk) mid new now caller number p answer → Left new
    behind_left mid_left (Packaged.NoReaders front) sound step = subst Left (sym step.same) mid_left
    behind_left mid_left Packaged.Memory sound (inl same) = subst Left (sym same) mid_left
    behind_left mid_left Packaged.Memory sound (inr flashed) = flash_left Handled.Memory flashed (λ other. refl)
    behind_left mid_left (Packaged.Done reply) sound step = flash_left step.0 step.2 (λ other. flash_calm (Packaged.Done reply) step.0 step.1 (sound other))
    behind_left mid_left (Packaged.Repeat reply) sound step = flash_left step.0 step.2 (λ other. flash_calm (Packaged.Repeat reply) step.0 step.1 (sound other))
    behind_left mid_left (Packaged.Denied denial) sound step = flash_left step.0 step.2 (λ other. flash_calm (Packaged.Denied denial) step.0 step.1 (sound other))
    behind_left mid_left Packaged.Fault sound step = flash_left step.0 step.2 (λ other. flash_calm Packaged.Fault step.0 step.1 (sound other))
    behind_left mid_left (Packaged.Full size count) sound step = flash_left step.0 step.2 (λ other. flash_calm (Packaged.Full size count) step.0 step.1 (sound other))

  rest_left : (mid new : Room (Pair D)) (released : List Entry) (t : Ticked) → Ticks mid released t → (answer : Packaged) → ((status ≡ 6 → ⊥) → answer ≡ Packaged.Fault → ⊥) → BehindTick (pair_of disk) mid new now caller number p t answer → Left new
  rest_left mid new released (Ticked.Kept place) tick answer sound rest =
      behind_left mid new released (record { stands = tick.stands; did = tt; told = tick.told }) tick.step.2.whole.is (tick_left mid released (Ticked.Kept place) tick (λ other. refl)) answer sound rest
  rest_left mid new released Ticked.Still tick answer sound rest =
      behind_left mid new released (record { stands = tick.stands; did = tt; told = tick.told }) tick.step.1.whole.is (tick_left mid released Ticked.Still tick (λ other. refl)) answer sound rest
  rest_left mid new released Ticked.Fault tick answer sound rest = subst Left (sym rest.1) (tick_left mid released Ticked.Fault tick (λ other. absurd (sound other rest.0)))
  rest_left mid new released (Ticked.Full size count) tick answer sound rest = subst Left (sym rest.1) (tick_left mid released (Ticked.Full size count) tick (λ other. refl))

-- ---- the run

module _ {D C S O : Type 0} (disk : DiskMeaning D) (clock : ClockMeaning C) (source : SourceMeaning S) (sink : SinkMeaning O) (caller : Bytes) (number : ℕ)
    (log side : D) (r r' : Room (Pair D)) (c c' : C) (i i' : S) (o o' : O) (status : ℕ) (opened : IsOpenRoom disk log side r) where
  pub package_left : disk.tells log → disk.tells side → IsPackageRun (pair_of disk) clock source sink caller number r r' c c' i i' o o' status → FilesLeft disk log side opened.store r r' opened.history status
  package_left tells tells' (inl did) =
      let b : Book = record { store = opened.store; told = true; list = opened.history } in
      let stands = (opened.holds true (λ is. (tells, tells'))).stands in
      rest_left disk log side r status opened tells tells' did.now caller number did.package_is did.published.mid r' did.published.released did.published.ticked
      (did.published.tick b stands) did.packaged (λ other is. other (told_fault sink o o' status did.packaged is did.told)) did.published.rest
  package_left tells tells' (inr (inl bad)) = still_left disk log side r r' status opened tells tells' bad.same
  package_left tells tells' (inr (inr not)) = still_left disk log side r r' status opened tells tells' not.same

  abbrev untold : Book
  untold = record { store = opened.store; told = false; list = opened.history }

  first_stands : Stands (pair_of disk) r untold
  first_stands = (opened.holds false (λ is. absurd (false≢true is))).stands

  -- files that are left by the room behind the run
  module _ (log' side' : D) (same : log' ≡ log_disk r'.keeper) (same_side : side' ≡ side_disk r'.keeper) where
    disks_rose : (did : HasPublished (pair_of disk) clock source sink caller number r r' c c' i i' o o' status) → did.packaged ≡ Packaged.Fault → Rose (disk.faults log + disk.faults side) (disk.faults log' + disk.faults side')
    disks_rose did is =
        rose_along disk log side log' side' r.keeper r'.keeper opened.calm same same_side
        (publish_rose (pair_of disk) did.now caller number did.package_is r r' untold first_stands did.packaged did.published is)

    pub package_served : IsPackageRun (pair_of disk) clock source sink caller number r r' c c' i i' o o' status → IsServed (disk.faults log + disk.faults side) (disk.faults log' + disk.faults side') status
    package_served (inl did) = told_served sink o o' status (disk.faults log + disk.faults side) (disk.faults log' + disk.faults side') did.packaged (disks_rose did) did.told
    package_served (inr (inl bad)) = elim bad.told [
      | inl told ↦ text_served sink (end_line (bad_bytes told.0)) o o' status (disk.faults log + disk.faults side) (disk.faults log' + disk.faults side') told.2
      | inr stopped ↦ others (disk.faults log + disk.faults side) (disk.faults log' + disk.faults side') 9 status (λ s. absurd (omega (arith, s))) (λ s. absurd (omega (arith, s))) (λ s. absurd (omega (arith, s))) stopped.status_is
    ]
    package_served (inr (inr not)) = unread_served source LONGEST_INPUT i i' status (disk.faults log + disk.faults side) (disk.faults log' + disk.faults side') not.why not.part not.stopped.status_is

    pub package_complete : source.tells i → length (source.ahead i) ≤ LONGEST_INPUT → (Rose (source.faults i) (source.faults i') → ⊥) → (Rose (sink.faults o) (sink.faults o') → ⊥)
        → (Rose (disk.faults log + disk.faults side) (disk.faults log' + disk.faults side') → ⊥) → IsPackageRun (pair_of disk) clock source sink caller number r r' c c' i i' o o' status → IsComplete status
    package_complete given few reads writes disks (inl did) = told_complete sink o o' status did.packaged (λ is. disks (disks_rose did is)) writes did.told
    package_complete given few reads writes disks (inr (inl bad)) = elim bad.told [
      | inl told ↦ text_complete sink (end_line (bad_bytes told.0)) o o' status writes told.2
      | inr stopped ↦ inr (inr stopped.status_is)
    ]
    package_complete given few reads writes disks (inr (inr not)) = unread_complete source LONGEST_INPUT i i' status given few reads not.why not.part not.stopped.status_is

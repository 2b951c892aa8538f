-- Runs and crashes, one behind the other, are events of one world.
use Rattle.std.specs.List.{slice_get}
use Rattle.std.proofs.Common.{◌≡◌, ◌⊎◌, inl, inr, ℕ, List, [], ◌∷◌, ◌++◌, length, Option, Some, None, refl, sym, ap, ◌∙◌, subst, append-nil}
use Rattle.news_types.specs.declared.query.Query.{Query}
use Rattle.news_types.specs.declared.query.Query.TheVariants as query
use Rattle.command_words.specs.declared.words.IngestFormat.{IngestFormat}
use Rattle.news_types.specs.declared.entry.Entry.{Entry}
use Rattle.news_types.specs.Names.{Bytes}
use Rattle.news_types.specs.History.{History}
use Rattle.news_types.specs.Frames.{Writer}
use Rattle.feed_frames.specs.Writer.{the_writer}
use Rattle.news_io.specs.Clock.{ClockMeaning}
use Rattle.news_io.specs.Disk.{DiskMeaning}
use Rattle.news_io.specs.Left.{IsLeft, Between}
use Rattle.news_io.specs.Link.{LinkMeaning}
use Rattle.news_io.specs.Sink.{SinkMeaning}
use Rattle.news_io.specs.Source.{SourceMeaning}
use Rattle.news_pair.specs.Keeper.{pair_of}
use Rattle.news_pair.specs.Stands.{log_disk, side_disk}
use Rattle.news_room.specs.Stands.{in_doubt}
use Rattle.room_reports.specs.Texts.{feed_report_at, queue_report_at}
use Rattle.room_runs.specs.Batch.{InputAnswered}
use Rattle.newsdesk_cli.specs.Ingests.{IngestAnswered}
use Rattle.store_files.specs.Files.{Files, OpenTo, OpenAlike, MayLeave, LeftSince}
use Rattle.world_laws.specs.World.{World, Event, Reopens, opening, reopened, happens, run}
use Rattle.world_laws.proofs.Headline.{headline_holds}
use Rattle.newsdesk_cli.specs.Command.{HasAnswered, HasReported, HasDrained}
use Rattle.newsdesk_cli.specs.Imports.{HasTakenTable}
use Rattle.newsdesk_cli.specs.Packages.{HasTakenPackage}
use Rattle.newsdesk_cli.specs.Opened.{IsLook, HasGoneOn}
use Rattle.newsdesk_cli.specs.FilesLeft.{NoneInDoubt, FilesLeft}
use Rattle.newsdesk_cli.proofs.Asking.{asked_looks}
use Rattle.program_events.specs.Events.{line_input}
use Rattle.program_events.specs.Stories.{ingest_input}
use Rattle.program_events.specs.Leads.{IsBegunOf, LeadsOn}
use Rattle.program_events.specs.Chains.{Did, Init, Batch, Ingest, Import, Package, Feed, Queue, Drain, Check, Archive, Contents, Audit, Ask, Digest, Limits, Why, Ship, Pack, Run, LeftByRun, MayCrash, IsLeftBy, AreLeft, FollowOneAnother, world, AreOfGoing, Answers, Takes, Publishes, Reports, Pushes, AreOfRun, AreOfRuns, ComesTo, ChainsAreEvents}
use Rattle.program_events.proofs.Turns.{run_on}
use Rattle.program_events.proofs.Draining.{drain_happened}
use Rattle.program_events.proofs.Imports.{import_happened, import_leads}
use Rattle.program_events.proofs.Packages.{package_happened, package_leads}
use Rattle.program_events.proofs.Reports.{report_happened}
use Rattle.program_events.proofs.Runs.{batch_events, ingest_events}
use Rattle.program_events.proofs.Stores.{one_history, alike, to_both, refused_keeps, init_keeps, init_time, opened_keeps, ship_keeps, ship_time, packed_within, counts_since}

-- ---- a world behind an opening

world_on : (write : Writer) (first second : List Event) → world write (first ++ second) ≡ run write second (world write first)
world_on write first second = run_on write first second opening

module _ {D S O C L : Type 0} (disk : DiskMeaning D) (clock : ClockMeaning C) (source : SourceMeaning S) (sink : SinkMeaning O) (link : LinkMeaning L) (store : Bytes) (long : length store ≡ 16) where
  -- publications are written as those of the store are
  abbrev write : Writer
  write = the_writer store

  abbrev Runs : Type 0
  Runs = List (Run disk clock source sink link)

  abbrev Comes : Runs → Files → Type 0
  Comes runs files = ComesTo disk clock source sink link write store runs files

  abbrev Left : Runs → Files → Type 0
  Left runs files = AreLeft disk clock source sink link store runs files

  -- an opening behind events, of which the headline holds
  comes_to : (runs : Runs) (files : Files) (events : List Event) → AreOfRuns disk clock source sink link write runs events → (which : Option ℕ) → OpenTo store files (happens write (world write events) (Reopens which)).server.list → Comes runs files
  comes_to runs files events of_runs which opens = record {
    events = events;
    of_runs = of_runs;
    which = which;
    opens = subst (λ (v : World). OpenTo store files v.server.list) (sym (world_on write events (Reopens which ∷ []))) opens;
    headline = headline_holds write (events ++ Reopens which ∷ []);
  }

  -- a new store
  none_ran : (files : Files) → OpenTo store files [] → Comes [] files
  none_ran files opens = comes_to [] files [] refl None opens

  -- what a run did, as events of a world
  abbrev Happening : Type 1
  Happening = Writer → World → List Event → Type 0

  abbrev Goes : Run disk clock source sink link → Type 0
  Goes r = HasGoneOn disk r.log r.log' r.side r.side' r.status

  -- it has happened in each world that has the list, leads to the list that the files are left with, and is what its run did
  record HasHappened (r : Run disk clock source sink link) (a : Goes r) (Happened : Happening) : Type 0 where
    shown : (w : World) → w.server.list ≡ a.opened.history → (events : List Event) × Happened write w events
    leads : (w : World) (events : List Event) → Happened write w events → LeadsOn write w (a.files r.tells r.tells_side).list (in_doubt (pair_of disk) a.after) events
    of_run : (before events : List Event) → AreOfGoing disk clock source sink link Happened r write before events → AreOfRun disk clock source sink link write before r r.did events

  -- ---- what went on from files that come to the list of a world

  module _ (r : Run disk clock source sink link) (a : Goes r) (Happened : Happening) (hap : HasHappened r a Happened) (runs : Runs) (before : Comes runs (disk.seen r.log, disk.seen r.side)) where
    abbrev start : World
    start = world write (before.events ++ Reopens before.which ∷ [])

    same : (store ≡ a.opened.store) × (start.server.list ≡ a.opened.history)
    same = one_history store a.opened.store long a.opened.long (disk.seen r.log, disk.seen r.side) start.server.list a.opened.history before.opens (a.opened.bytes r.tells r.tells_side)

    abbrev left : FilesLeft disk r.log r.side a.opened.store a.room a.after a.opened.history r.status
    left = a.files r.tells r.tells_side

    did : (events : List Event) × Happened write start events
    did = hap.shown start same.1

    on : LeadsOn write start left.list (in_doubt (pair_of disk) a.after) did.0
    on = hap.leads start did.0 did.1

    -- the first of its events and what has begun of the next, where a crash has undone the rest
    some_ran : (files : Files) (front begun undone : List Event) → did.0 ≡ front ++ undone → IsBegunOf undone begun → (r.crashed ≡ None → undone ≡ []) → (which : Option ℕ) → OpenTo store files (happens write (run write (front ++ begun) start) (Reopens which)).server.list → Comes (r ∷ runs) files
    some_ran files front begun undone all is_begun whole which opens =
        let events : List Event = front ++ begun in
        comes_to (r ∷ runs) files ((before.events ++ Reopens before.which ∷ []) ++ events) (
          before.events,
          before.of_runs,
          hap.of_run before.events ((before.events ++ Reopens before.which ∷ []) ++ events) (
              inr (before.which, events, refl, record { front = front; begun = begun; events_are = refl; undone = undone; is_begun = is_begun; whole = whole; happened = subst (Happened write start) all did.1 })
              ),
        )
        which (subst (λ (v : World). OpenTo store files (happens write v (Reopens which)).server.list) (sym (world_on write (before.events ++ Reopens before.which ∷ []) events)) opens)

    -- its list behind all of them
    whole_list : (run write (did.0 ++ []) start).server.list ≡ left.list
    whole_list = ap (λ (l : List Event). (run write l start).server.list) (append-nil did.0) ∙ on.lead.list

    -- all of them, where the files open to the last list, or to it and one in doubt
    all_ran : (files : Files) → IsLeft (OpenTo a.opened.store) left.list (in_doubt (pair_of disk) a.after) files → Comes (r ∷ runs) files
    all_ran files (inl opens) =
        some_ran files did.0 [] [] (sym (append-nil did.0)) tt (λ none. refl) None
        (subst (λ (h : History). OpenTo store files h) (sym whole_list) (subst (λ (s : Bytes). OpenTo s files left.list) (sym same.0) opens))
    all_ran files (inr one) =
        let e : Entry = one.0 in
        let at = on.doubt e one.1 in
        let there : slice_get (run write (did.0 ++ []) start).server.doubt at.0 ≡ Some e = ap (λ (l : List Event). slice_get (run write l start).server.doubt at.0) (append-nil did.0) ∙ at.1 in
        some_ran files did.0 [] [] (sym (append-nil did.0)) tt (λ none. refl) (Some at.0)
        (subst (λ (found : Option Entry). OpenTo store files (reopened (run write (did.0 ++ []) start).server found).list) (sym there)
        (subst (λ (h : History). OpenTo store files (e ∷ h)) (sym whole_list) (subst (λ (s : Bytes). OpenTo s files (e ∷ left.list)) (sym same.0) one.2)))

    -- the first few of them, where a crash has left the files so
    few_ran : (files : Files) → (r.crashed ≡ None → ⊥) → Between (OpenTo a.opened.store) a.opened.history left.list NoneInDoubt (in_doubt (pair_of disk) a.after) files → Comes (r ∷ runs) files
    few_ran files crash b = by b.left
      where
        by : IsLeft (OpenTo a.opened.store) b.part (λ e. ((b.part ≡ a.opened.history) × NoneInDoubt e) ⊎ ((b.part ≡ left.list) × in_doubt (pair_of disk) a.after e)) files → Comes (r ∷ runs) files
        by (inl opens) =
            let f = on.lead.each b.within.0 b.part b.behind.0 (b.behind.1 ∙ ap (λ (h : History). b.behind.0 ++ h) (sym same.1)) b.within.1 in
            some_ran files f.front f.begun f.rest f.events_are f.is_begun (λ none. absurd (crash none)) None
            (subst (λ (h : History). OpenTo store files h) (sym f.list) (subst (λ (s : Bytes). OpenTo s files b.part) (sym same.0) opens))
        by (inr one) = elim one.1 [
          | inl at_first ↦ absurd at_first.1
          | inr at_last ↦ all_ran files (inr (one.0, at_last.1, subst (λ (h : History). OpenTo a.opened.store files (one.0 ∷ h)) at_last.0 one.2))
        ]

    -- a crash has left the files as they were
    none_left : (crash : r.crashed ≡ None → ⊥) (files others : Files) → Comes runs others → OpenAlike store others files → Comes (r ∷ runs) files
    none_left crash files others c same_files = record {
      events = c.events;
      of_runs = (c.events, c.of_runs, hap.of_run c.events c.events (inl (crash, refl)));
      which = c.which;
      opens = alike store others files (world write (c.events ++ Reopens c.which ∷ [])).server.list c.opens same_files;
      headline = c.headline;
    }

  -- ---- a run more, where all files before it come to lists of a world

  module _ (r : Run disk clock source sink link) (runs : Runs) (begins : (files : Files) → MayLeave disk r.log r.side files → Left runs files) (before : (files : Files) → Left runs files → Comes runs files) where
    from : Comes runs (disk.seen r.log, disk.seen r.side)
    from = before (disk.seen r.log, disk.seen r.side) (begins (disk.seen r.log, disk.seen r.side) (disk.leaves_seen r.log r.tells, disk.leaves_seen r.side r.tells_side))

    abbrev list : History
    list = (world write (from.events ++ Reopens from.which ∷ [])).server.list

    abbrev TheDid : Type 0
    TheDid = Did disk clock source sink link r.log r.log' r.side r.side' r.input r.input' r.output r.output' r.clock_was r.clock_is r.links r.links' r.status

    -- a run that is no event: the files open as some of those before it
    as_before : ((write : Writer) (events : List Event) → AreOfRun disk clock source sink link write events r r.did events) → (files : Files) → (others : Files) × MayLeave disk r.log r.side others × OpenAlike store others files → Comes (r ∷ runs) files
    as_before no_event files was =
        let c = before was.0 (begins was.0 was.1) in
        record {
          events = c.events;
          of_runs = (c.events, c.of_runs, no_event write c.events);
          which = c.which;
          opens = alike store was.0 files (world write (c.events ++ Reopens c.which ∷ [])).server.list c.opens was.2;
          headline = c.headline;
        }

    -- ---- a run that only looks at its store, which is no event

    looked_now : {Told : Bytes → History → Type 0} → ((write : Writer) (events : List Event) → AreOfRun disk clock source sink link write events r r.did events) → IsLook disk sink r.log r.log' r.side r.side' r.output r.output' r.status Told
        → (files : Files) → MayLeave disk r.log' r.side' files → Comes (r ∷ runs) files
    looked_now no_event (inl refused) files may =
        as_before no_event files
        (refused_keeps disk store long r.log r.side list r.tells r.tells_side from.opens r.log' r.side' refused.why refused.refused files (counts_since disk r.log r.log' (refused.refused.crash r.tells r.tells_side).later r.side' files may))
    looked_now no_event (inr c) files may =
        as_before no_event files (
          (disk.seen r.log, disk.seen r.side),
          (disk.leaves_seen r.log r.tells, disk.leaves_seen r.side r.tells_side),
          to_both store long (disk.seen r.log, disk.seen r.side) files list c.opened.store c.opened.long c.opened.history from.opens (c.opened.bytes r.tells r.tells_side) (c.files r.tells r.tells_side files (inr may.0, inr may.1)),
        )

    looked_then : {Told : Bytes → History → Type 0} → ((write : Writer) (events : List Event) → AreOfRun disk clock source sink link write events r r.did events) → IsLook disk sink r.log r.log' r.side r.side' r.output r.output' r.status Told
        → (files : Files) → LeftSince disk r.log' r.side' (disk.moment r.log) files → Comes (r ∷ runs) files
    looked_then no_event (inl refused) files may =
        as_before no_event files (refused_keeps disk store long r.log r.side list r.tells r.tells_side from.opens r.log' r.side' refused.why refused.refused files may)
    looked_then no_event (inr c) files may =
        as_before no_event files
        (opened_keeps disk store long r.log r.side list r.tells r.tells_side from.opens c.room c.opened files
        (subst (λ (d : D). disk.left_since d (disk.moment r.log) files.0) c.same may.0, subst (λ (d : D). disk.may_leave d files.1) c.same_side may.1))

    -- ---- files that were opened, and left otherwise

    module _ (a : Goes r) (Happened : Happening) (hap : HasHappened r a Happened) where
      going_left : (files : Files) → MayLeave disk r.log' r.side' files → Comes (r ∷ runs) files
      going_left files may =
          let there = subst (λ (d : D). disk.may_leave d files.0) a.same may.0 in
          let there' = subst (λ (d : D). disk.may_leave d files.1) a.same_side may.1 in
          all_ran r a Happened hap runs from files ((a.files r.tells r.tells_side).now files (inr there, inr there'))

      going_crashed : (files : Files) → (r.crashed ≡ None → ⊥) → LeftSince disk r.log' r.side' (disk.moment r.log) files → Comes (r ∷ runs) files
      going_crashed files crash may =
          let there = subst (λ (d : D). disk.left_since d (disk.moment r.log) files.0) a.same may.0 in
          let there' = subst (λ (d : D). disk.may_leave d files.1) a.same_side may.1 in
          elim ((a.files r.tells r.tells_side).since_begun files (there, there')) [
            | inl between ↦ few_ran r a Happened hap runs from files crash between
            | inr was ↦ none_left r a Happened hap runs from crash files was.0 (before was.0 (begins was.0 was.1)) (subst (λ (s : Bytes). OpenAlike s was.0 files) (sym (same r a Happened hap runs from).0) was.2)
          ]

    -- ---- what happened, by what the run did

    is_of : (d : TheDid) → r.did ≡ d → (events these : List Event) → AreOfRun disk clock source sink link write events r d these → AreOfRun disk clock source sink link write events r r.did these
    is_of d is events these x = subst (λ (d : TheDid). AreOfRun disk clock source sink link write events r d these) (sym is) x

    lines_happened : (a : HasAnswered disk clock source sink r.log r.log' r.side r.side' r.input r.input' r.output r.output' r.clock_was r.clock_is r.status (λ room after b. InputAnswered (pair_of disk) clock source sink room after r.clock_was r.clock_is r.input r.input' r.output r.output' b 65 r.status))
        → r.did ≡ Batch (inr a) → HasHappened r a.went (Answers disk clock source sink link line_input r a)
    lines_happened a is = record {
      shown = λ w same. batch_events disk clock source sink r.log r.log' r.side r.side' r.input r.input' r.output r.output' r.clock_was r.clock_is r.status a r.tells r.tells_side write w same;
      leads = λ w events x. x.leads;
      of_run = is_of (Batch (inr a)) is;
    }

    ingest_happened : (format : IngestFormat) (provider : Bytes) (a : HasAnswered disk clock source sink r.log r.log' r.side r.side' r.input r.input' r.output r.output' r.clock_was r.clock_is r.status (λ room after b. IngestAnswered (pair_of disk) clock source sink provider format room after r.clock_was r.clock_is r.input r.input' r.output r.output' b 65 r.status))
        → r.did ≡ Ingest format provider (inr a) → HasHappened r a.went (Answers disk clock source sink link (ingest_input format provider) r a)
    ingest_happened format provider a is = record {
      shown = λ w same. ingest_events disk clock source sink r.log r.log' r.side r.side' r.input r.input' r.output r.output' r.clock_was r.clock_is r.status format provider a r.tells r.tells_side write w same;
      leads = λ w events x. x.leads;
      of_run = is_of (Ingest format provider (inr a)) is;
    }

    table_taken : (caller : Bytes) (a : HasTakenTable disk clock source sink r.log r.log' r.side r.side' r.input r.input' r.output r.output' r.clock_was r.clock_is r.status caller)
        → r.did ≡ Import caller (inr a) → HasHappened r a.went (Takes disk clock source sink link caller r a)
    table_taken caller a is = record {
      shown = λ w same. import_happened disk clock source sink caller r.log r.log' r.side r.side' r.clock_was r.clock_is r.input r.input' r.output r.output' r.status a.went r.tells r.tells_side write w same a.imported;
      leads = λ w events x. import_leads (pair_of disk) clock source sink caller a.went.room a.went.after r.clock_was r.clock_is r.input r.input' r.output r.output' r.status write w _ _ events a.imported x;
      of_run = is_of (Import caller (inr a)) is;
    }

    package_taken : (caller : Bytes) (number : ℕ) (a : HasTakenPackage disk clock source sink r.log r.log' r.side r.side' r.input r.input' r.output r.output' r.clock_was r.clock_is r.status caller number)
        → r.did ≡ Package caller number (inr a) → HasHappened r a.went (Publishes disk clock source sink link caller number r a)
    package_taken caller number a is = record {
      shown = λ w same. package_happened disk clock source sink caller number r.log r.log' r.side r.side' r.clock_was r.clock_is r.input r.input' r.output r.output' r.status a.went r.tells r.tells_side write w same a.published;
      leads = λ w events x. package_leads (pair_of disk) clock source sink caller number a.went.room a.went.after r.clock_was r.clock_is r.input r.input' r.output r.output' r.status write w _ _ events a.published x;
      of_run = is_of (Package caller number (inr a)) is;
    }

    drain_ran : (a : HasDrained disk clock sink r.log r.log' r.side r.side' r.output r.output' r.clock_was r.clock_is r.status link r.links r.links') → r.did ≡ Drain (inr a) → HasHappened r a.went (Pushes disk clock source sink link r a)
    drain_ran a is = record {
      shown = λ w same.
          let stores = one_history store a.went.opened.store long a.went.opened.long (disk.seen r.log, disk.seen r.side) list a.went.opened.history from.opens (a.went.opened.bytes r.tells r.tells_side) in
          let did = drain_happened disk clock sink r.log r.log' r.side r.side' r.output r.output' r.clock_was r.clock_is r.status link r.links r.links' a r.tells r.tells_side w same in
          (did.0, subst (λ (s : Bytes). Pushes disk clock source sink link r a (the_writer s) w did.0) (sym stores.0) did.1);
      leads = λ w events x. x.leads;
      of_run = is_of (Drain (inr a)) is;
    }

    report_ran : (q : Query) (report : History → Bytes) (a : HasReported disk clock sink r.log r.log' r.side r.side' r.output r.output' r.clock_was r.clock_is r.status report) (d : TheDid) → r.did ≡ d
        → ((before events : List Event) → AreOfGoing disk clock source sink link (Reports disk clock source sink link q report r a) r write before events → AreOfRun disk clock source sink link write before r d events)
        → HasHappened r a.went (Reports disk clock source sink link q report r a)
    report_ran q report a d is of = record {
      shown = λ w same. report_happened disk clock sink q report r.log r.log' r.side r.side' r.output r.output' r.clock_was r.clock_is r.status a r.tells r.tells_side write w same;
      leads = λ w events x. x.leads;
      of_run = λ before events x. is_of d is before events (of before events x);
    }

    -- ---- by what the run did

    left_now : (d : TheDid) → r.did ≡ d → (files : Files) → MayLeave disk r.log' r.side' files → Comes (r ∷ runs) files
    left_now (Init owner did) is files may =
        as_before (λ v events. subst (λ (d : TheDid). AreOfRun disk clock source sink link v events r d events) (sym is) refl) files
        (init_keeps disk store long r.log r.side list r.tells r.tells_side from.opens sink owner r.log' r.side' r.output r.output' r.status did files (counts_since disk r.log r.log' (init_time disk store long r.log r.side list r.tells r.tells_side from.opens sink owner r.log' r.side' r.output r.output' r.status did) r.side' files may))
    left_now (Batch (inr a)) is files may = going_left a.went _ (lines_happened a is) files may
    left_now (Ingest format provider (inr a)) is files may = going_left a.went _ (ingest_happened format provider a is) files may
    left_now (Batch (inl refused)) is files may =
        as_before (λ v events. subst (λ (d : TheDid). AreOfRun disk clock source sink link v events r d events) (sym is) refl) files
        (refused_keeps disk store long r.log r.side list r.tells r.tells_side from.opens r.log' r.side' refused.why.why refused.why.refused files (counts_since disk r.log r.log' (refused.why.refused.crash r.tells r.tells_side).later r.side' files may))
    left_now (Ingest format provider (inl refused)) is files may =
        as_before (λ v events. subst (λ (d : TheDid). AreOfRun disk clock source sink link v events r d events) (sym is) refl) files
        (refused_keeps disk store long r.log r.side list r.tells r.tells_side from.opens r.log' r.side' refused.why.why refused.why.refused files (counts_since disk r.log r.log' (refused.why.refused.crash r.tells r.tells_side).later r.side' files may))
    left_now (Import caller (inr a)) is files may = going_left a.went _ (table_taken caller a is) files may
    left_now (Import caller (inl refused)) is files may =
        as_before (λ v events. subst (λ (d : TheDid). AreOfRun disk clock source sink link v events r d events) (sym is) refl) files
        (refused_keeps disk store long r.log r.side list r.tells r.tells_side from.opens r.log' r.side' refused.why.why refused.why.refused files (counts_since disk r.log r.log' (refused.why.refused.crash r.tells r.tells_side).later r.side' files may))
    left_now (Package caller number (inr a)) is files may = going_left a.went _ (package_taken caller number a is) files may
    left_now (Package caller number (inl refused)) is files may =
        as_before (λ v events. subst (λ (d : TheDid). AreOfRun disk clock source sink link v events r d events) (sym is) refl) files
        (refused_keeps disk store long r.log r.side list r.tells r.tells_side from.opens r.log' r.side' refused.why.why refused.why.refused files (counts_since disk r.log r.log' (refused.why.refused.crash r.tells r.tells_side).later r.side' files may))
    left_now (Feed subscriber after (inr a)) is files may = going_left a.went _ (report_ran (query.Feed subscriber after) (feed_report_at subscriber after) a (Feed subscriber after (inr a)) is (λ before events x. x)) files may
    left_now (Queue (inr a)) is files may = going_left a.went _ (report_ran query.Queue queue_report_at a (Queue (inr a)) is (λ before events x. x)) files may
    left_now (Feed subscriber after (inl refused)) is files may =
        as_before (λ v events. subst (λ (d : TheDid). AreOfRun disk clock source sink link v events r d events) (sym is) refl) files
        (refused_keeps disk store long r.log r.side list r.tells r.tells_side from.opens r.log' r.side' refused.why.why refused.why.refused files (counts_since disk r.log r.log' (refused.why.refused.crash r.tells r.tells_side).later r.side' files may))
    left_now (Queue (inl refused)) is files may =
        as_before (λ v events. subst (λ (d : TheDid). AreOfRun disk clock source sink link v events r d events) (sym is) refl) files
        (refused_keeps disk store long r.log r.side list r.tells r.tells_side from.opens r.log' r.side' refused.why.why refused.why.refused files (counts_since disk r.log r.log' (refused.why.refused.crash r.tells r.tells_side).later r.side' files may))
    left_now (Drain (inr a)) is files may = going_left a.went _ (drain_ran a is) files may
    left_now (Drain (inl refused)) is files may =
        as_before (λ v events. subst (λ (d : TheDid). AreOfRun disk clock source sink link v events r d events) (sym is) refl) files
        (refused_keeps disk store long r.log r.side list r.tells r.tells_side from.opens r.log' r.side' refused.why.why.why refused.why.why.refused files (counts_since disk r.log r.log' (refused.why.why.refused.crash r.tells r.tells_side).later r.side' files may))
    left_now (Check did) is files may = looked_now (λ v events. subst (λ (d : TheDid). AreOfRun disk clock source sink link v events r d events) (sym is) refl) did files may
    left_now (Archive page query did) is files may = looked_now (λ v events. subst (λ (d : TheDid). AreOfRun disk clock source sink link v events r d events) (sym is) refl) did files may
    left_now (Contents publication did) is files may = looked_now (λ v events. subst (λ (d : TheDid). AreOfRun disk clock source sink link v events r d events) (sym is) refl) did files may
    left_now (Audit after did) is files may = looked_now (λ v events. subst (λ (d : TheDid). AreOfRun disk clock source sink link v events r d events) (sym is) refl) did files may
    left_now (Ask entries did) is files may = looked_now (λ v events. subst (λ (d : TheDid). AreOfRun disk clock source sink link v events r d events) (sym is) refl) (asked_looks disk source sink entries r.log r.log' r.side r.side' r.input r.input' r.output r.output' r.status did) files may
    left_now (Digest entries did) is files may = looked_now (λ v events. subst (λ (d : TheDid). AreOfRun disk clock source sink link v events r d events) (sym is) refl) did files may
    left_now (Limits did) is files may = looked_now (λ v events. subst (λ (d : TheDid). AreOfRun disk clock source sink link v events r d events) (sym is) refl) did files may
    left_now (Why publication subscriber did) is files may = looked_now (λ v events. subst (λ (d : TheDid). AreOfRun disk clock source sink link v events r d events) (sym is) refl) did files may
    left_now (Ship name did) is files may =
        as_before (λ v events. subst (λ (d : TheDid). AreOfRun disk clock source sink link v events r d events) (sym is) refl) files
        (ship_keeps disk store long r.log r.side list r.tells r.tells_side from.opens sink link name r.log' r.side' r.output r.output' r.status r.links r.links' did files (counts_since disk r.log r.log' (ship_time disk store long r.log r.side list r.tells r.tells_side from.opens sink link name r.log' r.side' r.output r.output' r.status r.links r.links' did) r.side' files may))
    left_now (Pack (inl refused)) is files may =
        as_before (λ v events. subst (λ (d : TheDid). AreOfRun disk clock source sink link v events r d events) (sym is) refl) files
        (refused_keeps disk store long r.log r.side list r.tells r.tells_side from.opens r.log' r.side' refused.why refused.refused files (counts_since disk r.log r.log' (refused.refused.crash r.tells r.tells_side).later r.side' files may))
    left_now (Pack (inr (inl p))) is files may =
        as_before (λ v events. subst (λ (d : TheDid). AreOfRun disk clock source sink link v events r d events) (sym is) refl) files (
          (disk.seen r.log, disk.seen r.side),
          (disk.leaves_seen r.log r.tells, disk.leaves_seen r.side r.tells_side),
          to_both store long (disk.seen r.log, disk.seen r.side) files list p.opened.store p.opened.long p.opened.history from.opens (p.opened.bytes r.tells r.tells_side) (p.files r.tells r.tells_side files (inr may.0, inr may.1)),
        )
    left_now (Pack (inr (inr p))) is files may =
        as_before (λ v events. subst (λ (d : TheDid). AreOfRun disk clock source sink link v events r d events) (sym is) refl) files (
          (disk.seen r.log, disk.seen r.side),
          (disk.leaves_seen r.log r.tells, disk.leaves_seen r.side r.tells_side),
          to_both store long (disk.seen r.log, disk.seen r.side) files list p.opened.store p.opened.long p.opened.history from.opens (p.opened.bytes r.tells r.tells_side) (p.files r.tells r.tells_side files may),
        )

    left_then : (d : TheDid) → r.did ≡ d → (r.crashed ≡ None → ⊥) → (files : Files) → LeftByRun disk clock source sink link r d files → Comes (r ∷ runs) files
    left_then (Init owner did) is crash files may =
        as_before (λ v events. subst (λ (d : TheDid). AreOfRun disk clock source sink link v events r d events) (sym is) refl) files
        (init_keeps disk store long r.log r.side list r.tells r.tells_side from.opens sink owner r.log' r.side' r.output r.output' r.status did files may)
    left_then (Batch (inr a)) is crash files may = going_crashed a.went _ (lines_happened a is) files crash may
    left_then (Ingest format provider (inr a)) is crash files may = going_crashed a.went _ (ingest_happened format provider a is) files crash may
    left_then (Batch (inl refused)) is crash files may =
        as_before (λ v events. subst (λ (d : TheDid). AreOfRun disk clock source sink link v events r d events) (sym is) refl) files
        (refused_keeps disk store long r.log r.side list r.tells r.tells_side from.opens r.log' r.side' refused.why.why refused.why.refused files may)
    left_then (Ingest format provider (inl refused)) is crash files may =
        as_before (λ v events. subst (λ (d : TheDid). AreOfRun disk clock source sink link v events r d events) (sym is) refl) files
        (refused_keeps disk store long r.log r.side list r.tells r.tells_side from.opens r.log' r.side' refused.why.why refused.why.refused files may)
    left_then (Import caller (inr a)) is crash files may = going_crashed a.went _ (table_taken caller a is) files crash may
    left_then (Import caller (inl refused)) is crash files may =
        as_before (λ v events. subst (λ (d : TheDid). AreOfRun disk clock source sink link v events r d events) (sym is) refl) files
        (refused_keeps disk store long r.log r.side list r.tells r.tells_side from.opens r.log' r.side' refused.why.why refused.why.refused files may)
    left_then (Package caller number (inr a)) is crash files may = going_crashed a.went _ (package_taken caller number a is) files crash may
    left_then (Package caller number (inl refused)) is crash files may =
        as_before (λ v events. subst (λ (d : TheDid). AreOfRun disk clock source sink link v events r d events) (sym is) refl) files
        (refused_keeps disk store long r.log r.side list r.tells r.tells_side from.opens r.log' r.side' refused.why.why refused.why.refused files may)
    left_then (Feed subscriber after (inr a)) is crash files may = going_crashed a.went _ (report_ran (query.Feed subscriber after) (feed_report_at subscriber after) a (Feed subscriber after (inr a)) is (λ before events x. x)) files crash may
    left_then (Queue (inr a)) is crash files may = going_crashed a.went _ (report_ran query.Queue queue_report_at a (Queue (inr a)) is (λ before events x. x)) files crash may
    left_then (Feed subscriber after (inl refused)) is crash files may =
        as_before (λ v events. subst (λ (d : TheDid). AreOfRun disk clock source sink link v events r d events) (sym is) refl) files
        (refused_keeps disk store long r.log r.side list r.tells r.tells_side from.opens r.log' r.side' refused.why.why refused.why.refused files may)
    left_then (Queue (inl refused)) is crash files may =
        as_before (λ v events. subst (λ (d : TheDid). AreOfRun disk clock source sink link v events r d events) (sym is) refl) files
        (refused_keeps disk store long r.log r.side list r.tells r.tells_side from.opens r.log' r.side' refused.why.why refused.why.refused files may)
    left_then (Drain (inr a)) is crash files may = going_crashed a.went _ (drain_ran a is) files crash may
    left_then (Drain (inl refused)) is crash files may =
        as_before (λ v events. subst (λ (d : TheDid). AreOfRun disk clock source sink link v events r d events) (sym is) refl) files
        (refused_keeps disk store long r.log r.side list r.tells r.tells_side from.opens r.log' r.side' refused.why.why.why refused.why.why.refused files may)
    left_then (Check did) is crash files may = looked_then (λ v events. subst (λ (d : TheDid). AreOfRun disk clock source sink link v events r d events) (sym is) refl) did files may
    left_then (Archive page query did) is crash files may = looked_then (λ v events. subst (λ (d : TheDid). AreOfRun disk clock source sink link v events r d events) (sym is) refl) did files may
    left_then (Contents publication did) is crash files may = looked_then (λ v events. subst (λ (d : TheDid). AreOfRun disk clock source sink link v events r d events) (sym is) refl) did files may
    left_then (Audit after did) is crash files may = looked_then (λ v events. subst (λ (d : TheDid). AreOfRun disk clock source sink link v events r d events) (sym is) refl) did files may
    left_then (Ask entries did) is crash files may = looked_then (λ v events. subst (λ (d : TheDid). AreOfRun disk clock source sink link v events r d events) (sym is) refl) (asked_looks disk source sink entries r.log r.log' r.side r.side' r.input r.input' r.output r.output' r.status did) files may
    left_then (Digest entries did) is crash files may = looked_then (λ v events. subst (λ (d : TheDid). AreOfRun disk clock source sink link v events r d events) (sym is) refl) did files may
    left_then (Limits did) is crash files may = looked_then (λ v events. subst (λ (d : TheDid). AreOfRun disk clock source sink link v events r d events) (sym is) refl) did files may
    left_then (Why publication subscriber did) is crash files may = looked_then (λ v events. subst (λ (d : TheDid). AreOfRun disk clock source sink link v events r d events) (sym is) refl) did files may
    left_then (Ship name did) is crash files may =
        as_before (λ v events. subst (λ (d : TheDid). AreOfRun disk clock source sink link v events r d events) (sym is) refl) files
        (ship_keeps disk store long r.log r.side list r.tells r.tells_side from.opens sink link name r.log' r.side' r.output r.output' r.status r.links r.links' did files may)
    left_then (Pack (inl refused)) is crash files may =
        as_before (λ v events. subst (λ (d : TheDid). AreOfRun disk clock source sink link v events r d events) (sym is) refl) files
        (refused_keeps disk store long r.log r.side list r.tells r.tells_side from.opens r.log' r.side' refused.why refused.refused files may)
    left_then (Pack (inr (inl p))) is crash files may =
        as_before (λ v events. subst (λ (d : TheDid). AreOfRun disk clock source sink link v events r d events) (sym is) refl) files
        (elim may [
          | inl opening_it ↦ opened_keeps disk store long r.log r.side list r.tells r.tells_side from.opens p.room p.opened files opening_it
          | inr packing_it ↦ packed_within disk store long r.log r.side list r.tells r.tells_side from.opens p.room p.opened (log_disk p.pair) (side_disk p.pair) (p.packs r.tells r.tells_side).crash files packing_it
        ])
    left_then (Pack (inr (inr p))) is crash files may =
        as_before (λ v events. subst (λ (d : TheDid). AreOfRun disk clock source sink link v events r d events) (sym is) refl) files
        (elim may [
          | inl opening_it ↦ opened_keeps disk store long r.log r.side list r.tells r.tells_side from.opens p.room p.opened files opening_it
          | inr packing_it ↦ packed_within disk store long r.log r.side list r.tells r.tells_side from.opens p.room p.opened r.log' r.side' (p.packs_not r.tells r.tells_side).crash files packing_it
        ])

    run_more : (files : Files) (crashed : Option Files) → r.crashed ≡ crashed → MayCrash disk clock source sink link r crashed → IsLeftBy disk clock source sink link r crashed files → Comes (r ∷ runs) files
    run_more files None is may left = left_now r.did refl files left
    run_more files (Some found) is may left = subst (Comes (r ∷ runs)) (sym left) (left_then r.did refl (λ none. cc (sym is ∙ none)) found may)

  runs_come : (runs : Runs) → FollowOneAnother disk clock source sink link store runs → (files : Files) → Left runs files → Comes runs files
  runs_come [] follow files left = none_ran files left
  runs_come (r ∷ runs) follow files left = run_more r runs follow.0 (λ others there. runs_come runs follow.2 others there) files r.crashed refl follow.1 left

pub chains_are_events : {D S O C L : Type 0} (disk : DiskMeaning D) (clock : ClockMeaning C) (source : SourceMeaning S) (sink : SinkMeaning O) (link : LinkMeaning L) → ChainsAreEvents disk clock source sink link
chains_are_events disk clock source sink link = λ store long runs follow files left. runs_come disk clock source sink link store long runs follow files left

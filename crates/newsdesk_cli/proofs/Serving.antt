-- A store that holds a list is served.
use Rattle.std.proofs.Common.{◌≡◌, inl, inr, ℕ, ◌+◌, true, List, Option, Some, None, length, refl, sym, ◌∙◌, subst, arith}
use Rattle.news_types.specs.Books.{Book, onto}
use Rattle.news_types.specs.Names.{Bytes}
use Rattle.news_types.specs.declared.entry.Entry.{Entry}
use Rattle.news_types.specs.History.{History}
use Rattle.news_io.specs.Clock.{ClockMeaning}
use Rattle.news_io.specs.Disk.{DiskMeaning}
use Rattle.news_io.specs.Faults.{Rose}
use Rattle.news_io.specs.Link.{LinkMeaning}
use Rattle.news_io.specs.Sink.{SinkMeaning}
use Rattle.news_io.specs.Source.{SourceMeaning}
use Rattle.input_lines.specs.Lines.{ended, lines}
use Rattle.line_run.specs.Life.{Meaning}
use Rattle.line_run.specs.Run.{Ends}
use Rattle.news_pair.specs.Keeper.{pair_of}
use Rattle.news_pair.specs.declared.pair.Pair.{Pair}
use Rattle.news_pair.specs.declared.pack_fault.PackFault.{PackFault}
use Rattle.news_pair.specs.declared.pack_fault.PackFault.TheVariants as fault
use Rattle.news_pair.specs.PackFaults.{IsDamage, FaultCounts}
use Rattle.news_room.specs.declared.room.Room.{Room}
use Rattle.package_rules.specs.Report.{contents_report}
use Rattle.publish_workers.specs.LinkDrains.{end_of_all}
use Rattle.room_reports.specs.Texts.{feed_report_at, queue_report_at}
use Rattle.room_runs.specs.Desk.{Hand, line_hand}
use Rattle.room_runs.specs.Lines.{LONGEST_LINE, of_line}
use Rattle.room_runs.specs.Members.{MembersAnswered}
use Rattle.room_runs.specs.Wires.{wire_hand}
use Rattle.store_files.specs.Store.{Opens}
use Rattle.run_status.specs.Status.{number_of}
use Rattle.told_entries.specs.Entries.{audit}
use Rattle.list_runs.specs.Why.{why_line}
use Rattle.list_marks.specs.Limits.{limits_lines}
use Rattle.news_room.specs.Log.{sizes}
use Rattle.store_files.specs.Trouble.{status_of, trouble_of_pack}
use Rattle.store_files.proofs.Serving.{served}
use Rattle.newsdesk_cli.specs.Archive.{IsAsked}
use Rattle.newsdesk_cli.specs.Command.{check_line, IsServed, IsAskServed, Serves, HasAnswered, IsReportOf, IsDrain, Does}
use Rattle.newsdesk_cli.specs.Imports.{IsImportOf}
use Rattle.newsdesk_cli.specs.Ingests.{answer_of, decided, all}
use Rattle.newsdesk_cli.specs.Lists.{IsAsk, IsDigest}
use Rattle.newsdesk_cli.specs.Opened.{NotOpened}
use Rattle.newsdesk_cli.specs.Packages.{IsPackageOf}
use Rattle.newsdesk_cli.specs.Telling.{IsTold, IsAnswered}
use Rattle.newsdesk_cli.specs.Packing.{packed_line}
use Rattle.command_words.specs.declared.words.Job.{Job}
use Rattle.command_words.specs.declared.words.Job.TheVariants.{Init, Batch, Ingest, Import, Package, Feed, Queue, Archive, Contents, Audit, Ask, Digest, Limits, Why, Drain, Receive, Ship, StandIn, Drill, Check, Pack}
use Rattle.newsdesk_cli.proofs.Asking.{one_length, written_served, asked_served_at, digest_served_at}
use Rattle.newsdesk_cli.proofs.Commands.{rose_along}
use Rattle.newsdesk_cli.proofs.Draining.{drain_else, drain_failed}
use Rattle.newsdesk_cli.proofs.Importing.{import_served}
use Rattle.newsdesk_cli.proofs.Packaging.{package_served}
use Rattle.newsdesk_cli.proofs.Reporting.{reported_else}
use Rattle.newsdesk_cli.proofs.Shipping.{over_served}
use Rattle.newsdesk_cli.proofs.Statuses.{others, by_trouble, by_run}

-- ---- statuses

by_pack : (why : PackFault) (before now status : ℕ) → (IsDamage why → ⊥) → FaultCounts before now why → status ≡ number_of (status_of (trouble_of_pack why)) → IsServed before now status
by_pack fault.DiskFault before now status whole counts is = others before now 6 status (λ s. absurd (omega (arith, s))) (λ s. absurd (omega (arith, s))) (λ s. counts.fault tt) is
by_pack (fault.Full size count) before now status whole counts is = others before now 8 status (λ s. absurd (omega (arith, s))) (λ s. absurd (omega (arith, s))) (λ s. absurd (omega (arith, s))) is
by_pack (fault.Damaged at found) before now status whole counts is = absurd (whole tt)
by_pack fault.Memory before now status whole counts is = others before now 9 status (λ s. absurd (omega (arith, s))) (λ s. absurd (omega (arith, s))) (λ s. absurd (omega (arith, s))) is

-- ---- commands

module _ {O : Type 0} (sink : SinkMeaning O) (o o' : O) (before now status : ℕ) where
  told_served : (line : List ℕ) → IsTold sink line o o' status → IsServed before now status
  told_served line (inl done) = others before now 0 status (λ s. absurd (omega (arith, s))) (λ s. absurd (omega (arith, s))) (λ s. absurd (omega (arith, s))) done.0
  told_served line (inr cut) = others before now 5 status (λ s. absurd (omega (arith, s))) (λ s. absurd (omega (arith, s))) (λ s. absurd (omega (arith, s))) cut.0

  answer_served : (line : List ℕ) → IsAnswered sink line o o' status → IsServed before now status
  answer_served line (inl told) = told_served line told
  answer_served line (inr stopped) = others before now 9 status (λ s. absurd (omega (arith, s))) (λ s. absurd (omega (arith, s))) (λ s. absurd (omega (arith, s))) stopped.status_is

  asked_served : (h : History) (page : ℕ) (query : Bytes) → IsAsked sink h page query o o' status → IsServed before now status
  asked_served h page query (inl answer) = told_served answer.0 answer.2
  asked_served h page query (inr stopped) = others before now 9 status (λ s. absurd (omega (arith, s))) (λ s. absurd (omega (arith, s))) (λ s. absurd (omega (arith, s))) stopped.status_is

module _ {D O S C : Type 0} (disk : DiskMeaning D) (clock : ClockMeaning C) (source : SourceMeaning S) (sink : SinkMeaning O)
    (log log' side side' : D) (i i' : S) (o o' : O) (c c' : C) (status : ℕ)
    (told : disk.tells log) (told' : disk.tells side) (store : Bytes) (h : History) (long : length store ≡ 16) (opens : Opens (disk.seen log) (disk.seen side) store h) where
  abbrev Before : ℕ
  Before = disk.faults log + disk.faults side

  abbrev Now : ℕ
  Now = disk.faults log' + disk.faults side'

  not_opened : NotOpened disk sink log log' side side' o o' status → IsServed Before Now status
  not_opened n = by_trouble n.why Before Now status (served (disk.seen log) (disk.seen side) store h long opens n.why (n.refused.cause told told')) n.refused.count n.stopped.status_is

  -- by desks of any type
  answered : {A X : Type 0} (hand : A → Hand (Pair D) C) (M : ℕ → Meaning Entry X) (decided all : List ℕ → List X)
      → HasAnswered disk clock source sink log log' side side' i i' o o' c c' status (λ room after b. MembersAnswered (pair_of disk) clock source sink hand M decided all room after c c' i i' o o' b 65 status) → IsServed Before Now status
  answered hand M decided all a =
      let r = a.answered true (λ is. (told, told')) in
      let faults = λ (k : Room (Pair D)). (pair_of disk).faults k.keeper in
      by_run r.run.result Before Now status
      (λ is.
      let ends = subst (Ends (source.faults i) (source.faults i') (faults (hand r.old).room.now) (faults (hand r.new).room.now) (sink.faults o) (sink.faults r.run.mid)) is r.run.ends in
      let rose = subst (λ (k : Room (Pair D)). Rose (faults a.went.room) (faults k)) r.after.room_is (subst (λ (k : Room (Pair D)). Rose (faults k) (faults (hand r.new).room.now)) r.before.room_is ends.1.0) in
      rose_along disk log side log' side' a.went.room.keeper a.went.after.keeper a.went.opened.calm a.went.same a.went.same_side rose)
      r.run.status_is

  reported : (report : History → Bytes) → IsReportOf disk clock sink log log' side side' o o' c c' status report → IsServed Before Now status
  reported report (inl not) = not_opened not.why
  reported report (inr a) =
      let here : Book = record { store = a.went.opened.store; told = true; list = a.went.opened.history } in
      let did = a.reported.reported here (a.went.opened.holds true (λ is. (told, told'))).stands in
      let written : Bytes = report ((onto a.reported.release.more here).list) in
      record {
        own = reported_else sink written o o' status 3 (inl refl) a.reported.release.ticked did;
        whole = reported_else sink written o o' status 7 (inr refl) a.reported.release.ticked did;
        failed = λ is. rose_along disk log side log' side' a.went.room.keeper a.went.after.keeper a.went.opened.calm a.went.same a.went.same_side (a.reported.store_faults.failed is);
      }

  taken : (caller : Bytes) → IsImportOf disk clock source sink log log' side side' i i' o o' c c' status caller → IsServed Before Now status
  taken caller (inl not) = not_opened not.why
  taken caller (inr a) = import_served disk clock source sink caller log side a.went.room a.went.after c c' i i' o o' status a.went.opened log' side' a.went.same a.went.same_side a.imported

  packaged : (caller : Bytes) (number : ℕ) → IsPackageOf disk clock source sink log log' side side' i i' o o' c c' status caller number → IsServed Before Now status
  packaged caller number (inl not) = not_opened not.why
  packaged caller number (inr a) = package_served disk clock source sink caller number log side a.went.room a.went.after c c' i i' o o' status a.went.opened log' side' a.went.same a.went.same_side a.published

  asked : (entries : ℕ) → IsAsk disk source sink entries log log' side side' i i' o o' status → IsAskServed Before Now entries h status
  asked entries (inl not) = let s = not_opened not.why in record { own = λ is. absurd (s.own is); whole = s.whole; failed = s.failed }
  asked entries (inr done) =
      asked_served_at (pair_of disk) source sink entries i i' o o' status h done.opened.history (one_length (disk.seen log) (disk.seen side) store done.opened.store h done.opened.history long done.opened.long opens (done.opened.bytes told told')) Before Now done.told

  digested : (entries : ℕ) → IsDigest disk sink entries log log' side side' o o' status → IsAskServed Before Now entries h status
  digested entries (inl not) = let s = not_opened not in record { own = λ is. absurd (s.own is); whole = s.whole; failed = s.failed }
  digested entries (inr done) =
      digest_served_at sink entries o o' status h done.opened.history (one_length (disk.seen log) (disk.seen side) store done.opened.store h done.opened.history long done.opened.long opens (done.opened.bytes told told')) Before Now done.told

  drained : {L : Type 0} (link : LinkMeaning L) (l l' : List L) → IsDrain disk clock sink log log' side side' o o' c c' status link l l' → IsServed Before Now status
  drained link l l' (inl not) = not_opened not.why.why
  drained link l l' (inr a) = record {
    own = λ is. drain_else 3 (inl refl) (end_of_all a.drained.drains) (sym a.drained.status_is ∙ is);
    whole = λ is. drain_else 7 (inr refl) (end_of_all a.drained.drains) (sym a.drained.status_is ∙ is);
    failed = λ is.
        rose_along disk log side log' side' a.went.room.keeper a.went.after.keeper a.went.opened.calm a.went.same a.went.same_side
        (drain_failed _ _ (end_of_all a.drained.drains) a.drained.store_faults (sym a.drained.status_is ∙ is));
  }

  pub serves : {L : Type 0} (link : LinkMeaning L) (l l' : List L) (job : Option Job) → Does disk clock source sink link log log' side side' i i' o o' c c' l l' status job → Serves Before Now h job status
  serves link l l' None did = tt
  serves link l l' (Some (Init made)) did = tt
  serves link l l' (Some Batch) (inl not) = not_opened not.why
  serves link l l' (Some Batch) (inr done) = answered line_hand of_line (ended LONGEST_LINE) (lines LONGEST_LINE) done
  serves link l l' (Some (Ingest format provider)) (inl not) = not_opened not.why
  serves link l l' (Some (Ingest format provider)) (inr done) = answered wire_hand (answer_of format provider) (decided format) (all format) done
  serves link l l' (Some (Feed subscriber after)) did = reported (feed_report_at subscriber after) did.1
  serves link l l' (Some Queue) did = reported queue_report_at did.1
  serves link l l' (Some Drain) did = drained link l l' did.1
  serves link l l' (Some (Receive name)) did = tt
  serves link l l' (Some (Ship name)) did = over_served disk sink link name log log' side side' o o' status told told' store h long opens l l' did.1
  serves link l l' (Some (StandIn made)) did = tt
  serves link l l' (Some (Drill stories seed)) did = tt
  serves link l l' (Some Check) did = elim did.1 [ inl not ↦ not_opened not | inr done ↦ answer_served sink o o' Before Now status (check_line done.opened.history) done.told ]
  serves link l l' (Some (Archive page query)) did = elim did.1 [ inl not ↦ not_opened not | inr done ↦ asked_served sink o o' Before Now status done.opened.history page query done.told ]
  serves link l l' (Some (Contents publication)) did = elim did.1 [ inl not ↦ not_opened not | inr done ↦ answer_served sink o o' Before Now status (contents_report done.opened.history done.opened.store publication) done.told ]
  serves link l l' (Some (Audit after)) did = elim did.1 [ inl not ↦ not_opened not | inr done ↦ written_served sink (audit after done.opened.history) o o' Before Now status done.told ]
  serves link l l' (Some (Ask entries)) did = asked entries did.1
  serves link l l' (Some (Digest entries)) did = digested entries did.1
  serves link l l' (Some Limits) did = elim did.1 [ inl not ↦ not_opened not | inr done ↦ written_served sink (limits_lines done.opened.history (65 + sizes done.opened.history)) o o' Before Now status done.told ]
  serves link l l' (Some (Why publication subscriber)) did = elim did.1 [ inl not ↦ not_opened not | inr done ↦ written_served sink (why_line done.opened.history publication subscriber) o o' Before Now status done.told ]
  serves link l l' (Some (Import caller)) did = taken caller did
  serves link l l' (Some (Package caller number)) did = packaged caller number did
  serves link l l' (Some Pack) did = elim did.1 [
    | inl not ↦ not_opened not
    | inr either ↦ elim either [
      | inl done ↦ told_served sink o o' Before Now status (packed_line done.count) done.told
      | inr failed ↦ by_pack failed.why Before Now status (failed.packs_not told told').whole failed.counts failed.stopped.status_is
    ]
  ]

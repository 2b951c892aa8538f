-- A run over the members of an input has happened in each world that has the list of its files.
use Rattle.std.proofs.Common.{◌≡◌, inr, ℕ, true, List, Option, Some, refl, sym, ap, ◌∙◌, subst}
use Rattle.news_types.specs.Books.{Book}
use Rattle.news_types.specs.declared.entry.Entry.{Entry}
use Rattle.news_types.specs.declared.query.Query.TheVariants as query
use Rattle.command_words.specs.declared.words.IngestFormat.{IngestFormat}
use Rattle.command_words.specs.declared.words.IngestFormat.TheVariants as format
use Rattle.news_types.specs.Names.{Bytes}
use Rattle.news_types.specs.History.{History}
use Rattle.news_types.specs.Frames.{Writer}
use Rattle.news_io.specs.Clock.{ClockMeaning}
use Rattle.news_io.specs.Disk.{DiskMeaning}
use Rattle.news_io.specs.Link.{LinkMeaning}
use Rattle.news_io.specs.Sink.{SinkMeaning}
use Rattle.news_io.specs.Source.{SourceMeaning}
use Rattle.line_run.specs.Life.{Meaning, Life, Took}
use Rattle.news_pair.specs.Keeper.{pair_of}
use Rattle.news_pair.specs.declared.pair.Pair.{Pair}
use Rattle.news_room.specs.Stands.{Tells, in_doubt}
use Rattle.news_room.specs.declared.room.Room.{Room}
use Rattle.news_room.proofs.Lists.{same_list}
use Rattle.store_files.proofs.Holding.{calls_shut}
use Rattle.wire_run.specs.Members.{of_found, of_item}
use Rattle.world_laws.specs.World.{World, Event}
use Rattle.room_reports.specs.Texts.{feed_report_at, queue_report_at}
use Rattle.room_runs.specs.Desk.{Hand, line_hand}
use Rattle.room_runs.specs.Life.{life}
use Rattle.room_runs.specs.Lines.{of_line}
use Rattle.room_runs.specs.Members.{MembersAnswered}
use Rattle.room_runs.specs.Batch.{InputAnswered}
use Rattle.room_runs.specs.Wires.{wire_hand}
use Rattle.newsdesk_cli.specs.Command.{HasAnswered, Does}
use Rattle.newsdesk_cli.specs.Ingests.{IngestAnswered, answer_of}
use Rattle.command_words.specs.declared.words.Job.{Job}
use Rattle.command_words.specs.declared.words.Job.TheVariants.{Batch, Ingest, Import, Package, Feed, Queue, Drain}
use Rattle.program_events.specs.Events.{Input, line_input}
use Rattle.program_events.specs.Stories.{ingest_input}
use Rattle.program_events.specs.Runs.{Reads, RunHappened, AnswersAreEvents, AreEvents, RunsAreEvents}
use Rattle.program_events.proofs.Members.{Means}
use Rattle.program_events.proofs.Lines.{line_means}
use Rattle.program_events.proofs.Stories.{ingest_means}
use Rattle.program_events.proofs.Reports.{report_is_events}
use Rattle.program_events.proofs.Draining.{drain_is_events}
use Rattle.program_events.proofs.Imports.{import_happened}
use Rattle.program_events.proofs.Packages.{package_happened}
use Rattle.program_events.proofs.Happening.{list_of_run, run_stands, run_happens}

module _ {D C S O A X : Type 0} (disk : DiskMeaning D) (clock : ClockMeaning C) (source : SourceMeaning S) (sink : SinkMeaning O) (hand : A → Hand (Pair D) C) (M : ℕ → Meaning Entry X) (input : Input X) (means : Means (M 65) input)
    (log log' side side' : D) (i i' : S) (o o' : O) (c c' : C) (status : ℕ)
    (did : HasAnswered disk clock source sink log log' side side' i i' o o' c c' status (λ room after b. MembersAnswered (pair_of disk) clock source sink hand M input.decided input.all room after c c' i i' o o' b 65 status))
    (tells : disk.tells log) (tells' : disk.tells side) (write : Writer) (w : World) (is : w.server.list ≡ did.went.opened.history) where
  abbrev here : Book
  here = record { store = did.went.opened.store; told = true; list = did.went.opened.history }

  abbrev a : MembersAnswered (pair_of disk) clock source sink hand M input.decided input.all did.went.room did.went.after c c' i i' o o' here 65 status
  a = did.answered true (λ t. (tells, tells'))

  abbrev L : Life Entry (Option (List Bytes)) A
  L = life (pair_of disk) clock hand a.shelf

  abbrev Faults : A → ℕ
  Faults d = (pair_of disk).faults (hand d).room.now.keeper

  abbrev Clock : A → C
  Clock d = (hand d).clock.now

  told : a.shelf.told ≡ true
  told = ap (λ (b : Book). b.told) a.same_book

  -- a pair that was opened has nothing in doubt
  none_before : (e : Entry) → L.doubts a.old e → ⊥
  none_before e d =
      let now = subst (λ (k : Room (Pair D)). in_doubt (pair_of disk) k e) a.before.room_is d.1 in
      let doubt = now.1 in
      calls_shut did.went.room.keeper.log.ajar did.went.opened.quiet doubt.is_ajar

  doubts_now : (e : Entry) → in_doubt (pair_of disk) did.went.after e → L.doubts a.new e
  doubts_now e d = (told, subst (λ (k : Room (Pair D)). in_doubt (pair_of disk) k e) (sym a.after.room_is) d)

  reads : (rs : List ℕ) → Took L a.old a.new rs → Reads clock c c' rs
  reads rs t = subst (λ (x : C). Reads clock x c' rs) a.before.clock_is (subst (λ (x : C). Reads clock (Clock a.old) x rs) a.after.clock_is (record { told = t.told; gave = t.gave }))

  abbrev g : History
  g = list_of_run (M 65) input means clock source sink write L Faults c c' i i' a.old a.new o o' status did.went.opened.history a.run reads none_before w is

  -- the list that the files are left with is that of the members
  one_list : g ≡ (did.went.files tells tells').list
  one_list =
      let files = did.went.files tells tells' in
      let stands = run_stands (M 65) input means clock source sink write L Faults c c' i i' a.old a.new o o' status did.went.opened.history a.run reads none_before w is in
      let mine = subst (λ (k : Room (Pair D)). Tells (pair_of disk) k.keeper a.shelf.store g) a.after.room_is (stands.room_stands.told told) in
      let other = files.stands.told refl in
      same_list g files.list stands.room_stands.kept.formed files.stands.kept.formed (sym mine.list_is ∙ other.list_is)

  pub members_happened : (events : List Event) × RunHappened input clock source sink write w i i' o o' c c' status (did.went.files tells tells').list (in_doubt (pair_of disk) did.went.after) events
  members_happened = run_happens (M 65) input means clock source sink write L Faults c c' i i' a.old a.new o o' status did.went.opened.history a.run reads none_before w is
      (did.went.files tells tells').list (in_doubt (pair_of disk) did.went.after) one_list doubts_now

module _ {D S O C : Type 0} (disk : DiskMeaning D) (clock : ClockMeaning C) (source : SourceMeaning S) (sink : SinkMeaning O)
    (log log' side side' : D) (i i' : S) (o o' : O) (c c' : C) (status : ℕ) where
  abbrev Answered : (Room (Pair D) → Room (Pair D) → Book → Type 0) → Type 0
  Answered what = HasAnswered disk clock source sink log log' side side' i i' o o' c c' status what

  pub batch_events : (did : Answered (λ room after b. InputAnswered (pair_of disk) clock source sink room after c c' i i' o o' b 65 status)) → AnswersAreEvents disk clock source sink log log' side side' i i' o o' c c' status line_input did
  batch_events did = members_happened disk clock source sink line_hand of_line line_input (line_means 65) log log' side side' i i' o o' c c' status did

  pub ingest_events : (given : IngestFormat) (provider : Bytes) (did : Answered (λ room after b. IngestAnswered (pair_of disk) clock source sink provider given room after c c' i i' o o' b 65 status))
      → AnswersAreEvents disk clock source sink log log' side side' i i' o o' c c' status (ingest_input given provider) did
  ingest_events format.Wire provider did =
      members_happened disk clock source sink wire_hand (answer_of format.Wire provider) (ingest_input format.Wire provider) (ingest_means 65 provider format.Wire) log log' side side' i i' o o' c c' status did
  ingest_events format.Item provider did =
      members_happened disk clock source sink wire_hand (answer_of format.Item provider) (ingest_input format.Item provider) (ingest_means 65 provider format.Item) log log' side side' i i' o o' c c' status did
  ingest_events format.AgencyWire provider did =
      members_happened disk clock source sink wire_hand (answer_of format.AgencyWire provider) (ingest_input format.AgencyWire provider) (ingest_means 65 provider format.AgencyWire) log log' side side' i i' o o' c c' status did
  ingest_events format.AgencyItems provider did =
      members_happened disk clock source sink wire_hand (answer_of format.AgencyItems provider) (ingest_input format.AgencyItems provider) (ingest_means 65 provider format.AgencyItems) log log' side side' i i' o o' c c' status did

  module _ {L : Type 0} (link : LinkMeaning L) (l l' : List L) where
    pub are_events : (job : Option Job) → (did : Does disk clock source sink link log log' side side' i i' o o' c c' l l' status job) → AreEvents disk clock source sink log log' side side' i i' o o' c c' status link l l' job did
    are_events (Some Batch) (inr did) = batch_events did
    are_events (Some (Ingest format provider)) (inr did) = ingest_events format provider did
    are_events (Some (Import caller)) (inr did) = λ tells tells' write w same. import_happened disk clock source sink caller log log' side side' c c' i i' o o' status did.went tells tells' write w same did.imported
    are_events (Some (Package caller number)) (inr did) = λ tells tells' write w same. package_happened disk clock source sink caller number log log' side side' c c' i i' o o' status did.went tells tells' write w same did.published
    are_events (Some (Feed subscriber after)) did = report_is_events disk clock sink (query.Feed subscriber after) (feed_report_at subscriber after) log log' side side' o o' c c' status did.1
    are_events (Some Queue) did = report_is_events disk clock sink query.Queue queue_report_at log log' side side' o o' c c' status did.1
    are_events (Some Drain) did = drain_is_events disk clock sink log log' side side' o o' c c' status link l l' did.1
    are_events job did = tt

pub runs_are_events : {D S O C L : Type 0} (disk : DiskMeaning D) (clock : ClockMeaning C) (source : SourceMeaning S) (sink : SinkMeaning O) (link : LinkMeaning L) → RunsAreEvents disk clock source sink link
runs_are_events disk clock source sink link = λ log log' side side' i i' o o' c c' l l' status job did. are_events disk clock source sink log log' side side' i i' o o' c c' status link l l' job did

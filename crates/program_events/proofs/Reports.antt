-- A report has happened in each world that has the list of its files.
use Rattle.std.proofs.Common.{◌≡◌, inl, inr, ℕ, true, List, [], ◌∷◌, ◌++◌, Option, Some, None, refl, sym, ap, ◌∙◌, subst}
use Rattle.news_types.specs.Books.{Book, followed_by, onto}
use Rattle.news_types.specs.declared.entry.Entry.{Entry}
use Rattle.news_types.specs.declared.query.Query.{Query}
use Rattle.news_types.specs.Names.{Bytes}
use Rattle.news_types.specs.History.{History, moment_at}
use Rattle.news_types.specs.Frames.{Writer}
use Rattle.news_types.specs.Calls as call
use Rattle.news_types.specs.Calls.{Fate, IsKept, IsFull, IsFailed, IsStarved, follow, list_after, doubt_after}
use Rattle.news_types.specs.Server.{Server, put}
use Rattle.news_io.specs.Clock.{ClockMeaning}
use Rattle.news_io.specs.Disk.{DiskMeaning}
use Rattle.news_io.specs.Sink.{SinkMeaning}
use Rattle.entry_codec.specs.Spelling.{entry_bytes}
use Rattle.entry_codec.specs.Formed.{IsEntry}
use Rattle.news_pair.specs.Keeper.{pair_of}
use Rattle.news_room.specs.Beside.{Beside}
use Rattle.news_room.specs.Events.{Happens}
use Rattle.news_room.specs.Said.{said_tick, is_failure}
use Rattle.news_room.specs.Stands.{Stands, in_doubt, numbers}
use Rattle.news_room.specs.Steps.{entries, still, DoubtStep, TickStep, IsTried}
use Rattle.news_room.specs.declared.answers.Ticked.{Ticked}
use Rattle.news_room.proofs.Lists.{same_entry, same_list}
use Rattle.store_files.proofs.Holding.{calls_shut}
use Rattle.room_reports.specs.Reports.{IsReported}
use Rattle.world_laws.specs.World.{World, Event, run}
use Rattle.newsdesk_cli.specs.Command.{HasReported, IsReportOf}
use Rattle.program_events.specs.Events.{question_events}
use Rattle.program_events.specs.Leads.{IsOneOf, Lead}
use Rattle.program_events.specs.Runs.{IsToldBehind, ReportHappened, ReportIsEvents}
use Rattle.program_events.proofs.Leading.{lead_none, lead_more}

-- ---- the world behind a tick and a question

question_server : (write : Writer) (w : World) (q : Query) (at : ℕ) (fate : Fate) → (run write (question_events q at fate) w).server ≡ put w.server (follow w.server.list call.Ticked (moment_at w.server.list at)) fate
question_server write w q at IsKept = refl
question_server write w q at IsFull = refl
question_server write w q at IsFailed = refl
question_server write w q at IsStarved = refl

-- what becomes of a tick's entry, by its answer
fate_of : Ticked → Fate
fate_of (Ticked.Kept place) = IsKept
fate_of Ticked.Still = IsKept
fate_of Ticked.Fault = IsFailed
fate_of (Ticked.Full size count) = IsFull

told_behind : {O : Type 0} (sink : SinkMeaning O) (report : Bytes) (o o' : O) (status : ℕ) (t : Ticked) → IsReported sink report o o' status t → IsToldBehind sink report o o' status (fate_of t)
unfolding fate_of
told_behind sink report o o' status (Ticked.Kept place) r = r
told_behind sink report o o' status Ticked.Still r = r
told_behind sink report o o' status Ticked.Fault r = r
told_behind sink report o o' status (Ticked.Full size count) r = r

-- ---- the entry of a tick

-- what of it was kept
pub record Fares (h : History) (next : Option Entry) (fate : Fate) (more : List Entry) : Type 0 where
  pub kept : Option Entry
  pub list : list_after h next fate ≡ entries kept ++ h
  pub is : followed_by more h ≡ entries kept ++ h

pub all_fares : (h : History) (next : Option Entry) (more : List Entry) → more ≡ entries next → Fares h next IsKept more
all_fares h None more is = record { kept = None; list = refl; is = ap (λ es. followed_by es h) is }
all_fares h (Some e) more is = record { kept = Some e; list = refl; is = ap (λ es. followed_by es h) is }

-- the one entry that should follow was not kept
pub one_next : (next : Option Entry) (more : List Entry) (e : Entry) (rest : List Entry) → entries next ≡ more ++ e ∷ rest → (more ≡ []) × (next ≡ Some e)
one_next None [] e rest is = absurd cc
one_next None (x ∷ more) e rest is = absurd cc
one_next (Some x) [] e rest is = let same : x ≡ e = cc in (refl, ap Some same)
one_next (Some x) (y ∷ []) e rest is = absurd cc
one_next (Some x) (y ∷ z ∷ more) e rest is = absurd cc

pub failed_fares : (h : History) (next : Option Entry) (more : List Entry) (e : Entry) (rest : List Entry) → entries next ≡ more ++ e ∷ rest → Fares h next IsFailed more
failed_fares h next more e rest is =
    let one = one_next next more e rest is in
    record { kept = None; list = ap (λ o. list_after h o IsFailed) one.1; is = ap (λ es. followed_by es h) one.0 }

pub full_fares : (h : History) (next : Option Entry) (more : List Entry) (e : Entry) (rest : List Entry) → entries next ≡ more ++ e ∷ rest → Fares h next IsFull more
full_fares h next more e rest is =
    let one = one_next next more e rest is in
    record { kept = None; list = ap (λ o. list_after h o IsFull) one.1; is = ap (λ es. followed_by es h) one.0 }

tick_fares : (n : Beside) (b : Book) (now : ℕ) (more : List Entry) (t : Ticked) → TickStep n b now more t → Fares b.list (follow b.list call.Ticked (moment_at b.list now)) (fate_of t) more
unfolding fate_of
tick_fares n b now more (Ticked.Kept place) step = all_fares b.list (follow b.list call.Ticked (moment_at b.list now)) more step.2.whole.is
tick_fares n b now more Ticked.Still step = all_fares b.list (follow b.list call.Ticked (moment_at b.list now)) more step.1.whole.is
tick_fares n b now more Ticked.Fault step = failed_fares b.list (follow b.list call.Ticked (moment_at b.list now)) more step.next step.rest step.is
tick_fares n b now more (Ticked.Full size count) step = full_fares b.list (follow b.list call.Ticked (moment_at b.list now)) more step.next step.rest step.is

-- ---- the entry in doubt

pub still_none : (D : Bytes → Type 0) (more : List Entry) (payload : Bytes) → still D more payload → D payload
still_none D [] payload d = d
still_none D (e ∷ es) payload d = absurd d

pub tried_one : (next : Option Entry) (more : List Entry) (payload : Bytes) → IsTried (entries next) more payload → (e : Entry) × (next ≡ Some e) × IsEntry e × (payload ≡ entry_bytes e)
tried_one next more payload t = let one = one_next next more t.0 t.1 t.2 in (t.0, one.1, t.3, t.4)

-- where nothing was in doubt before: only the entry at which the keeper failed is
doubt_of : (D D' : Bytes → Type 0) (next : Option Entry) (more : List Entry) (t : Ticked) → ((payload : Bytes) → D payload → ⊥) → DoubtStep D D' (entries next) more (is_failure (said_tick t)) → (payload : Bytes) → D' payload
    → (fate_of t ≡ IsFailed) × ((e : Entry) × (next ≡ Some e) × IsEntry e × (payload ≡ entry_bytes e))
unfolding fate_of
doubt_of D D' next more (Ticked.Kept place) none step payload d = absurd (none payload (still_none D more payload (step payload d)))
doubt_of D D' next more Ticked.Still none step payload d = absurd (none payload (still_none D more payload (step payload d)))
doubt_of D D' next more Ticked.Fault none step payload d = (refl, elim (step payload d) [ inl was ↦ absurd (none payload (still_none D more payload was)) | inr tried ↦ tried_one next more payload tried ])
doubt_of D D' next more (Ticked.Full size count) none step payload d = absurd (none payload (still_none D more payload (step payload d)))

-- ---- a report

module _ {D O C : Type 0} (disk : DiskMeaning D) (clock : ClockMeaning C) (sink : SinkMeaning O) (q : Query) (report : History → Bytes)
    (log log' side side' : D) (o o' : O) (c c' : C) (status : ℕ) (did : HasReported disk clock sink log log' side side' o o' c c' status report)
    (tells : disk.tells log) (tells' : disk.tells side) (write : Writer) (w : World) (same : w.server.list ≡ did.went.opened.history) where
  abbrev here : Book
  here = record { store = did.went.opened.store; told = true; list = did.went.opened.history }

  abbrev at : ℕ
  at = did.reported.release.now

  abbrev t : Ticked
  t = did.reported.release.ticked

  abbrev events : List Event
  events = question_events q at (fate_of t)

  abbrev next : Option Entry
  next = follow here.list call.Ticked (moment_at here.list at)

  stands : Stands (pair_of disk) did.went.room here
  stands = (did.went.opened.holds true (λ is. (tells, tells'))).stands

  happened : Happens (pair_of disk) did.went.room did.went.after here did.reported.release.more call.Ticked at (said_tick t) (TickStep (numbers (pair_of disk) did.went.room did.went.after) here at did.reported.release.more t)
  happened = did.reported.release.happens here stands

  fares : Fares here.list next (fate_of t) did.reported.release.more
  fares = tick_fares (numbers (pair_of disk) did.went.room did.went.after) here at did.reported.release.more t happened.step

  server_is : (run write events w).server ≡ put w.server next (fate_of t)
  server_is = question_server write w q at (fate_of t) ∙ ap (λ (h : History). put w.server (follow h call.Ticked (moment_at h at)) (fate_of t)) same

  -- the list that the tick has left
  list_is : (run write events w).server.list ≡ (onto did.reported.release.more here).list
  list_is = ap (λ (s : Server). s.list) server_is ∙ ap (λ (h : History). list_after h next (fate_of t)) same ∙ fares.list ∙ sym fares.is

  -- the files are left with it
  one_list : (onto did.reported.release.more here).list ≡ (did.went.files tells tells').list
  one_list =
      let files = did.went.files tells tells' in
      let mine = happened.stands.told refl in
      let other = files.stands.told refl in
      same_list _ files.list happened.stands.kept.formed files.stands.kept.formed (sym mine.list_is ∙ other.list_is)

  leads : Lead write w events (did.went.files tells tells').list
  leads = subst (Lead write w events) (ap (λ (h : History). entries fares.kept ++ h) same ∙ sym fares.is ∙ one_list)
      (lead_more write w [] events w.server.list fares.kept (lead_none write w) (list_is ∙ fares.is ∙ ap (λ (h : History). entries fares.kept ++ h) (sym same)))

  none_before : (payload : Bytes) → (pair_of disk).doubts did.went.room.keeper payload → ⊥
  none_before payload doubt = calls_shut did.went.room.keeper.log.ajar did.went.opened.quiet doubt.is_ajar

  doubted : (fate : Fate) (from : Option Entry) (e : Entry) → fate ≡ IsFailed → from ≡ Some e → IsOneOf (doubt_after w.server.doubt from fate) e
  doubted fate from e is some = subst (λ (f : Fate). IsOneOf (doubt_after w.server.doubt from f) e) (sym is) (subst (λ (x : Option Entry). IsOneOf (doubt_after w.server.doubt x IsFailed) e) (sym some) (0, refl))

  doubt : (e : Entry) → in_doubt (pair_of disk) did.went.after e → IsOneOf (run write events w).server.doubt e
  doubt e d =
      let found = doubt_of ((pair_of disk).doubts did.went.room.keeper) ((pair_of disk).doubts did.went.after.keeper) next did.reported.release.more t none_before (happened.told refl).doubt (entry_bytes e) d.1 in
      let one : found.1.0 ≡ e = sym (same_entry e found.1.0 d.0 found.1.2 found.1.3) in
      subst (λ (s : Server). IsOneOf s.doubt e) (sym server_is) (doubted (fate_of t) next e found.0 (found.1.1 ∙ ap Some one))

  pub report_happened : (events : List Event) × ReportHappened clock sink q report write w o o' c c' status (did.went.files tells tells').list (in_doubt (pair_of disk) did.went.after) events
  report_happened = (
    events,
    record {
      at = at;
      reads = record { told = λ it. (did.reported.release.read it).0; gave = λ it. (did.reported.release.read it).1 };
      fate = fate_of t;
      events_are = refl;
      told = told_behind sink (report (run write events w).server.list) o o' status t (subst (λ (h : History). IsReported sink (report h) o o' status t) (sym list_is) (did.reported.reported here stands));
      leads = record { lead = leads; doubt = doubt };
    },
  )

module _ {D O C : Type 0} (disk : DiskMeaning D) (clock : ClockMeaning C) (sink : SinkMeaning O) (q : Query) (report : History → Bytes)
    (log log' side side' : D) (o o' : O) (c c' : C) (status : ℕ) where
  pub report_is_events : (did : IsReportOf disk clock sink log log' side side' o o' c c' status report) → ReportIsEvents disk clock sink log log' side side' o o' c c' status q report did
  report_is_events (inl refused) = tt
  report_is_events (inr did) = λ tells tells' write w same. report_happened disk clock sink q report log log' side side' o o' c c' status did tells tells' write w same

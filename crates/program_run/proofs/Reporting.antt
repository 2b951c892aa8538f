-- A report has been told in each world that has the list of the files.
use Rattle.std.proofs.Common.{◌≡◌, ◌⊎◌, inl, inr, ℕ, ◌+◌, Bool, true, List, [], ◌∷◌, ◌++◌, Option, Some, refl, sym, ap, ◌∙◌, subst}
use Rattle.news_types.specs.Books.{Book, onto}
use Rattle.news_types.specs.declared.entry.Entry.{Entry}
use Rattle.news_types.specs.declared.query.Query.{Query}
use Rattle.news_types.specs.Names.{Bytes}
use Rattle.news_types.specs.History.{History, moment_at}
use Rattle.news_types.specs.Frames.{Writer}
use Rattle.news_types.specs.Calls as call
use Rattle.news_types.specs.Calls.{Fate, IsKept, IsFull, IsFailed, IsStarved, follow, list_after, doubt_after}
use Rattle.news_types.specs.Server.{Server, put}
use Rattle.news_io.specs.Outside.{Meanings, Outside}
use Rattle.entry_codec.specs.Spelling.{entry_bytes}
use Rattle.entry_codec.specs.Formed.{IsEntry}
use Rattle.news_pair.specs.Keeper.{pair_of}
use Rattle.news_room.specs.Beside.{Beside}
use Rattle.news_room.specs.Events.{Happens}
use Rattle.news_room.specs.Log.{sizes}
use Rattle.news_room.specs.Said.{said_tick, is_failure}
use Rattle.news_room.specs.Stands.{Stands, numbers}
use Rattle.news_room.specs.Steps.{entries, DoubtStep, TickStep}
use Rattle.news_room.specs.declared.answers.Ticked.{Ticked}
use Rattle.news_room.proofs.Lists.{same_entry}
use Rattle.store_files.proofs.Holding.{calls_shut}
use Rattle.room_reports.specs.Reports.{IsReported}
use Rattle.world_laws.specs.World.{World, Event, Ticks, run}
use Rattle.newsdesk_cli.specs.Command.{HasReported, IsReportOf}
use Rattle.program_events.specs.Leads.{IsOneOf, Lead}
use Rattle.program_events.proofs.Leading.{lead_none, lead_more}
use Rattle.program_events.proofs.Reports as old
use Rattle.program_events.proofs.Reports.{all_fares, failed_fares, full_fares, still_none, tried_one}
use Rattle.program_run.specs.Left.{AnyWriter, GoesOn}
use Rattle.program_run.specs.Members.{LIMIT, Adds, Fares, question_events}
use Rattle.program_run.specs.Refused.{NotOpened}
use Rattle.program_run.specs.Reported.{ToldBehind, IsReport}
use Rattle.program_run.specs.Finding.{the_finders}
use Rattle.program_run.proofs.Counting.{given_fits, refused_past, failed_within, calm_files, rose_files, uses_first}
use Rattle.program_run.proofs.Going.{Doubted, Went, goes_on}
use Rattle.program_run.proofs.Means.{kept_next, next_kept}
use Rattle.program_run.proofs.Refusing.{not_opened}

-- ---- the world behind a tick and a question

question_server : (write : Writer) (w : World) (q : Query) (at : ℕ) (fate : Fate) → (run write (question_events q at fate) w).server ≡ put w.server (follow w.server.list call.Ticked (moment_at w.server.list at)) fate
question_server write w q at IsKept = refl
question_server write w q at IsFull = refl
question_server write w q at IsFailed = refl
question_server write w q at IsStarved = refl

-- what becomes of a tick's entry, by its answer
abbrev pub fate_of : Ticked → Fate
fate_of (Ticked.Kept place) = IsKept
fate_of Ticked.Still = IsKept
fate_of Ticked.Fault = IsFailed
fate_of (Ticked.Full size count) = IsFull

pub tick_fares : (n : Beside) (b : Book) (now : ℕ) (more : List Entry) (t : Ticked) → TickStep n b now more t → old.Fares b.list (follow b.list call.Ticked (moment_at b.list now)) (fate_of t) more
tick_fares n b now more (Ticked.Kept place) step = all_fares b.list (follow b.list call.Ticked (moment_at b.list now)) more step.2.whole.is
tick_fares n b now more Ticked.Still step = all_fares b.list (follow b.list call.Ticked (moment_at b.list now)) more step.1.whole.is
tick_fares n b now more Ticked.Fault step = failed_fares b.list (follow b.list call.Ticked (moment_at b.list now)) more step.next step.rest step.is
tick_fares n b now more (Ticked.Full size count) step = full_fares b.list (follow b.list call.Ticked (moment_at b.list now)) more step.next step.rest step.is

-- ---- the entry of the tick within the limit

module _ (write : Writer) (w : World) (at : ℕ) where
  abbrev pub ticks : Fate → List Event
  ticks fate = Ticks at fate ∷ []

  abbrev due : Option Entry
  due = follow w.server.list call.Ticked (moment_at w.server.list at)

  pub tick_adds : (e : Entry) → due ≡ Some e → Adds write w ticks e
  tick_adds e some = next_kept w.server.list due e some

  pub tick_next : (e : Entry) → Adds write w ticks e → due ≡ Some e
  tick_next e adds = kept_next w.server.list due e adds

  module _ (n : Beside) (told : Bool) (store : Bytes) (uses : n.used ≡ 65 + sizes w.server.list) (more : List Entry) where
    abbrev b : Book
    b = record { store = store; told = told; list = w.server.list }

    pub tick_fits : (t : Ticked) → TickStep n b at more t → Fares (λ e. LIMIT) write w ticks (fate_of t)
    tick_fits (Ticked.Kept place) step = λ e adds. given_fits n LIMIT w.server.list due more uses step.2 e (tick_next e adds)
    tick_fits Ticked.Still step = λ e adds. given_fits n LIMIT w.server.list due more uses step.1 e (tick_next e adds)
    tick_fits Ticked.Fault step = let f = failed_within n LIMIT w.server.list due more uses step in (f.0, tick_adds f.0 f.1, f.2)
    tick_fits (Ticked.Full size count) step = let f = refused_past n LIMIT w.server.list due more uses size count step in (f.0, tick_adds f.0 f.1, f.2)

-- ---- the entry in doubt

-- where nothing was in doubt before: only the entry at which the keeper failed is
pub tick_doubt : (D D' : Bytes → Type 0) (from : Option Entry) (more : List Entry) (t : Ticked) → ((payload : Bytes) → D payload → ⊥) → DoubtStep D D' (entries from) more (is_failure (said_tick t)) → (payload : Bytes) → D' payload
    → (fate_of t ≡ IsFailed) × ((e : Entry) × (from ≡ Some e) × IsEntry e × (payload ≡ entry_bytes e))
tick_doubt D D' from more (Ticked.Kept place) none step payload d = absurd (none payload (still_none D more payload (step payload d)))
tick_doubt D D' from more Ticked.Still none step payload d = absurd (none payload (still_none D more payload (step payload d)))
tick_doubt D D' from more Ticked.Fault none step payload d = (refl, elim (step payload d) [ inl was ↦ absurd (none payload (still_none D more payload was)) | inr tried ↦ tried_one from more payload tried ])
tick_doubt D D' from more (Ticked.Full size count) none step payload d = absurd (none payload (still_none D more payload (step payload d)))

-- ---- a report

module _ {D S O C L : Type 0} (m : Meanings D S O C L) (before after : Outside D S O C L) (status : ℕ) (q : Query) (report : History → Bytes)
    (did : HasReported m.disk m.clock m.sink before.log after.log before.side after.side before.output after.output before.clock after.clock status report) (input : after.input ≡ before.input)
    (told : Bool) (tells : told ≡ true → m.disk.tells before.log × m.disk.tells before.side) where
  abbrev here : Book
  here = record { store = did.went.opened.store; told = told; list = did.went.opened.history }

  abbrev at : ℕ
  at = did.reported.release.now

  abbrev t : Ticked
  t = did.reported.release.ticked

  abbrev more : List Entry
  more = did.reported.release.more

  abbrev n : Beside
  n = numbers (pair_of m.disk) did.went.room did.went.after

  abbrev next : Option Entry
  next = follow here.list call.Ticked (moment_at here.list at)

  first : Stands (pair_of m.disk) did.went.room here
  first = (did.went.opened.holds told tells).stands

  happened : Happens (pair_of m.disk) did.went.room did.went.after here more call.Ticked at (said_tick t) (TickStep n here at more t)
  happened = did.reported.release.happens here first

  fares : old.Fares here.list next (fate_of t) more
  fares = tick_fares n here at more t happened.step

  none_before : (payload : Bytes) → (pair_of m.disk).doubts did.went.room.keeper payload → ⊥
  none_before payload doubt = calls_shut did.went.room.keeper.log.ajar did.went.opened.quiet doubt.is_ajar

  -- what was told of it, with the count of the files' failures
  told_behind : (text : Bytes) (t : Ticked) → IsReported m.sink text before.output after.output status t → TickStep n here at more t → ToldBehind m before after status text (fate_of t)
  told_behind text (Ticked.Kept place) r step = (r, calm_files m before after status did.went step.2.whole.calm)
  told_behind text Ticked.Still r step = (r, calm_files m before after status did.went step.1.whole.calm)
  told_behind text Ticked.Fault r step = (r, rose_files m before after status did.went step.rose)
  told_behind text (Ticked.Full size count) r step = (r, calm_files m before after status did.went step.calm)

  module _ (write : Writer) (w : World) (same : w.server.list ≡ did.went.opened.history) where
    abbrev events : List Event
    events = question_events q at (fate_of t)

    server_is : (run write events w).server ≡ put w.server next (fate_of t)
    server_is = question_server write w q at (fate_of t) ∙ ap (λ (h : History). put w.server (follow h call.Ticked (moment_at h at)) (fate_of t)) same

    -- the list that the tick has left
    list_is : (run write events w).server.list ≡ (onto more here).list
    list_is = ap (λ (s : Server). s.list) server_is ∙ ap (λ (h : History). list_after h next (fate_of t)) same ∙ fares.list ∙ sym fares.is

    leads : Lead write w events (onto more here).list
    leads = subst (Lead write w events) (ap (λ (h : History). entries fares.kept ++ h) same ∙ sym fares.is)
        (lead_more write w [] events w.server.list fares.kept (lead_none write w) (list_is ∙ fares.is ∙ ap (λ (h : History). entries fares.kept ++ h) (sym same)))

    doubted : (fate : Fate) (from : Option Entry) (e : Entry) → fate ≡ IsFailed → from ≡ Some e → IsOneOf (doubt_after w.server.doubt from fate) e
    doubted fate from e is some = subst (λ (f : Fate). IsOneOf (doubt_after w.server.doubt from f) e) (sym is) (subst (λ (x : Option Entry). IsOneOf (doubt_after w.server.doubt x IsFailed) e) (sym some) (0, refl))

    doubt : (e : Entry) → Doubted m before after status did.went told e → IsOneOf (run write events w).server.doubt e
    doubt e d =
        let found = tick_doubt ((pair_of m.disk).doubts did.went.room.keeper) ((pair_of m.disk).doubts did.went.after.keeper) next more t none_before (happened.told d.0).doubt (entry_bytes e) d.1.1 in
        let one : found.1.0 ≡ e = sym (same_entry e found.1.0 d.1.0 found.1.2 found.1.3) in
        subst (λ (s : Server). IsOneOf s.doubt e) (sym server_is) (doubted (fate_of t) next e found.0 (found.1.1 ∙ ap Some one))

    -- the step of the tick, at the world's list
    step_at : TickStep n (record { store = did.went.opened.store; told = told; list = w.server.list }) at more t
    step_at = subst (λ (h : History). TickStep n (record { store = did.went.opened.store; told = told; list = h }) at more t) (sym same) happened.step

    uses_at : n.used ≡ 65 + sizes w.server.list
    uses_at = uses_first m before after status did.went told tells ∙ ap (λ (h : History). 65 + sizes h) (sym same)

    is_report : IsReport m before after status q report write w events
    is_report = record {
      at = at;
      reads = record { told = λ it. (did.reported.release.read it).0; gave = λ it. (did.reported.release.read it).1 };
      fate = fate_of t;
      events_are = refl;
      fares = tick_fits write w at n told did.went.opened.store uses_at more t step_at;
      told = told_behind (report (run write events w).server.list) t (subst (λ (h : History). IsReported m.sink (report h) before.output after.output status t) (sym list_is) (did.reported.reported here first)) happened.step;
      input = input;
    }

  pub report_went : Went m before after status did.went AnyWriter (λ write w events. IsReport m before after status q report write w events) told
  report_went = record {
    now = (onto more here).list;
    stands = happened.stands;
    happened = λ write any w same. (events write w same, is_report write w same, record { lead = leads write w same; doubt = doubt write w same });
  }

module _ {D S O C L : Type 0} (m : Meanings D S O C L) (before after : Outside D S O C L) (status : ℕ) (q : Query) (report : History → Bytes) where
  -- a report on the list of the files, where they serve
  pub report_is : after.input ≡ before.input → after.links ≡ before.links → IsReportOf m.disk m.clock m.sink before.log after.log before.side after.side before.output after.output before.clock after.clock status report
      → NotOpened the_finders m before after status ⊎ GoesOn m before after status (λ write w events. IsReport m before after status q report write w events)
  report_is input links (inl not) = inl (not_opened m before after status not.why input not.clock_same links)
  report_is input links (inr did) =
      inr (goes_on m before after status did.went (λ write w events. IsReport m before after status q report write w events) (λ told tells. report_went m before after status q report did input told tells))

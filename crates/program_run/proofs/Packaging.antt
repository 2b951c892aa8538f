-- A package has been told in each world that has the list of the files.
use Rattle.std.proofs.Common.{◌≡◌, ◌⊎◌, inl, inr, ℕ, ◌+◌, ◌<◌, ◌≤◌, Bool, true, false, cond, List, [], ◌∷◌, ◌++◌, length, take, Option, Some, None, refl, sym, ap, ◌∙◌, subst}
use Rattle.std.specs.Prelude.{Result, Ok, Err}
use Rattle.news_types.specs.Books.{Book, followed_by, onto}
use Rattle.news_types.specs.declared.denial.Denial.{Denial}
use Rattle.news_types.specs.declared.entry.Act.{Act}
use Rattle.news_types.specs.declared.entry.Act.TheVariants.{Request}
use Rattle.news_types.specs.declared.entry.Entry.{Entry}
use Rattle.news_types.specs.declared.entry.Reply.{Reply}
use Rattle.news_types.specs.declared.command.Command.{Command}
use Rattle.news_types.specs.Names.{Bytes}
use Rattle.news_types.specs.Denial.{turn_denial, is_repeat, command_denial}
use Rattle.news_types.specs.History.{History, moment_at, last}
use Rattle.news_types.specs.Publications.{pubs}
use Rattle.news_types.specs.Frames.{Writer}
use Rattle.news_types.specs.Outcome.{Outcome, Answered, Done, Repeat, reply_to, last_reply, entry_of, kept, kept_unless, request, request_at}
use Rattle.news_types.specs.Calls as call
use Rattle.news_types.specs.Calls.{Answer, Fate, IsKept, IsFull, IsFailed, IsStarved, given, follow}
use Rattle.news_types.specs.Server.{call_answer}
use Rattle.news_io.specs.Faults.{Rose}
use Rattle.news_io.specs.Outside.{Meanings, Outside, store_faults}
use Rattle.desk_lines.specs.declared.lines.Described.{Described}
use Rattle.desk_lines.specs.declared.property.LineProperty.{LineProperty}
use Rattle.desk_lines.specs.Reading.{then_read}
use Rattle.desk_lines.specs.Lines.{package_object}
use Rattle.desk_answers.specs.Answers.{bad_bytes}
use Rattle.entry_codec.specs.Spelling.{entry_bytes}
use Rattle.entry_codec.specs.Formed.{IsEntry}
use Rattle.news_pair.specs.Keeper.{pair_of}
use Rattle.news_pair.specs.declared.pair.Pair.{Pair}
use Rattle.news_room.specs.Beside.{Beside}
use Rattle.news_room.specs.Events.{Happens}
use Rattle.news_room.specs.Log.{sizes}
use Rattle.news_room.specs.Said.{said, said_tick, is_failure}
use Rattle.news_room.specs.Stands.{Stands, in_doubt, limit_for, numbers}
use Rattle.news_room.specs.Steps.{entries, DoubtStep, Given, TickStep, RequestStep}
use Rattle.news_room.specs.declared.answers.Handled.{Handled}
use Rattle.news_room.specs.declared.answers.Ticked.{Ticked}
use Rattle.news_room.specs.declared.room.Room.{Room}
use Rattle.news_room.proofs.Lists.{same_entry}
use Rattle.store_files.proofs.Holding.{calls_shut}
use Rattle.package_rules.specs.declared.publish.Packaged.{Packaged}
use Rattle.package_rules.specs.Composed.{Composed}
use Rattle.package_rules.specs.Publishing.{packaged_by, flash_of, IsFlashed, FlashStep, BehindTick}
use Rattle.package_rules.specs.Readers.{readers}
use Rattle.room_reports.specs.Written as written
use Rattle.run_status.specs.declared.status.Status.TheVariants as status_of
use Rattle.whole_runs.specs.Output.{IsTextTold}
use Rattle.whole_runs.specs.Packaging as whole
use Rattle.whole_runs.specs.Packaging.{package_of, package_read, IsPackagedTold, IsPackageRun}
use Rattle.world_laws.specs.World.{World, Event, Requests, Ticks, run}
use Rattle.newsdesk_cli.specs.Opened.{HasGoneOn}
use Rattle.newsdesk_cli.specs.Packages.{IsPackageOf}
use Rattle.program_events.specs.Leads.{IsOneOf, Lead, LeadsOn}
use Rattle.program_events.proofs.Leading.{lead_none}
use Rattle.program_events.proofs.Reports as reports
use Rattle.program_events.proofs.Reports.{all_fares, failed_fares, full_fares, one_next, still_none, tried_one}
use Rattle.program_events.proofs.Stepping.{starved_fares, given_kept, given_starved, step_lead, failed_doubt}
use Rattle.program_run.specs.Formats.{Package}
use Rattle.program_run.specs.Inputs.{described, newsroom_formats}
use Rattle.program_run.specs.Left.{AnyWriter}
use Rattle.program_run.specs.Members.{LONGEST_INPUT, LIMIT, limit_of, Fits, Fares}
use Rattle.program_run.specs.Opens.{size_of}
use Rattle.program_run.specs.Published as new
use Rattle.program_run.specs.Published.{IsPackage}
use Rattle.program_run.specs.Reported.{IsCalm}
use Rattle.program_run.proofs.Counting.{sizes_on, given_fits, refused_past, failed_within, calm_files, rose_files, uses_first}
use Rattle.program_run.proofs.Going.{Doubted, Went, goes_on}
use Rattle.program_run.proofs.Means.{kept_next, next_kept}
use Rattle.program_run.proofs.Refusing.{not_opened}
use Rattle.program_run.proofs.Reporting.{fate_of, ticks, tick_fits}
use Rattle.program_run.proofs.Sizes.{limit_same, size_same}
use Rattle.program_run.proofs.Untouched.{first_stands, still_stands, still_files, nothing_leads}
use Rattle.program_run.proofs.Whole.{all_read, read_whole, not_read}

-- ---- the object and its package

abbrev packed : Composed → Package
packed p = record { story = p.story; members = p.members }

-- the results of a reading
abbrev found : Composed → Result Composed LineProperty
found p = Ok p

abbrev none : LineProperty → Result Composed LineProperty
none p = Err p

abbrev is_package : Composed → Result Package Bytes
is_package p = Ok (packed p)

abbrev is_told : LineProperty → Result Package Bytes
is_told p = Err (bad_bytes p ++ 10 ∷ [])

described_ok : (r : Result Described LineProperty) (p : Composed) → then_read r (λ d. Ok (package_of d)) ≡ Ok p → described r ≡ Ok (packed p)
described_ok (Ok d) p is = ap is_package (same (package_of d) p is)
  where
    same : (a b : Composed) → found a ≡ found b → a ≡ b
    same a b is = cc
described_ok (Err bad) p is = absurd (cc is)

described_err : (r : Result Described LineProperty) (bad : LineProperty) → then_read r (λ d. Ok (package_of d)) ≡ Err bad → described r ≡ Err (bad_bytes bad ++ 10 ∷ [])
described_err (Ok d) bad is = absurd (cc is)
described_err (Err other) bad is = ap is_told (same other bad is)
  where
    same : (a b : LineProperty) → none a ≡ none b → a ≡ b
    same a b is = cc

-- ---- the entry of a flash

abbrev flash_fate : Handled → Fate
flash_fate (Handled.Done reply) = IsKept
flash_fate (Handled.Repeat reply) = IsKept
flash_fate (Handled.Denied denial) = IsKept
flash_fate Handled.Fault = IsFailed
flash_fate (Handled.Full size count) = IsFull
flash_fate Handled.Memory = IsStarved

module _ (n : Beside) (b : Book) (now : ℕ) (caller : Bytes) (number : ℕ) (command : Command) (more : List Entry) where
  abbrev asked : Option Entry
  asked = follow b.list (call.Requested caller number command) (moment_at b.list now)

  flash_fares : (handled : Handled) → RequestStep n b now caller number command more handled → reports.Fares b.list asked (flash_fate handled) more
  flash_fares (Handled.Done reply) step = all_fares b.list asked more step.1.whole.is
  flash_fares (Handled.Repeat reply) step = all_fares b.list asked more step.1.whole.is
  flash_fares (Handled.Denied denial) step = all_fares b.list asked more step.1.whole.is
  flash_fares Handled.Fault step = failed_fares b.list asked more step.next step.rest step.is
  flash_fares (Handled.Full size count) step = full_fares b.list asked more step.next step.rest step.is
  flash_fares Handled.Memory step = starved_fares b.list asked more step.is

  abbrev replied : Answer
  replied = call.Replied ((request b.list caller number command now).answer)

  flash_said : (handled : Handled) → RequestStep n b now caller number command more handled → given asked (flash_fate handled) replied ≡ said handled
  flash_said (Handled.Done reply) step = given_kept asked replied ∙ ap call.Replied step.0
  flash_said (Handled.Repeat reply) step = given_kept asked replied ∙ ap call.Replied step.0
  flash_said (Handled.Denied denial) step = given_kept asked replied ∙ ap call.Replied step.0
  flash_said Handled.Fault step = ap (λ (o : Option Entry). given o IsFailed replied) (one_next asked more step.next step.rest step.is).1
  flash_said (Handled.Full size count) step = ap (λ (o : Option Entry). given o IsFull replied) (one_next asked more step.next step.rest step.is).1
  flash_said Handled.Memory step = given_starved asked replied

-- where nothing was in doubt before: only the entry at which the keeper failed is
flash_doubt : (D D' : Bytes → Type 0) (next : Option Entry) (more : List Entry) (handled : Handled) → ((payload : Bytes) → D payload → ⊥) → DoubtStep D D' (entries next) more (is_failure (said handled)) → (payload : Bytes) → D' payload
    → (flash_fate handled ≡ IsFailed) × ((e : Entry) × (next ≡ Some e) × IsEntry e × (payload ≡ entry_bytes e))
flash_doubt D D' next more (Handled.Done reply) none step payload d = absurd (none payload (still_none D more payload (step payload d)))
flash_doubt D D' next more (Handled.Repeat reply) none step payload d = absurd (none payload (still_none D more payload (step payload d)))
flash_doubt D D' next more (Handled.Denied denial) none step payload d = absurd (none payload (still_none D more payload (step payload d)))
flash_doubt D D' next more Handled.Fault none step payload d = (refl, elim (step payload d) [ inl was ↦ absurd (none payload (still_none D more payload was)) | inr tried ↦ tried_one next more payload tried ])
flash_doubt D D' next more (Handled.Full size count) none step payload d = absurd (none payload (still_none D more payload (step payload d)))
flash_doubt D D' next more Handled.Memory none step payload d = absurd (none payload (still_none D more payload (step payload d)))

-- ---- it is within the limit of its act

module _ (write : Writer) (v : World) (at : ℕ) (caller : Bytes) (number : ℕ) (command : Command) (n : Beside) (told : Bool) (store : Bytes) (uses : n.used ≡ 65 + sizes v.server.list) (more : List Entry) where
  abbrev flashes : Fate → List Event
  flashes fate = Requests caller number command at fate ∷ []

  abbrev here_flash : Book
  here_flash = record { store = store; told = told; list = v.server.list }

  abbrev next_flash : Option Entry
  next_flash = follow v.server.list (call.Requested caller number command) (moment_at v.server.list at)

  limit_next : (e : Entry) → next_flash ≡ Some e → limit_for (entries next_flash) ≡ limit_of e.act
  limit_next e some = ap (λ (o : Option Entry). limit_for (entries o)) some ∙ limit_same e.act

  kept_fits : Given n (limit_for (entries next_flash)) (entries next_flash) more → Fits (λ e. limit_of e.act) write v flashes
  kept_fits given e adds =
      let some : next_flash ≡ Some e = kept_next v.server.list next_flash e adds in
      subst (λ (k : ℕ). size_of (e ∷ v.server.list) ≤ k) (limit_next e some) (given_fits n (limit_for (entries next_flash)) v.server.list next_flash more uses given e some)

  flash_fits : (handled : Handled) → RequestStep n here_flash at caller number command more handled → Fares (λ e. limit_of e.act) write v flashes (flash_fate handled)
  flash_fits (Handled.Done reply) step = kept_fits step.1
  flash_fits (Handled.Repeat reply) step = kept_fits step.1
  flash_fits (Handled.Denied denial) step = kept_fits step.1
  flash_fits Handled.Fault step =
      let f = failed_within n (limit_for (entries next_flash)) v.server.list next_flash more uses step in
      (f.0, next_kept v.server.list next_flash f.0 f.1, subst (λ (k : ℕ). size_of (f.0 ∷ v.server.list) ≤ k) (limit_next f.0 f.1) f.2)
  flash_fits (Handled.Full size count) step =
      let f = refused_past n (limit_for (entries next_flash)) v.server.list next_flash more uses size count step in
      (f.0, next_kept v.server.list next_flash f.0 f.1, subst (λ (k : ℕ). k < size_of (f.0 ∷ v.server.list)) (limit_next f.0 f.1) f.2)
  flash_fits Handled.Memory step = tt

-- ---- a request that is done is kept

done_kept : (h : History) (caller : Bytes) (number : ℕ) (command : Command) (m : ℕ) (reply : Reply) → (request_at h caller number command m).answer ≡ Done reply → request_at h caller number command m ≡ kept h m (Request caller number command)
done_kept h caller number command m reply is = by (turn_denial (last h caller) number command) (is_repeat (last h caller) number command) (command_denial h caller command m) is
  where
    done : Outcome Answered
    done = kept h m (Request caller number command)

    repeated : Outcome Answered
    repeated = record { answer = Repeat (last_reply h caller); more = None }

    by : (o : Option Denial) (b : Bool) (p : Option Denial) → (kept_unless o (cond b repeated (kept_unless p done))).answer ≡ Done reply → kept_unless o (cond b repeated (kept_unless p done)) ≡ done
    by (Some denial) b p is = absurd (cc (is))
    by None true p is = absurd (cc (is))
    by None false (Some denial) is = absurd (cc (is))
    by None false None is = refl

reply_of : (a b : Reply) → Done a ≡ Done b → a ≡ b
reply_of a b same = cc

-- ---- the list that is left

module _ {D S O C L : Type 0} (m : Meanings D S O C L) (before after : Outside D S O C L) (status : ℕ) (went : HasGoneOn m.disk before.log after.log before.side after.side status) (caller : Bytes) (number : ℕ) (at : ℕ) (p : Composed) (mid : Room (Pair D)) where
  -- what was kept behind the tick
  abbrev flash_left : (answer : Packaged) → FlashStep (pair_of m.disk) mid went.after at caller number p answer → List Entry
  flash_left (Packaged.NoReaders front) step = []
  flash_left Packaged.Memory (inl is) = []
  flash_left Packaged.Memory (inr f) = f.more
  flash_left (Packaged.Done reply) step = step.2.more
  flash_left (Packaged.Repeat reply) step = step.2.more
  flash_left (Packaged.Denied denial) step = step.2.more
  flash_left Packaged.Fault step = step.2.more
  flash_left (Packaged.Full size count) step = step.2.more

  abbrev package_left : (t : Ticked) (answer : Packaged) → BehindTick (pair_of m.disk) mid went.after at caller number p t answer → List Entry
  package_left (Ticked.Kept place) answer rest = flash_left answer rest
  package_left Ticked.Still answer rest = flash_left answer rest
  package_left Ticked.Fault answer rest = []
  package_left (Ticked.Full size count) answer rest = []

  module _ (b : Book) (ticked : Stands (pair_of m.disk) mid b) where
    same_stands : went.after ≡ mid → Stands (pair_of m.disk) went.after b
    same_stands is = subst (λ (r : Room (Pair D)). Stands (pair_of m.disk) r b) (sym is) ticked

    flash_stands : (answer : Packaged) → (step : FlashStep (pair_of m.disk) mid went.after at caller number p answer) → Stands (pair_of m.disk) went.after (onto (flash_left answer step) b)
    flash_stands (Packaged.NoReaders front) step = same_stands step.same
    flash_stands Packaged.Memory (inl is) = same_stands is
    flash_stands Packaged.Memory (inr f) = let h = f.happens b ticked in h.stands
    flash_stands (Packaged.Done reply) step = let f = step.2 in let h = f.happens b ticked in h.stands
    flash_stands (Packaged.Repeat reply) step = let f = step.2 in let h = f.happens b ticked in h.stands
    flash_stands (Packaged.Denied denial) step = let f = step.2 in let h = f.happens b ticked in h.stands
    flash_stands Packaged.Fault step = let f = step.2 in let h = f.happens b ticked in h.stands
    flash_stands (Packaged.Full size count) step = let f = step.2 in let h = f.happens b ticked in h.stands

    package_stands : (t : Ticked) (answer : Packaged) → (rest : BehindTick (pair_of m.disk) mid went.after at caller number p t answer) → Stands (pair_of m.disk) went.after (onto (package_left t answer rest) b)
    package_stands (Ticked.Kept place) answer rest = flash_stands answer rest
    package_stands Ticked.Still answer rest = flash_stands answer rest
    package_stands Ticked.Fault answer rest = same_stands rest.1
    package_stands (Ticked.Full size count) answer rest = same_stands rest.1

-- ---- the package, by the room that has published it

module _ {D S O C L : Type 0} (m : Meanings D S O C L) (before after : Outside D S O C L) (status : ℕ) (went : HasGoneOn m.disk before.log after.log before.side after.side status) (caller : Bytes) (number : ℕ)
    (told : Bool) (tells : told ≡ true → m.disk.tells before.log × m.disk.tells before.side) (write : Writer) (w : World) (same : w.server.list ≡ went.opened.history) (at : ℕ) (p : Composed) (mid : Room (Pair D)) (released : List Entry) where
  abbrev here : Book
  here = record { store = went.opened.store; told = told; list = went.opened.history }

  abbrev behind : Book
  behind = onto released here

  abbrev n : Beside
  n = numbers (pair_of m.disk) went.room mid

  abbrev next : History → Option Entry
  next h = follow h call.Ticked (moment_at h at)

  abbrev Ticks_to : Ticked → Type 0
  Ticks_to t = Happens (pair_of m.disk) went.room mid here released call.Ticked at (said_tick t) (TickStep n here at released t)

  abbrev Doubt : Entry → Type 0
  Doubt e = Doubted m before after status went told e

  abbrev Told : Packaged → Type 0
  Told answer = IsPackagedTold m.sink answer before.output after.output status

  abbrev Did : List Event → Type 0
  Did events = new.HasNotTicked newsroom_formats m before after status caller number write w (packed p) at events
      ⊎ (new.HasAskedNothing newsroom_formats m before after status caller number write w (packed p) at events ⊎ new.HasAskedFlash newsroom_formats m before after status caller number write w (packed p) at events)

  -- these events lead to the list that is left
  pub record Packs (now : History) : Type 0 where
    pub events : List Event
    pub did : Did events
    pub leads : LeadsOn write w now Doubt events

  none_before : (payload : Bytes) → (pair_of m.disk).doubts went.room.keeper payload → ⊥
  none_before payload doubt = calls_shut went.room.keeper.log.ajar went.opened.quiet doubt.is_ajar

  start : Lead write w [] here.list
  start = subst (Lead write w []) same (lead_none write w)

  uses : n.used ≡ 65 + sizes w.server.list
  uses = uses_first m before after status went told tells ∙ ap (λ (g : History). 65 + sizes g) (sym same)

  -- the step of the tick, at the world's list
  step_at : (t : Ticked) → TickStep n here at released t → TickStep n (record { store = went.opened.store; told = told; list = w.server.list }) at released t
  step_at t step = subst (λ (h : History). TickStep n (record { store = went.opened.store; told = told; list = h }) at released t) (sym same) step

  tick_fares_there : (t : Ticked) → TickStep n here at released t → Fares (λ e. LIMIT) write w (ticks write w at) (fate_of t)
  tick_fares_there t step = tick_fits write w at n told went.opened.store uses released t (step_at t step)

  -- the room's count is the files', where it is that of the room behind the tick
  calm_last : (pair_of m.disk).faults mid.keeper ≡ (pair_of m.disk).faults went.room.keeper → (pair_of m.disk).faults went.after.keeper ≡ (pair_of m.disk).faults mid.keeper → IsCalm m before after
  calm_last first second = calm_files m before after status went (second ∙ first)

  -- ---- where all of the tick was kept

  module _ (ticked : Stands (pair_of m.disk) mid behind) (fares : reports.Fares here.list (next here.list) IsKept released) (calm : told ≡ true → (payload : Bytes) → (pair_of m.disk).doubts mid.keeper payload → ⊥)
      (still : (pair_of m.disk).faults mid.keeper ≡ (pair_of m.disk).faults went.room.keeper) (used : (pair_of m.disk).used mid.keeper ≡ (pair_of m.disk).used went.room.keeper + sizes released) (fits : Fits (λ e. LIMIT) write w (ticks write w at)) where
    tick_lead : Lead write w (Ticks at IsKept ∷ []) behind.list
    tick_lead = step_lead write w [] here.list start (Ticks at IsKept) next IsKept (λ v. refl) released fares

    -- the world behind the tick
    abbrev v : World
    v = run write (Ticks at IsKept ∷ []) w

    list_is : v.server.list ≡ behind.list
    list_is = tick_lead.list

    -- nothing was asked behind it
    still_packs : went.after ≡ mid → ((readers behind.list p.members ≡ []) × Told (Packaged.NoReaders (length behind.list))) ⊎ Told Packaged.Memory → Packs behind.list
    still_packs is why = record {
      events = Ticks at IsKept ∷ [];
      did = inr (inl (record {
        events_are = refl;
        fits = fits;
        told = subst (λ (h : History). ((readers h p.members ≡ []) × Told (Packaged.NoReaders (length h))) ⊎ Told Packaged.Memory) (sym list_is) why;
        calm = calm_last still (ap (λ (r : Room (Pair D)). (pair_of m.disk).faults r.keeper) is);
      }));
      leads = record { lead = tick_lead; doubt = λ e d. let was = subst (λ (r : Room (Pair D)). in_doubt (pair_of m.disk) r e) is d.1 in absurd (calm d.0 (entry_bytes e) was.1) };
    }

    -- the flash was asked
    module _ (handled : Handled) (f : IsFlashed (pair_of m.disk) mid went.after at caller number p handled) where
      abbrev n2 : Beside
      n2 = numbers (pair_of m.disk) mid went.after

      abbrev command : Command
      command = flash_of p behind.list

      abbrev flash : History → Option Entry
      flash h = follow h (call.Requested caller number command) (moment_at h at)

      abbrev fate : Fate
      fate = flash_fate handled

      happened : Happens (pair_of m.disk) mid went.after behind f.more (call.Requested caller number command) at (said handled) (RequestStep n2 behind at caller number command f.more handled)
      happened = f.happens behind ticked

      fares_flash : reports.Fares behind.list (flash behind.list) fate f.more
      fares_flash = flash_fares n2 behind at caller number command f.more handled happened.step

      abbrev events : List Event
      events = Ticks at IsKept ∷ Requests caller number command at fate ∷ []

      flash_lead : Lead write w events (followed_by f.more behind.list)
      flash_lead = step_lead write w (Ticks at IsKept ∷ []) behind.list tick_lead (Requests caller number command at fate) flash fate (λ u. refl) f.more fares_flash

      doubt : (e : Entry) → Doubt e → IsOneOf (run write events w).server.doubt e
      doubt e d =
          let found = flash_doubt ((pair_of m.disk).doubts mid.keeper) ((pair_of m.disk).doubts went.after.keeper) (flash behind.list) f.more handled (calm d.0) (happened.told d.0).doubt (entry_bytes e) d.1.1 in
          let one : found.1.0 ≡ e = sym (same_entry e found.1.0 d.1.0 found.1.2 found.1.3) in
          failed_doubt write w (Ticks at IsKept ∷ []) behind.list tick_lead (Requests caller number command at fate) flash fate (λ u. refl) f.more fares_flash e (found.1.1 ∙ ap Some one) found.0

      -- at the world's list
      abbrev Step : History → Type 0
      Step h = RequestStep n2 (record { store = went.opened.store; told = told; list = h }) at caller number (flash_of p h) f.more handled

      step_there : Step v.server.list
      step_there = subst Step (sym list_is) happened.step

      uses_there : n2.used ≡ 65 + sizes v.server.list
      uses_there =
          let first : (pair_of m.disk).used went.room.keeper ≡ 65 + sizes here.list = uses_first m before after status went told tells in
          let size : (pair_of m.disk).used went.room.keeper + sizes released ≡ size_of (followed_by released here.list) = sizes_on released here.list ((pair_of m.disk).used went.room.keeper) first in
          used ∙ size ∙ sym (size_same (followed_by released here.list)) ∙ ap (λ (h : History). 65 + sizes h) (sym list_is)

      abbrev world_answer : Answer
      world_answer = call_answer write v.server (call.Requested caller number (flash_of p v.server.list)) at fate

      answer_is : world_answer ≡ said handled
      answer_is = flash_said n2 (record { store = went.opened.store; told = told; list = v.server.list }) at caller number (flash_of p v.server.list) f.more handled step_there

      -- ---- how it is told

      calm_flash : n2.later_faults ≡ n2.faults → IsCalm m before after
      calm_flash is = calm_last still is

      rose_flash : Rose n2.faults n2.later_faults → Rose (store_faults m before) (store_faults m after)
      rose_flash rose = rose_files m before after status went (subst (λ (k : ℕ). Rose k n2.later_faults) still rose)

      told_flash : (h : Handled) → RequestStep n2 behind at caller number command f.more h → Told (packaged_by h) → new.ToldFlash newsroom_formats m before after status caller number write w (packed p) at events (said h)
      told_flash (Handled.Done reply) step t = (t, calm_flash step.1.whole.calm)
      told_flash (Handled.Repeat reply) step t = (t, calm_flash step.1.whole.calm)
      told_flash (Handled.Denied denial) step t = (t, calm_flash step.1.whole.calm)
      told_flash Handled.Fault step t = (t, rose_flash step.rose)
      told_flash (Handled.Full size count) step t = (t, calm_flash step.calm)
      told_flash Handled.Memory step t = (t, calm_flash step.calm)

      -- ---- where it is done

      abbrev Published : Reply → Type 0
      Published reply = new.IsPublished newsroom_formats m before after status caller number write w (packed p) at events reply

      published_of : (reply : Reply) → RequestStep n2 behind at caller number command f.more (Handled.Done reply) → Published reply
      published_of reply step =
          let g : History = behind.list in
          let moment : ℕ = moment_at g at in
          let act : Act = Request caller number command in
          let is_kept = done_kept g caller number command moment reply step.0 in
          let more_is : f.more ≡ entry_of moment act ∷ [] = step.1.whole.is ∙ ap (λ (o : Outcome Answered). entries o.more) is_kept in
          let reply_is : reply ≡ reply_to g moment act = reply_of reply (reply_to g moment act) (sym step.0 ∙ ap (λ (o : Outcome Answered). o.answer) is_kept) in
          record {
            entry = entry_of moment act;
            list = flash_lead.list ∙ ap (λ (l : List Entry). followed_by l g) more_is ∙ ap (λ (h : History). entry_of moment act ∷ h) (sym list_is);
            act = ap (λ (h : History). Request caller number (flash_of p h)) (sym list_is);
            number_is = ap (λ (r : Reply). r.publication) reply_is ∙ ap (λ (h : History). length (pubs h) + 1) (sym list_is);
          }

      is_done : (h : Handled) → RequestStep n2 behind at caller number command f.more h → new.IsDone newsroom_formats m before after status caller number write w (packed p) at events (said h)
      is_done (Handled.Done reply) step = published_of reply step
      is_done (Handled.Repeat reply) step = tt
      is_done (Handled.Denied denial) step = tt
      is_done Handled.Fault step = tt
      is_done (Handled.Full size count) step = tt
      is_done Handled.Memory step = tt

      flash_packs : Told (packaged_by handled) → Packs (followed_by f.more behind.list)
      flash_packs t = record {
        events = events;
        did = inr (inr (record {
          fate = fate;
          events_are = ap (λ (h : History). Ticks at IsKept ∷ Requests caller number (flash_of p h) at fate ∷ []) (sym list_is);
          some = subst (λ (h : History). readers h p.members ≡ [] → ⊥) (sym list_is) (f.some behind ticked);
          fits = fits;
          fares = flash_fits write v at caller number (flash_of p v.server.list) n2 told went.opened.store uses_there f.more handled step_there;
          told = subst (λ (a : Answer). new.ToldFlash newsroom_formats m before after status caller number write w (packed p) at events a) (sym answer_is) (told_flash handled happened.step t);
          done = subst (λ (a : Answer). new.IsDone newsroom_formats m before after status caller number write w (packed p) at events a) (sym answer_is) (is_done handled happened.step);
        }));
        leads = record { lead = flash_lead; doubt = doubt };
      }

    behind_packs : (answer : Packaged) → (step : FlashStep (pair_of m.disk) mid went.after at caller number p answer) → Told answer → Packs (followed_by (flash_left m before after status went caller number at p mid answer step) behind.list)
    behind_packs (Packaged.NoReaders front) step t = still_packs step.same (inl (step.none behind ticked, subst (λ (k : ℕ). Told (Packaged.NoReaders k)) (step.front_is behind ticked) t))
    behind_packs Packaged.Memory (inl is) t = still_packs is (inr t)
    behind_packs Packaged.Memory (inr f) t = flash_packs Handled.Memory f t
    behind_packs (Packaged.Done reply) step t = flash_packs step.0 step.2 (subst Told step.1 t)
    behind_packs (Packaged.Repeat reply) step t = flash_packs step.0 step.2 (subst Told step.1 t)
    behind_packs (Packaged.Denied denial) step t = flash_packs step.0 step.2 (subst Told step.1 t)
    behind_packs Packaged.Fault step t = flash_packs step.0 step.2 (subst Told step.1 t)
    behind_packs (Packaged.Full size count) step t = flash_packs step.0 step.2 (subst Told step.1 t)

  -- ---- by what the tick was answered

  -- what the tick did not fail at is in no doubt
  calm_by : (told ≡ true → DoubtStep ((pair_of m.disk).doubts went.room.keeper) ((pair_of m.disk).doubts mid.keeper) (entries (next here.list)) released false) → told ≡ true → (payload : Bytes) → (pair_of m.disk).doubts mid.keeper payload → ⊥
  calm_by step is payload d = none_before payload (still_none ((pair_of m.disk).doubts went.room.keeper) released payload (step is payload d))

  -- its entry was not kept
  unticked : (fate : Fate) → Stands (pair_of m.disk) mid behind → went.after ≡ mid → new.ToldUnticked newsroom_formats m before after status caller number write w (packed p) at (Ticks at fate ∷ []) fate
      → Fares (λ e. LIMIT) write w (ticks write w at) fate → reports.Fares here.list (next here.list) fate released → ((e : Entry) → told ≡ true → in_doubt (pair_of m.disk) mid e → (next here.list ≡ Some e) × (fate ≡ IsFailed)) → Packs behind.list
  unticked fate ticked is told_so fits fares doubt = record {
    events = Ticks at fate ∷ [];
    did = inl (record { fate = fate; events_are = refl; fares = fits; told = told_so });
    leads = record {
      lead = step_lead write w [] here.list start (Ticks at fate) next fate (λ v. refl) released fares;
      doubt = λ e d.
          let found = doubt e d.0 (subst (λ (r : Room (Pair D)). in_doubt (pair_of m.disk) r e) is d.1) in
          failed_doubt write w [] here.list start (Ticks at fate) next fate (λ v. refl) released fares e found.0 found.1;
    };
  }

  failed_one : (step : DoubtStep ((pair_of m.disk).doubts went.room.keeper) ((pair_of m.disk).doubts mid.keeper) (entries (next here.list)) released true) (e : Entry) → in_doubt (pair_of m.disk) mid e → next here.list ≡ Some e
  failed_one step e d = elim (step (entry_bytes e) d.1) [
    | inl was ↦ absurd (none_before (entry_bytes e) (still_none ((pair_of m.disk).doubts went.room.keeper) released (entry_bytes e) was))
    | inr tried ↦
        let one = tried_one (next here.list) released (entry_bytes e) tried in
        one.1 ∙ ap Some (sym (same_entry e one.0 d.0 one.2 one.3))
  ]

  faults_same : went.after ≡ mid → (pair_of m.disk).faults went.after.keeper ≡ (pair_of m.disk).faults mid.keeper
  faults_same is = ap (λ (r : Room (Pair D)). (pair_of m.disk).faults r.keeper) is

  pub packs : (t : Ticked) → Ticks_to t → (answer : Packaged) → (rest : BehindTick (pair_of m.disk) mid went.after at caller number p t answer) → Told answer
      → Packs (followed_by (package_left m before after status went caller number at p mid t answer rest) behind.list)
  packs (Ticked.Kept place) tick answer rest t =
      behind_packs tick.stands (all_fares here.list (next here.list) released tick.step.2.whole.is) (calm_by (λ is. (tick.told is).doubt)) tick.step.2.whole.calm tick.step.2.whole.grown (tick_fares_there (Ticked.Kept place) tick.step) answer rest t
  packs Ticked.Still tick answer rest t =
      behind_packs tick.stands (all_fares here.list (next here.list) released tick.step.1.whole.is) (calm_by (λ is. (tick.told is).doubt)) tick.step.1.whole.calm tick.step.1.whole.grown (tick_fares_there Ticked.Still tick.step) answer rest t
  packs Ticked.Fault tick answer rest t =
      unticked IsFailed tick.stands rest.1 (subst Told rest.0 t, rose_files m before after status went (subst (Rose n.faults) (sym (faults_same rest.1)) tick.step.rose)) (tick_fares_there Ticked.Fault tick.step)
      (failed_fares here.list (next here.list) released tick.step.next tick.step.rest tick.step.is) (λ e is d. (failed_one (tick.told is).doubt e d, refl))
  packs (Ticked.Full size count) tick answer rest t =
      unticked IsFull tick.stands rest.1 (subst Told rest.0 t, calm_last tick.step.calm (faults_same rest.1)) (tick_fares_there (Ticked.Full size count) tick.step)
      (full_fares here.list (next here.list) released tick.step.next tick.step.rest tick.step.is) (λ e is d. absurd (calm_by (λ is. (tick.told is).doubt) is (entry_bytes e) d.1))

-- ---- by the input

module _ {D S O C L : Type 0} (m : Meanings D S O C L) (before after : Outside D S O C L) (status : ℕ) (caller : Bytes) (number : ℕ) where
  abbrev Happened : Writer → World → List Event → Type 0
  Happened write w events = IsPackage newsroom_formats m before after status caller number write w events

  module _ (went : HasGoneOn m.disk before.log after.log before.side after.side status) (told : Bool) (tells : told ≡ true → m.disk.tells before.log × m.disk.tells before.side) where
    abbrev Run : Type 0
    Run = IsPackageRun (pair_of m.disk) m.clock m.source m.sink caller number went.room went.after before.clock after.clock before.input after.input before.output after.output status

    -- nothing was asked of the room
    unasked : went.after ≡ went.room → (IsCalm m before after → (write : Writer) (w : World) → Happened write w []) → Went m before after status went AnyWriter Happened told
    unasked none happened = record {
      now = went.opened.history;
      stands = still_stands m before after status went told tells none;
      happened = λ write any w same. ([], happened (still_files m before after status went told tells none) write w, nothing_leads m before after status went told tells none write w same);
    }

    bad_told : (object : List ℕ) → ((property : LineProperty) × (package_read object ≡ Err property) × IsTextTold m.sink (whole.end_line (bad_bytes property)) before.output after.output status) ⊎ written.IsStopped m.sink status_of.Memory before.output after.output status
        → ((text : Bytes) × (described (package_object object) ≡ Err text) × IsTextTold m.sink text before.output after.output status) ⊎ written.IsStopped m.sink status_of.Memory before.output after.output status
    bad_told object (inl bad) = inl (bad_bytes bad.0 ++ 10 ∷ [], described_err (package_object object) bad.0 bad.1, bad.2)
    bad_told object (inr stopped) = inr stopped

    pub package_went : Run → Went m before after status went AnyWriter Happened told
    package_went (inl did) =
        let first = first_stands m before after status went told tells in
        let here : Book = record { store = went.opened.store; told = told; list = went.opened.history } in
        let tick = did.published.tick here first in
        let p : Composed = did.package_is in
        record {
          now = followed_by (package_left m before after status went caller number did.now p did.published.mid did.published.ticked did.packaged did.published.rest) (followed_by did.published.released went.opened.history);
          stands = package_stands m before after status went caller number did.now p did.published.mid (onto did.published.released here) tick.stands did.published.ticked did.packaged did.published.rest;
          happened = λ write any w same.
              let x = packs m before after status went caller number told tells write w same did.now p did.published.mid did.published.released did.published.ticked tick did.packaged did.published.rest did.told in (
                x.events,
                inl (record {
                  object = all_read m before after status LONGEST_INPUT did.object did.part;
                  read = read_whole m before after status LONGEST_INPUT did.object did.part;
                  made = packed p;
                  described = subst (λ (bytes : List ℕ). described (package_object bytes) ≡ Ok (packed p)) did.part.3 (described_ok (package_object did.object) p did.described);
                  at = did.now;
                  reads = record { told = λ it. (did.read it).0; gave = λ it. (did.read it).1 };
                  did = x.did;
                }),
                x.leads,
              );
        }
    package_went (inr (inl bad)) = unasked bad.same (λ calm write w. inr (inl (record {
      object = all_read m before after status LONGEST_INPUT bad.object bad.part;
      read = read_whole m before after status LONGEST_INPUT bad.object bad.part;
      told = bad_told (take new.ENOUGH (all_read m before after status LONGEST_INPUT bad.object bad.part))
          (subst (λ (bytes : List ℕ). ((property : LineProperty) × (package_read bytes ≡ Err property) × IsTextTold m.sink (whole.end_line (bad_bytes property)) before.output after.output status) ⊎ written.IsStopped m.sink status_of.Memory before.output after.output status) bad.part.3 bad.told);
      none = refl;
      calm = calm;
      clock = bad.same_clock;
    })))
    package_went (inr (inr not)) = unasked not.same (λ calm write w. inr (inr (not_read m before after status LONGEST_INPUT [] refl calm not.same_clock not.why not.part not.stopped)))

  -- a package is published, where the files serve
  pub package_is : after.links ≡ before.links
      → IsPackageOf m.disk m.clock m.source m.sink before.log after.log before.side after.side before.input after.input before.output after.output before.clock after.clock status caller number
      → new.Published newsroom_formats m before after status caller number
  package_is links (inl not) = inl (not_opened m before after status not.why not.input_same not.clock_same links)
  package_is links (inr did) = inr (goes_on m before after status did.went Happened (λ told tells. package_went did.went told tells did.published), did.complete)

-- A package has happened in each world that has the list of its files.
use Rattle.std.proofs.Common.{◌≡◌, ◌⊎◌, inl, inr, ℕ, Bool, true, false, List, [], ◌∷◌, ◌++◌, length, Option, Some, None, refl, sym, ap, ◌∙◌, subst}
use mathlib.Core.Bool.{false≢true}
use Rattle.news_types.specs.Books.{Book, followed_by, onto}
use Rattle.news_types.specs.declared.entry.Entry.{Entry}
use Rattle.news_types.specs.declared.command.Command.{Command}
use Rattle.news_types.specs.Names.{Bytes}
use Rattle.news_types.specs.History.{History, moment_at}
use Rattle.news_types.specs.Frames.{Writer}
use Rattle.news_types.specs.Outcome.{request}
use Rattle.news_types.specs.Calls as call
use Rattle.news_types.specs.Calls.{Answer, Fate, IsKept, IsFull, IsFailed, IsStarved, given, follow}
use Rattle.news_types.specs.Server.{call_answer}
use Rattle.news_io.specs.Clock.{ClockMeaning}
use Rattle.news_io.specs.Disk.{DiskMeaning}
use Rattle.news_io.specs.Keeper.{KeeperMeaning}
use Rattle.news_io.specs.Sink.{SinkMeaning}
use Rattle.news_io.specs.Source.{SourceMeaning}
use Rattle.entry_codec.specs.Spelling.{entry_bytes}
use Rattle.entry_codec.specs.Formed.{IsEntry}
use Rattle.news_pair.specs.Keeper.{pair_of}
use Rattle.news_pair.specs.declared.pair.Pair.{Pair}
use Rattle.news_room.specs.Beside.{Beside}
use Rattle.news_room.specs.Events.{Happens}
use Rattle.news_room.specs.Said.{said, said_tick, is_failure}
use Rattle.news_room.specs.Stands.{Stands, in_doubt, numbers}
use Rattle.news_room.specs.Steps.{entries, DoubtStep, TickStep, RequestStep}
use Rattle.news_room.specs.declared.answers.Handled.{Handled}
use Rattle.news_room.specs.declared.answers.Ticked.{Ticked}
use Rattle.news_room.specs.declared.room.Room.{Room}
use Rattle.news_room.proofs.Lists.{same_entry, same_list}
use Rattle.store_files.proofs.Holding.{calls_shut}
use Rattle.package_rules.specs.declared.publish.Packaged.{Packaged}
use Rattle.package_rules.specs.Composed.{Composed}
use Rattle.package_rules.specs.Publishing.{packaged_by, flash_of, IsFlashed, HasNoReaders, FlashStep, BehindTick}
use Rattle.package_rules.specs.Readers.{readers}
use Rattle.whole_runs.specs.Packaging.{HasPublished, IsPackageRun}
use Rattle.world_laws.specs.World.{World, Event, Requests, Ticks, run}
use Rattle.newsdesk_cli.specs.Opened.{HasGoneOn}
use Rattle.program_events.specs.Leads.{IsOneOf, Lead, LeadsOn}
use Rattle.program_events.specs.Packages.{AreOfPackage, PackageHappened, NothingHappened, PackageRunHappened}
use Rattle.program_events.proofs.Leading.{lead_none}
use Rattle.program_events.proofs.Reports.{Fares, all_fares, failed_fares, full_fares, one_next, still_none, tried_one}
use Rattle.program_events.proofs.Stepping.{starved_fares, given_kept, given_starved, step_list, step_lead, failed_doubt}

-- ---- the entry of a flash

flash_fate : Handled → Fate
flash_fate (Handled.Done reply) = IsKept
flash_fate (Handled.Repeat reply) = IsKept
flash_fate (Handled.Denied denial) = IsKept
flash_fate Handled.Fault = IsFailed
flash_fate (Handled.Full size count) = IsFull
flash_fate Handled.Memory = IsStarved

module _ (n : Beside) (b : Book) (now : ℕ) (caller : Bytes) (number : ℕ) (command : Command) (more : List Entry) where
  abbrev asked : Option Entry
  asked = follow b.list (call.Requested caller number command) (moment_at b.list now)

  flash_fares : (handled : Handled) → RequestStep n b now caller number command more handled → Fares b.list asked (flash_fate handled) more
  unfolding flash_fate
  flash_fares (Handled.Done reply) step = all_fares b.list asked more step.1.whole.is
  flash_fares (Handled.Repeat reply) step = all_fares b.list asked more step.1.whole.is
  flash_fares (Handled.Denied denial) step = all_fares b.list asked more step.1.whole.is
  flash_fares Handled.Fault step = failed_fares b.list asked more step.next step.rest step.is
  flash_fares (Handled.Full size count) step = full_fares b.list asked more step.next step.rest step.is
  flash_fares Handled.Memory step = starved_fares b.list asked more step.is

  abbrev replied : Answer
  replied = call.Replied ((request b.list caller number command now).answer)

  flash_said : (handled : Handled) → RequestStep n b now caller number command more handled → given asked (flash_fate handled) replied ≡ said handled
  unfolding flash_fate
  flash_said (Handled.Done reply) step = given_kept asked replied ∙ ap call.Replied step.0
  flash_said (Handled.Repeat reply) step = given_kept asked replied ∙ ap call.Replied step.0
  flash_said (Handled.Denied denial) step = given_kept asked replied ∙ ap call.Replied step.0
  flash_said Handled.Fault step = ap (λ (o : Option Entry). given o IsFailed replied) (one_next asked more step.next step.rest step.is).1
  flash_said (Handled.Full size count) step = ap (λ (o : Option Entry). given o IsFull replied) (one_next asked more step.next step.rest step.is).1
  flash_said Handled.Memory step = given_starved asked replied

-- where nothing was in doubt before: only the entry at which the keeper failed is
flash_doubt : (D D' : Bytes → Type 0) (next : Option Entry) (more : List Entry) (handled : Handled) → ((payload : Bytes) → D payload → ⊥) → DoubtStep D D' (entries next) more (is_failure (said handled)) → (payload : Bytes) → D' payload
    → (flash_fate handled ≡ IsFailed) × ((e : Entry) × (next ≡ Some e) × IsEntry e × (payload ≡ entry_bytes e))
unfolding flash_fate
flash_doubt D D' next more (Handled.Done reply) none step payload d = absurd (none payload (still_none D more payload (step payload d)))
flash_doubt D D' next more (Handled.Repeat reply) none step payload d = absurd (none payload (still_none D more payload (step payload d)))
flash_doubt D D' next more (Handled.Denied denial) none step payload d = absurd (none payload (still_none D more payload (step payload d)))
flash_doubt D D' next more Handled.Fault none step payload d = (refl, elim (step payload d) [ inl was ↦ absurd (none payload (still_none D more payload was)) | inr tried ↦ tried_one next more payload tried ])
flash_doubt D D' next more (Handled.Full size count) none step payload d = absurd (none payload (still_none D more payload (step payload d)))
flash_doubt D D' next more Handled.Memory none step payload d = absurd (none payload (still_none D more payload (step payload d)))

-- ---- the run

module _ {D : Type 0} (disk : DiskMeaning D) (log log' side side' : D) (status : ℕ) (went : HasGoneOn disk log log' side side' status)
    (tells : disk.tells log) (tells' : disk.tells side) (write : Writer) (w : World) (same : w.server.list ≡ went.opened.history) where
  abbrev k : KeeperMeaning (Pair D)
  k = pair_of disk

  abbrev here : Book
  here = record { store = went.opened.store; told = true; list = went.opened.history }

  stands : Stands k went.room here
  stands = (went.opened.holds true (λ is. (tells, tells'))).stands

  pub none_before : (payload : Bytes) → k.doubts went.room.keeper payload → ⊥
  none_before payload doubt = calls_shut went.room.keeper.log.ajar went.opened.quiet doubt.is_ajar

  start : Lead write w [] here.list
  start = subst (Lead write w []) same (lead_none write w)

  -- events that lead to the list for which the room behind the run stands
  pub ends : (events : List Event) (b : Book) → b.told ≡ true → Stands k went.after b → Lead write w events b.list → ((e : Entry) → in_doubt k went.after e → IsOneOf (run write events w).server.doubt e)
      → LeadsOn write w (went.files tells tells').list (in_doubt k went.after) events
  ends events b told behind lead doubt =
      let files = went.files tells tells' in
      let mine = behind.told told in
      let other = files.stands.told refl in
      let is = same_list b.list files.list behind.kept.formed files.stands.kept.formed (sym mine.list_is ∙ other.list_is) in
      record { lead = subst (Lead write w events) is lead; doubt = doubt }

  -- nothing was asked
  pub nothing_happened : went.after ≡ went.room → (events : List Event) × NothingHappened write w (went.files tells tells').list (in_doubt k went.after) events
  nothing_happened none = (
    [],
    record {
      none = refl;
      leads = ends [] here refl (subst (λ (r : Room (Pair D)). Stands k r here) (sym none) stands) start
          (λ e d. let was = subst (λ (r : Room (Pair D)). in_doubt k r e) none d in absurd (none_before (entry_bytes e) was.1));
    },
  )

  -- ---- a tick, and what came behind it

  module _ (at : ℕ) (caller : Bytes) (number : ℕ) (p : Composed) (mid : Room (Pair D)) (released : List Entry) where
    abbrev next : History → Option Entry
    next h = follow h call.Ticked (moment_at h at)

    abbrev Ticks_to : Ticked → Type 0
    Ticks_to t = Happens k went.room mid here released call.Ticked at (said_tick t) (TickStep (numbers k went.room mid) here at released t)

    abbrev behind : Book
    behind = onto released here

    -- where all of the tick was kept
    module _ (ticked : Stands k mid behind) (fares : Fares here.list (next here.list) IsKept released) (calm : (payload : Bytes) → k.doubts mid.keeper payload → ⊥) where
      tick_lead : Lead write w (Ticks at IsKept ∷ []) behind.list
      tick_lead = step_lead write w [] here.list start (Ticks at IsKept) next IsKept (λ v. refl) released fares

      -- nothing was asked behind it
      still_leads : went.after ≡ mid → LeadsOn write w (went.files tells tells').list (in_doubt k went.after) (Ticks at IsKept ∷ [])
      still_leads is =
          ends (Ticks at IsKept ∷ []) behind refl (subst (λ (r : Room (Pair D)). Stands k r behind) (sym is) ticked) tick_lead
          (λ e d. let was = subst (λ (r : Room (Pair D)). in_doubt k r e) is d in absurd (calm (entry_bytes e) was.1))

      -- the flash was asked
      module _ (handled : Handled) (f : IsFlashed k mid went.after at caller number p handled) where
        abbrev command : Command
        command = flash_of p behind.list

        abbrev flash : History → Option Entry
        flash h = follow h (call.Requested caller number command) (moment_at h at)

        happened : Happens k mid went.after behind f.more (call.Requested caller number command) at (said handled) (RequestStep (numbers k mid went.after) behind at caller number command f.more handled)
        happened = f.happens behind ticked

        fares_flash : Fares behind.list (flash behind.list) (flash_fate handled) f.more
        fares_flash = flash_fares (numbers k mid went.after) behind at caller number command f.more handled happened.step

        flash_leads : LeadsOn write w (went.files tells tells').list (in_doubt k went.after) (Ticks at IsKept ∷ Requests caller number command at (flash_fate handled) ∷ [])
        flash_leads =
            ends (Ticks at IsKept ∷ Requests caller number command at (flash_fate handled) ∷ []) (onto f.more behind) refl happened.stands
            (step_lead write w (Ticks at IsKept ∷ []) behind.list tick_lead (Requests caller number command at (flash_fate handled)) flash (flash_fate handled) (λ v. refl) f.more fares_flash)
            (λ e d.
            let found = flash_doubt (k.doubts mid.keeper) (k.doubts went.after.keeper) (flash behind.list) f.more handled calm (happened.told refl).doubt (entry_bytes e) d.1 in
            let one : found.1.0 ≡ e = sym (same_entry e found.1.0 d.0 found.1.2 found.1.3) in
            failed_doubt write w (Ticks at IsKept ∷ []) behind.list tick_lead (Requests caller number command at (flash_fate handled)) flash (flash_fate handled) (λ v. refl) f.more fares_flash e (found.1.1 ∙ ap Some one) found.0)

        said_is : given (flash behind.list) (flash_fate handled) (call.Replied ((request behind.list caller number command at).answer)) ≡ said handled
        said_is = flash_said (numbers k mid went.after) behind at caller number command f.more handled happened.step

    -- by what the tick was answered, and what was done behind it
    abbrev Is : Packaged → List Event → Type 0
    Is answer events = AreOfPackage write w caller number p at answer events × LeadsOn write w (went.files tells tells').list (in_doubt k went.after) events

    module _ (ticked : Stands k mid behind) (fares : Fares here.list (next here.list) IsKept released) (calm : (payload : Bytes) → k.doubts mid.keeper payload → ⊥) where
      abbrev list_is : (run write (Ticks at IsKept ∷ []) w).server.list ≡ behind.list
      list_is = (tick_lead ticked fares calm).list

      flash_is : (answer : Packaged) (handled : Handled) → answer ≡ packaged_by handled → IsFlashed k mid went.after at caller number p handled → (events : List Event) × Is answer events
      flash_is answer handled is f =
          let events : List Event = Ticks at IsKept ∷ Requests caller number (flash_of p behind.list) at (flash_fate handled) ∷ [] in (
            events,
            (
              inr (inr (record {
                fate = flash_fate handled;
                events_are = ap (λ (h : History). Ticks at IsKept ∷ Requests caller number (flash_of p h) at (flash_fate handled) ∷ []) (sym list_is);
                some = subst (λ (h : History). readers h p.members ≡ [] → ⊥) (sym list_is) (f.some behind ticked);
                handled = handled;
                answer_is = is;
                said_is = subst (λ (h : History). given (follow h (call.Requested caller number (flash_of p h)) (moment_at h at)) (flash_fate handled) (call.Replied ((request h caller number (flash_of p h) at).answer)) ≡ said handled) (sym list_is) (said_is ticked fares calm handled f);
              })),
              flash_leads ticked fares calm handled f,
            ),
          )

      still_is : (answer : Packaged) → went.after ≡ mid → ((readers behind.list p.members ≡ []) × (answer ≡ Packaged.NoReaders (length behind.list))) ⊎ (answer ≡ Packaged.Memory) → (events : List Event) × Is answer events
      still_is answer is why = (
        Ticks at IsKept ∷ [],
        (
          inr (inl (record {
            events_are = refl;
            why = subst (λ (h : History). ((readers h p.members ≡ []) × (answer ≡ Packaged.NoReaders (length h))) ⊎ (answer ≡ Packaged.Memory)) (sym list_is) why;
          })),
          still_leads ticked fares calm is,
        ),
      )

      behind_is : (answer : Packaged) → FlashStep k mid went.after at caller number p answer → (events : List Event) × Is answer events
      behind_is (Packaged.NoReaders front) step = still_is (Packaged.NoReaders front) step.same (inl (step.none behind ticked, ap Packaged.NoReaders (step.front_is behind ticked)))
      behind_is Packaged.Memory (inl is) = still_is Packaged.Memory is (inr refl)
      behind_is Packaged.Memory (inr f) = flash_is Packaged.Memory Handled.Memory refl f
      behind_is (Packaged.Done reply) step = flash_is (Packaged.Done reply) step.0 step.1 step.2
      behind_is (Packaged.Repeat reply) step = flash_is (Packaged.Repeat reply) step.0 step.1 step.2
      behind_is (Packaged.Denied denial) step = flash_is (Packaged.Denied denial) step.0 step.1 step.2
      behind_is Packaged.Fault step = flash_is Packaged.Fault step.0 step.1 step.2
      behind_is (Packaged.Full size count) step = flash_is (Packaged.Full size count) step.0 step.1 step.2

    -- what the tick did not fail at is in no doubt
    calm_by : (more : List Entry) → DoubtStep (k.doubts went.room.keeper) (k.doubts mid.keeper) (entries (next here.list)) more false → (payload : Bytes) → k.doubts mid.keeper payload → ⊥
    calm_by more step payload d = none_before payload (still_none (k.doubts went.room.keeper) more payload (step payload d))

    -- the entry of the tick was not kept
    unticked : (t : Ticked) (answer : Packaged) (fate : Fate) → Ticks_to t → went.after ≡ mid → ((fate ≡ IsFailed) × (answer ≡ Packaged.Fault)) ⊎ ((fate ≡ IsFull) × (size : ℕ) × (count : ℕ) × (answer ≡ Packaged.Full size count))
        → Fares here.list (next here.list) fate released → ((e : Entry) → in_doubt k mid e → (next here.list ≡ Some e) × (fate ≡ IsFailed)) → (events : List Event) × Is answer events
    unticked t answer fate tick is why fares doubt = (
      Ticks at fate ∷ [],
      (
        inl (record { fate = fate; events_are = refl; why = why }),
        ends (Ticks at fate ∷ []) behind refl (subst (λ (r : Room (Pair D)). Stands k r behind) (sym is) tick.stands)
            (step_lead write w [] here.list start (Ticks at fate) next fate (λ v. refl) released fares)
            (λ e d.
            let found = doubt e (subst (λ (r : Room (Pair D)). in_doubt k r e) is d) in
            failed_doubt write w [] here.list start (Ticks at fate) next fate (λ v. refl) released fares e found.0 found.1),
      ),
    )

    failed_one : (step : DoubtStep (k.doubts went.room.keeper) (k.doubts mid.keeper) (entries (next here.list)) released true) (e : Entry) → in_doubt k mid e → next here.list ≡ Some e
    failed_one step e d = elim (step (entry_bytes e) d.1) [
      | inl was ↦ absurd (none_before (entry_bytes e) (still_none (k.doubts went.room.keeper) released (entry_bytes e) was))
      | inr tried ↦
          let one = tried_one (next here.list) released (entry_bytes e) tried in
          one.1 ∙ ap Some (sym (same_entry e one.0 d.0 one.2 one.3))
    ]

    pub published_is : (t : Ticked) → Ticks_to t → (answer : Packaged) → BehindTick k mid went.after at caller number p t answer → (events : List Event) × Is answer events
    published_is (Ticked.Kept place) tick answer rest =
        behind_is tick.stands (all_fares here.list (next here.list) released tick.step.2.whole.is) (calm_by released (tick.told refl).doubt) answer rest
    published_is Ticked.Still tick answer rest =
        behind_is tick.stands (all_fares here.list (next here.list) released tick.step.1.whole.is) (calm_by released (tick.told refl).doubt) answer rest
    published_is Ticked.Fault tick answer rest =
        unticked Ticked.Fault answer IsFailed tick rest.1 (inl (refl, rest.0)) (failed_fares here.list (next here.list) released tick.step.next tick.step.rest tick.step.is)
        (λ e d. (failed_one (tick.told refl).doubt e d, refl))
    published_is (Ticked.Full size count) tick answer rest =
        unticked (Ticked.Full size count) answer IsFull tick rest.1 (inr (refl, size, count, rest.0)) (full_fares here.list (next here.list) released tick.step.next tick.step.rest tick.step.is)
        (λ e d. absurd (calm_by released (tick.told refl).doubt (entry_bytes e) d.1))

-- ---- by the input

module _ {D C S O : Type 0} (disk : DiskMeaning D) (clock : ClockMeaning C) (source : SourceMeaning S) (sink : SinkMeaning O) (caller : Bytes) (number : ℕ)
    (log log' side side' : D) (c c' : C) (i i' : S) (o o' : O) (status : ℕ) (went : HasGoneOn disk log log' side side' status)
    (tells : disk.tells log) (tells' : disk.tells side) (write : Writer) (w : World) (same : w.server.list ≡ went.opened.history) where
  pub package_happened : (did : IsPackageRun (pair_of disk) clock source sink caller number went.room went.after c c' i i' o o' status)
      → (events : List Event) × PackageRunHappened (pair_of disk) clock source sink caller number went.room went.after c c' i i' o o' status write w (went.files tells tells').list (in_doubt (pair_of disk) went.after) events did
  package_happened (inl did) =
      let b : Book = record { store = went.opened.store; told = true; list = went.opened.history } in
      let first = (went.opened.holds true (λ is. (tells, tells'))).stands in
      let found =
      published_is disk log log' side side' status went tells tells' write w same did.now caller number did.package_is did.published.mid did.published.released did.published.ticked
      (did.published.tick b first) did.packaged did.published.rest in
      (found.0, record { at = did.now; read = did.read; answer = did.packaged; are = found.1.0; told = did.told; leads = found.1.1 })
  package_happened (inr (inl bad)) = nothing_happened disk log log' side side' status went tells tells' write w same bad.same
  package_happened (inr (inr not)) = nothing_happened disk log log' side side' status went tells tells' write w same not.same

module _ {K C S O : Type 0} (keeper : KeeperMeaning K) (clock : ClockMeaning C) (source : SourceMeaning S) (sink : SinkMeaning O) (caller : Bytes) (number : ℕ)
    (old new : Room K) (c c' : C) (i i' : S) (o o' : O) (status : ℕ) (write : Writer) (w : World) (g : History) (D : Entry → Type 0) (events : List Event) where
  pub package_leads : (did : IsPackageRun keeper clock source sink caller number old new c c' i i' o o' status) → PackageRunHappened keeper clock source sink caller number old new c c' i i' o o' status write w g D events did → LeadsOn write w g D events
  package_leads (inl did) x = x.leads
  package_leads (inr unasked) x = x.leads

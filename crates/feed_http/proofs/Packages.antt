-- A turn that is a package behind a tick.
use Rattle.std.proofs.Common.{◌≡◌, ◌⊎◌, inl, inr, ℕ, Bool, true, false, cond, List, [], ◌∷◌, ◌++◌, length, Option, Some, None, Ok, Err, refl, sym, ap, ◌∙◌, subst, append-nil, arith}
use Rattle.std.proofs.lemmas.Bool.{false≢true}
use Rattle.news_types.specs.declared.entry.Entry.{Entry}
use Rattle.news_types.specs.declared.entry.Act.TheVariants.{Advance, Request}
use Rattle.news_types.specs.declared.command.Command.{Command}
use Rattle.news_types.specs.declared.command.Command.TheVariants.{Flash}
use Rattle.news_types.specs.declared.denial.Denial.{Denial}
use Rattle.news_types.specs.declared.story.Story.{Story}
use Rattle.news_types.specs.Names.{Bytes}
use Rattle.news_types.specs.History.{History, moment_at, last}
use Rattle.news_types.specs.Denial.{turn_denial, command_denial, is_repeat}
use Rattle.news_types.specs.Legal.{some_waits}
use Rattle.news_types.specs.Books.{Book, followed_by, onto}
use Rattle.news_types.specs.Frames.{Writer}
use Rattle.news_types.specs.Outcome.{Outcome, kept_unless, kept, request, request_at, last_reply}
use Rattle.news_types.specs.Outcome as outcome
use Rattle.news_types.specs.Calls.{Requested, Ticked, Full, Fault, entry_if, ticked}
use Rattle.news_io.specs.Keeper.{KeeperMeaning}
use Rattle.feed_frames.specs.Writer.{the_writer}
use Rattle.news_room.specs.Beside.{Beside}
use Rattle.news_room.specs.Stands.{Stands, LIMIT, limit_for, numbers}
use Rattle.news_room.specs.Said.{said, said_tick, is_failure}
use Rattle.news_room.specs.Steps.{Whole, Within, Given, Refused, Failed, Answers, RequestStep, TickStep, tick_entries, entries, ToldStep, After}
use Rattle.news_room.specs.Events.{IsEvent, Happens}
use Rattle.news_room.specs.declared.answers.Handled.{Handled}
use Rattle.news_room.specs.declared.answers.Ticked as tick
use Rattle.news_room.specs.declared.room.Room.{Room}
use Rattle.news_room.proofs.Appends.{told_none}
use Rattle.news_room.proofs.Going.{after_longer, after_then}
use Rattle.news_room.proofs.Steps.{given_given, given_failed, given_refused, failed_longer, refused_longer, nothing_given}
use Rattle.package_rules.specs.declared.publish.Packaged.{Packaged}
use Rattle.package_rules.specs.Composed.{Composed}
use Rattle.package_rules.specs.Readers.{readers}
use Rattle.package_rules.specs.Publishing.{packaged_by, flash_of, IsFlashed, HasNoReaders, FlashStep, BehindTick, IsPublished}
use Rattle.desk_lines.specs.declared.lines.Described.{Described}
use Rattle.desk_routes.specs.declared.response.Response.{Response}
use Rattle.desk_routes.specs.declared.response.Notice.TheVariants as notice
use Rattle.desk_routes.specs.declared.ask.HttpAsk.TheVariants as ask
use Rattle.desk_routes.specs.Responses.{answered_response, notice_response}
use Rattle.feed_http.specs.Outcome.{HttpOutcome, unasked, no_readers_response, package_of, flash_outcome, package_outcome, with_tick, ask_outcome}
use Rattle.feed_http.specs.Turn.{IsTold, IsToldAs, IsPackaged, Comes, whole, full, failed, starved, tells_failure, Calls, IsStill, FlashEvents, FlashesBehind, TicksAndFlashes, PackageEvents, HttpTurn, AskTurn}
use Rattle.feed_http.proofs.Outcomes.{replied, packages, without_readers, with_readers}
use Rattle.feed_http.proofs.Coming.{told_whole, comes_starved as unheard}
use Rattle.feed_http.proofs.Calling.{still, still_turn, Turned}
use Rattle.feed_http.proofs.Questions.{is_passed, tick_given, never_fails, behind_tick}
use Rattle.feed_http.proofs.Doubts.{told_any, told_as, told_by, failure_told}

-- ---- the list behind the tick

-- its next moment is that of the tick
moment_behind : (h : History) (now : ℕ) → moment_at (ticked h (moment_at h now)) now ≡ moment_at h now
moment_behind h now = by (some_waits h (moment_at h now)) refl
  where
    by : (w : Bool) → some_waits h (moment_at h now) ≡ w → moment_at (ticked h (moment_at h now)) now ≡ moment_at h now
    by true e = rw e (omega arith)
    by false e = rw e refl

-- ---- the limit of what follows

flash_limit : (g : History) (caller : Bytes) (number : ℕ) (story : Story) (to : List Bytes) (m : ℕ) → limit_for (entries (request_at g caller number (Flash story to) m).more) ≡ LIMIT
flash_limit g caller number story to m = by (turn_denial (last g caller) number (Flash story to)) (is_repeat (last g caller) number (Flash story to)) (command_denial g caller (Flash story to) m)
  where
    done : Outcome outcome.Answered
    done = kept g m (Request caller number (Flash story to))

    repeated : Outcome outcome.Answered
    repeated = record { answer = outcome.Repeat (last_reply g caller); more = None }

    by : (o : Option Denial) (b : Bool) (p : Option Denial) → limit_for (entries (kept_unless o (cond b repeated (kept_unless p done))).more) ≡ LIMIT
    by (Some denial) b p = refl
    by None true p = refl
    by None false (Some denial) = refl
    by None false None = refl

both_limit : (waits : Bool) (m : ℕ) (o : Option Entry) → limit_for (entries o) ≡ LIMIT → limit_for (entries (entry_if waits m Advance) ++ entries o) ≡ LIMIT
both_limit true m o is = refl
both_limit false m o is = is

outcome_limit : (write : Writer) (waits : Bool) (g : History) (m x : ℕ) (caller : Bytes) (number : ℕ) (p : Composed) (to : List Bytes) → limit_for (entries (entry_if waits m Advance) ++ (flash_outcome write g x caller number p to).adds) ≡ LIMIT
outcome_limit write waits g m x caller number p [] = both_limit waits m None refl
outcome_limit write waits g m x caller number p (reader ∷ more) = both_limit waits m (request_at g caller number (Flash p.story (reader ∷ more)) x).more (flash_limit g caller number p.story (reader ∷ more) x)

package_limit : (write : Writer) (h g : History) (m x : ℕ) (caller : Bytes) (number : ℕ) (p : Composed) → limit_for (tick_entries h m ++ (package_outcome write g x caller number p).adds) ≡ LIMIT
unfolding package_outcome
package_limit write h g m x caller number p = outcome_limit write (some_waits h m) g m x caller number p (readers g p.members)

-- what is told of a package is what is told of its flash
as_handled : (handled : Handled) (response : Response) → IsPackaged (packaged_by handled) response → IsTold (said handled) response
as_handled (Handled.Done reply) response told = told
as_handled (Handled.Repeat reply) response told = told
as_handled (Handled.Denied denial) response told = told
as_handled Handled.Fault response told = told
as_handled (Handled.Full size count) response told = told
as_handled Handled.Memory response told = inl told

kept_none : (n : Beside) (limit : ℕ) (more : List Entry) → Whole n [] more → Given n limit [] more
kept_none n limit more none = record { whole = none; within = subst (Within n limit) (sym none.is) tt }

module _ {K : Type 0} (keeper : KeeperMeaning K) (caller : Bytes) (number : ℕ) (described : Described) (now : ℕ) (response : Response) where
  abbrev p : Composed
  p = package_of described

  -- ---- a tick that was not refused, and what comes behind it

  module _ (old mid new : Room K) (b : Book) (released added : List Entry) (t : tick.Ticked) (passed : is_passed t ≡ true)
      (tick_happens : Happens keeper old mid b released Ticked now (said_tick t) (TickStep (numbers keeper old mid) b now released t)) where
    abbrev h : History
    h = b.list

    abbrev m : ℕ
    m = moment_at h now

    abbrev d : Book
    d = onto released b

    abbrev g : History
    g = d.list

    abbrev more : List Entry
    more = released ++ added

    abbrev ticks : List Entry
    ticks = tick_entries h m

    abbrev n : Beside
    n = numbers keeper old new

    -- what the package's outcome is at the list behind the tick
    abbrev P : HttpOutcome
    P = package_outcome (the_writer b.store) g (moment_at g now) caller number p

    given : Given (numbers keeper old mid) LIMIT ticks released
    given = tick_given (numbers keeper old mid) b now released t passed tick_happens.step

    list_is : g ≡ ticked h m
    list_is = behind_tick (numbers keeper old mid) b now released given

    moment_is : moment_at g now ≡ m
    moment_is = ap (λ (l : History). moment_at l now) list_is ∙ moment_behind h now

    outcome_is : ask_outcome b.store h (ask.Package caller number described) m ≡ with_tick h m P
    outcome_is = packages b.store h caller number described m
        ∙ sym (λ i. with_tick h m (package_outcome (the_writer b.store) (list_is i) (moment_is i) caller number p))

    after_tick : After keeper old mid b ticks released false (Unit {0})
    after_tick = record {
      stands = tick_happens.stands;
      did = tt;
      told = λ s. subst (λ (f : Bool). ToldStep keeper old mid b ticks released f) (never_fails t passed) (tick_happens.told s);
    }

    -- within the limit of what follows
    both_given : (should : List Entry) → Given (numbers keeper mid new) LIMIT should added → Given n LIMIT (ticks ++ should) more
    both_given should two = given_given (keeper.faults old.keeper) (keeper.used old.keeper) (keeper.faults mid.keeper) (keeper.used mid.keeper) (keeper.faults new.keeper) (keeper.used new.keeper) LIMIT ticks should released added given two

    -- only the tick was kept, and there was no memory
    comes_starved : (adds : List Entry) (o : HttpOutcome) → o.adds ≡ ticks ++ adds → limit_for o.adds ≡ LIMIT → response ≡ notice_response notice.NoMemory → Given (numbers keeper mid new) LIMIT [] added → Comes n o more response
    comes_starved adds o is limit none two =
        let both : Given n LIMIT (ticks ++ []) more = both_given [] two in
        let same : more ≡ ticks = both.whole.is ∙ append-nil ticks in
        starved adds none (is ∙ ap (λ (l : List Entry). l ++ adds) (sym same))
        (subst (λ (l : ℕ). Given n l more more) (sym limit) (subst (λ (l : List Entry). Given n LIMIT l more) (sym both.whole.is) both))

    flashes_behind : (x : tick.Ticked) → is_passed x ≡ true → FlashEvents keeper mid new d added caller number p now response → FlashesBehind keeper mid new d added caller number p now (said_tick x) response
    flashes_behind (tick.Ticked.Kept place) is events = events
    flashes_behind tick.Ticked.Still is events = events
    flashes_behind tick.Ticked.Fault is events = absurd (false≢true is)
    flashes_behind (tick.Ticked.Full size count) is events = absurd (false≢true is)

    -- the turn, by what came behind the tick
    turn : (X : HttpOutcome) (fails : Bool) → P ≡ X → After keeper mid new d X.adds added fails (Unit {0}) → Comes n (with_tick h m X) more response → (fails ≡ true → tells_failure response ≡ true) → FlashEvents keeper mid new d added caller number p now response
        → AskTurn keeper old new b more (ask.Package caller number described) now response
    turn X fails is two came so events =
        let E = PackageEvents keeper old new b more caller number p now response in
        let a = after_then keeper old mid new b ticks X.adds released added fails (Unit {0}) (Unit {0}) (Unit {0}) given.whole.is after_tick two tt in
        subst (λ (o : HttpOutcome). HttpTurn keeper old new b more o response E) (sym (outcome_is ∙ ap (with_tick h m) is))
        (record {
          stands = a.stands;
          came = came;
          events = inr (record { mid = mid; released = released; added = added; more_is = refl; answer = said_tick t; event = tick_happens.event; flashes = flashes_behind t passed events });
          told = λ s. told_as keeper old new b (ticks ++ X.adds) more fails (tells_failure response) so (a.told s);
        })

    -- ---- the flash

    comes_flashed : (o : Outcome outcome.Answered) (handled : Handled) → limit_for (entries o.more) ≡ LIMIT → limit_for (ticks ++ entries o.more) ≡ LIMIT → Answers (numbers keeper mid new) added o handled → IsPackaged (packaged_by handled) response
        → Comes n (with_tick h m (replied o)) more response
    comes_flashed o handled own limit step told = by handled step told
      where
        all : Given (numbers keeper mid new) (limit_for (entries o.more)) (entries o.more) added → Given n (limit_for (ticks ++ entries o.more)) (ticks ++ entries o.more) more
        all two = subst (λ (l : ℕ). Given n l (ticks ++ entries o.more) more) (sym limit) (both_given (entries o.more) (subst (λ (l : ℕ). Given (numbers keeper mid new) l (entries o.more) added) own two))

        told_for : (a : outcome.Answered) → o.answer ≡ a → IsToldAs (answered_response a) response → Given (numbers keeper mid new) (limit_for (entries o.more)) (entries o.more) added → Comes n (with_tick h m (replied o)) more response
        told_for a is said two = told_whole n (with_tick h m (replied o)) more response (subst (λ (x : outcome.Answered). IsToldAs (answered_response x) response) (sym is) said) (all two)

        by : (handled : Handled) → Answers (numbers keeper mid new) added o handled → IsPackaged (packaged_by handled) response → Comes n (with_tick h m (replied o)) more response
        by (Handled.Done reply) step told = told_for (outcome.Done reply) step.0 told step.1
        by (Handled.Repeat reply) step told = told_for (outcome.Repeat reply) step.0 told step.1
        by (Handled.Denied denial) step told = told_for (outcome.Denied denial) step.0 told step.1
        by Handled.Fault step told =
            failed told
            (subst (λ (l : ℕ). Failed n l (ticks ++ entries o.more) more) (sym limit)
            (given_failed (keeper.faults old.keeper) (keeper.used old.keeper) (keeper.faults mid.keeper) (keeper.used mid.keeper) (keeper.faults new.keeper) (keeper.used new.keeper) LIMIT ticks (entries o.more) released added given
            (subst (λ (l : ℕ). Failed (numbers keeper mid new) l (entries o.more) added) own step)))
        by (Handled.Full size count) step told =
            full size count told
            (subst (λ (l : ℕ). Refused n l (ticks ++ entries o.more) more size count) (sym limit)
            (given_refused (keeper.faults old.keeper) (keeper.used old.keeper) (keeper.faults mid.keeper) (keeper.used mid.keeper) (keeper.faults new.keeper) (keeper.used new.keeper) LIMIT ticks (entries o.more) released added size count given
            (subst (λ (l : ℕ). Refused (numbers keeper mid new) l (entries o.more) added size count) own step)))
        by Handled.Memory step told = comes_starved (entries o.more) (with_tick h m (replied o)) refl limit told (kept_none (numbers keeper mid new) LIMIT added step)

    flash_turn : (handled : Handled) → (readers g p.members ≡ [] → ⊥) → Happens keeper mid new d added (Requested caller number (flash_of p g)) now (said handled) (RequestStep (numbers keeper mid new) d now caller number (flash_of p g) added handled)
        → IsPackaged (packaged_by handled) response → AskTurn keeper old new b more (ask.Package caller number described) now response
    flash_turn handled some happens told =
        let o : Outcome outcome.Answered = request_at g caller number (flash_of p g) (moment_at g now) in
        let is : P ≡ replied o = with_readers (the_writer b.store) g (moment_at g now) caller number p some in
        turn (replied o) (is_failure (said handled)) is (record { stands = happens.stands; did = tt; told = happens.told })
        (comes_flashed o handled (flash_limit g caller number p.story (readers g p.members) (moment_at g now)) (both_limit (some_waits h m) m o.more (flash_limit g caller number p.story (readers g p.members) (moment_at g now))) happens.step told)
        (λ fails. failure_told (said handled) response (as_handled handled response told) fails)
        (inr (record { answer = said handled; event = happens.event; told = as_handled handled response told }))

  -- ---- nothing behind the tick

  module _ (old mid : Room K) (b : Book) (released : List Entry) (t : tick.Ticked) (passed : is_passed t ≡ true)
      (tick_happens : Happens keeper old mid b released Ticked now (said_tick t) (TickStep (numbers keeper old mid) b now released t)) where
    nothing_more : (adds : List Entry) → After keeper mid mid (onto released b) adds [] false (Unit {0})
    nothing_more adds = record { stands = tick_happens.stands; did = tt; told = λ s. told_none keeper mid mid (onto released b) adds refl }

    nothing_kept : Given (numbers keeper mid mid) LIMIT [] []
    nothing_kept = nothing_given (numbers keeper mid mid) LIMIT [] refl refl refl

    no_readers_turn : (front : ℕ) → readers ((onto released b).list) p.members ≡ [] → front ≡ length ((onto released b).list) → IsToldAs (no_readers_response front) response
        → AskTurn keeper old mid b (released ++ []) (ask.Package caller number described) now response
    no_readers_turn front none front_is told =
        let g : History = (onto released b).list in
        let X : HttpOutcome = unasked (no_readers_response (length g)) in
        let limit : limit_for (tick_entries b.list (moment_at b.list now) ++ []) ≡ LIMIT = both_limit (some_waits b.list (moment_at b.list now)) (moment_at b.list now) None refl in
        turn old mid mid b released [] t passed tick_happens X false (without_readers (the_writer b.store) g (moment_at g now) caller number p none) (nothing_more [])
        (told_whole (numbers keeper old mid) (with_tick b.list (moment_at b.list now) X) (released ++ []) response (subst (λ (k : ℕ). IsToldAs (no_readers_response k) response) front_is told)
        (subst (λ (l : ℕ). Given (numbers keeper old mid) l (tick_entries b.list (moment_at b.list now) ++ []) (released ++ [])) (sym limit) (both_given old mid mid b released [] t passed tick_happens [] nothing_kept)))
        (λ fails. absurd (false≢true fails)) (inl (still keeper mid))

    -- there was no memory to find the readers, or to ask
    unasked_turn : response ≡ notice_response notice.NoMemory → AskTurn keeper old mid b (released ++ []) (ask.Package caller number described) now response
    unasked_turn none =
        let g : History = (onto released b).list in
        let X : HttpOutcome = package_outcome (the_writer b.store) g (moment_at g now) caller number p in
        turn old mid mid b released [] t passed tick_happens X false refl (nothing_more X.adds)
        (comes_starved old mid mid b released [] t passed tick_happens X.adds (with_tick b.list (moment_at b.list now) X) refl (package_limit (the_writer b.store) b.list g (moment_at b.list now) (moment_at g now) caller number p) none nothing_kept)
        (λ fails. absurd (false≢true fails)) (inl (still keeper mid))

  -- ---- a tick that was refused

  module _ (old mid : Room K) (b : Book) (released : List Entry) where
    abbrev asked_adds : List Entry
    asked_adds = (package_outcome (the_writer b.store) (ticked b.list (moment_at b.list now)) (moment_at b.list now) caller number p).adds

    limit_is : limit_for (tick_entries b.list (moment_at b.list now) ++ asked_adds) ≡ LIMIT
    limit_is = package_limit (the_writer b.store) b.list (ticked b.list (moment_at b.list now)) (moment_at b.list now) (moment_at b.list now) caller number p

    as_packaged : HttpTurn keeper old mid b released (with_tick b.list (moment_at b.list now) (package_outcome (the_writer b.store) (ticked b.list (moment_at b.list now)) (moment_at b.list now) caller number p)) response (PackageEvents keeper old mid b released caller number p now response)
        → AskTurn keeper old mid b released (ask.Package caller number described) now response
    as_packaged x = subst (λ (o : HttpOutcome). HttpTurn keeper old mid b released o response (PackageEvents keeper old mid b released caller number p now response)) (sym (packages b.store b.list caller number described (moment_at b.list now))) x

    told_longer : (fails : Bool) → Stands keeper mid (onto released b) → (b.told ≡ true → ToldStep keeper old mid b (tick_entries b.list (moment_at b.list now)) released fails) → b.told ≡ true → ToldStep keeper old mid b (tick_entries b.list (moment_at b.list now) ++ asked_adds) released fails
    told_longer fails stands told = (after_longer keeper old mid b (tick_entries b.list (moment_at b.list now)) asked_adds released fails (Unit {0}) (Unit {0}) (record { stands = stands; did = tt; told = told }) tt).told

    failed_turn : Happens keeper old mid b released Ticked now Fault (TickStep (numbers keeper old mid) b now released tick.Ticked.Fault) → response ≡ notice_response notice.Fault → AskTurn keeper old mid b released (ask.Package caller number described) now response
    failed_turn happens is = as_packaged (record {
      stands = happens.stands;
      came = failed is (subst (λ (l : ℕ). Failed (numbers keeper old mid) l (tick_entries b.list (moment_at b.list now) ++ asked_adds) released) (sym limit_is) (failed_longer (numbers keeper old mid) LIMIT (tick_entries b.list (moment_at b.list now)) asked_adds released happens.step));
      events = inr (record { mid = mid; released = released; added = []; more_is = sym (append-nil released); answer = Fault; event = happens.event; flashes = (still keeper mid, is) });
      told = λ s. told_by keeper old mid b (tick_entries b.list (moment_at b.list now) ++ asked_adds) released Fault response is (told_longer true happens.stands happens.told s);
    })

    refused_turn : (size count : ℕ) → Happens keeper old mid b released Ticked now Full (TickStep (numbers keeper old mid) b now released (tick.Ticked.Full size count)) → response ≡ notice_response notice.Full → AskTurn keeper old mid b released (ask.Package caller number described) now response
    refused_turn size count happens is = as_packaged (record {
      stands = happens.stands;
      came = full size count is (subst (λ (l : ℕ). Refused (numbers keeper old mid) l (tick_entries b.list (moment_at b.list now) ++ asked_adds) released size count) (sym limit_is) (refused_longer (numbers keeper old mid) LIMIT (tick_entries b.list (moment_at b.list now)) asked_adds released size count happens.step));
      events = inr (record { mid = mid; released = released; added = []; more_is = sym (append-nil released); answer = Full; event = happens.event; flashes = (still keeper mid, is) });
      told = λ s. told_by keeper old mid b (tick_entries b.list (moment_at b.list now) ++ asked_adds) released Full response is (told_longer false happens.stands happens.told s);
    })

  -- ---- all of it

  abbrev TurnedTo : Room K → Room K → Type 0
  TurnedTo old new = Turned keeper old new (ask.Package caller number described) now response

  module _ (old mid new : Room K) (released : List Entry) where
    abbrev TickHappens : tick.Ticked → Type 0
    TickHappens t = (b : Book) → Stands keeper old b → Happens keeper old mid b released Ticked now (said_tick t) (TickStep (numbers keeper old mid) b now released t)

    left_so : new ≡ mid → TurnedTo old mid → TurnedTo old new
    left_so same turned = subst (λ (r : Room K). TurnedTo old r) (sym same) turned

    by_flash : (t : tick.Ticked) → is_passed t ≡ true → TickHappens t → (handled : Handled) → IsFlashed keeper mid new now caller number p handled → IsPackaged (packaged_by handled) response → TurnedTo old new
    by_flash t passed ticks handled flashed told = (
      released ++ flashed.more,
      λ b stands.
          let d : Book = onto released b in
          let there : Stands keeper mid d = (ticks b stands).stands in
          flash_turn old mid new b released flashed.more t passed (ticks b stands) handled (flashed.some d there) (flashed.happens d there) told,
    )

    by_step : (t : tick.Ticked) → is_passed t ≡ true → TickHappens t → (answer : Packaged) → FlashStep keeper mid new now caller number p answer → IsPackaged answer response → TurnedTo old new
    by_step t passed ticks (Packaged.Done reply) step told = by_flash t passed ticks step.0 step.2 (subst (λ (a : Packaged). IsPackaged a response) step.1 told)
    by_step t passed ticks (Packaged.Repeat reply) step told = by_flash t passed ticks step.0 step.2 (subst (λ (a : Packaged). IsPackaged a response) step.1 told)
    by_step t passed ticks (Packaged.Denied denial) step told = by_flash t passed ticks step.0 step.2 (subst (λ (a : Packaged). IsPackaged a response) step.1 told)
    by_step t passed ticks (Packaged.NoReaders front) step told = left_so step.same (
      released ++ [],
      λ b stands.
          let there : Stands keeper mid (onto released b) = (ticks b stands).stands in
          no_readers_turn old mid b released t passed (ticks b stands) front (step.none (onto released b) there) (step.front_is (onto released b) there) told,
    )
    by_step t passed ticks Packaged.Fault step told = by_flash t passed ticks step.0 step.2 (subst (λ (a : Packaged). IsPackaged a response) step.1 told)
    by_step t passed ticks (Packaged.Full size count) step told = by_flash t passed ticks step.0 step.2 (subst (λ (a : Packaged). IsPackaged a response) step.1 told)
    by_step t passed ticks Packaged.Memory (inl same) told = left_so same (released ++ [], λ b stands. unasked_turn old mid b released t passed (ticks b stands) told)
    by_step t passed ticks Packaged.Memory (inr flashed) told = by_flash t passed ticks Handled.Memory flashed told

    by_tick : (t : tick.Ticked) → TickHappens t → (answer : Packaged) → BehindTick keeper mid new now caller number p t answer → IsPackaged answer response → TurnedTo old new
    by_tick (tick.Ticked.Kept place) ticks answer step told = by_step (tick.Ticked.Kept place) refl ticks answer step told
    by_tick tick.Ticked.Still ticks answer step told = by_step tick.Ticked.Still refl ticks answer step told
    by_tick tick.Ticked.Fault ticks answer step told = left_so step.1 (released, λ b stands. failed_turn old mid b released (ticks b stands) (subst (λ (a : Packaged). IsPackaged a response) step.0 told))
    by_tick (tick.Ticked.Full size count) ticks answer step told = left_so step.1 (released, λ b stands. refused_turn old mid b released size count (ticks b stands) (subst (λ (a : Packaged). IsPackaged a response) step.0 told))

  -- a package that was published, or not
  pub package_turn : (old new : Room K) (made : Composed) (answer : Packaged) → made ≡ p → IsPublished keeper old new now caller number made answer → IsPackaged answer response → TurnedTo old new
  package_turn old new made answer same published told =
      let x = subst (λ (c : Composed). IsPublished keeper old new now caller number c answer) same published in
      by_tick old x.mid new x.released x.ticked x.tick answer x.rest told

  -- there was no memory for the package
  pub unmade_turn : (room : Room K) → response ≡ notice_response notice.NoMemory → TurnedTo room room
  unmade_turn room none = (
    [],
    λ b stands. still_turn keeper room b (ask_outcome b.store b.list (ask.Package caller number described) (moment_at b.list now)) response (PackageEvents keeper room room b [] caller number p now response) stands
        (unheard keeper room (ask_outcome b.store b.list (ask.Package caller number described) (moment_at b.list now)) response none) (inl (still keeper room)),
  )

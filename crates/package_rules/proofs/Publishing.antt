-- A package is published, or is not.
use Rattle.std.proofs.Common.{◌≡◌, inl, inr, ℕ, ◌+◌, ◌<◌, ◌==◌, Bool, true, false, cond, List, [], ◌∷◌, length, Option, Some, None, Ok, Err, refl, sym, ap, subst, ◌∙◌, arith}
use Rattle.std.proofs.lemmas.Bool.Decides.{nat_tests}
use Rattle.std.specs.Prelude.{Result}
use mathlib.Core.Bool.{true≢false}
use Rattle.news_types.specs.declared.entry.Entry.{Entry}
use Rattle.news_types.specs.declared.entry.Act.{Act}
use Rattle.news_types.specs.declared.entry.Act.TheVariants.{Request}
use Rattle.news_types.specs.declared.entry.Reply.{Reply}
use Rattle.news_types.specs.declared.command.Command.{Command}
use Rattle.news_types.specs.declared.command.Command.TheVariants.{Flash}
use Rattle.news_types.specs.declared.denial.Denial.{Denial}
use Rattle.news_types.specs.declared.story.Story.{Story}
use Rattle.news_types.specs.Names.{Bytes}
use Rattle.news_types.specs.History.{History, moment_at, last}
use Rattle.news_types.specs.Books.{Book, onto}
use Rattle.news_types.specs.Calls as call
use Rattle.news_types.specs.Denial.{turn_denial, command_denial, is_repeat}
use Rattle.news_types.specs.Outcome.{Outcome, Answered, Done, Repeat, Denied, kept_unless, kept, entry_of, request, request_at, last_reply, reply_to}
use Rattle.news_io.specs.Keeper.{KeeperMeaning}
use Rattle.news_room.specs.Beside.{Beside}
use Rattle.news_room.specs.Events.{Happens}
use Rattle.news_room.specs.Said.{said}
use Rattle.news_room.specs.Stands.{Stands, numbers, LIMIT}
use Rattle.news_room.specs.Steps.{RequestStep, Given, entries}
use Rattle.news_room.specs.declared.answers.Handled.{Handled}
use Rattle.news_room.specs.declared.answers.Ticked.{Ticked}
use Rattle.news_room.specs.declared.room.Room.{Room}
use Rattle.package_rules.specs.declared.publish.Packaged.{Packaged}
use Rattle.package_rules.specs.Composed.{Composed}
use Rattle.package_rules.specs.Promise.{next_number}
use Rattle.package_rules.specs.Readers.{readers}
use Rattle.package_rules.specs.Publishing.{packaged_by, passed_by, flash_of, IsFlashed, FlashStep, BehindTick, HasPackage, IfDone}

-- ---- outcomes

-- a request that is done is kept
done_kept : (h : History) (caller : Bytes) (number : ℕ) (command : Command) (m : ℕ) (reply : Reply) → (request_at h caller number command m).answer ≡ Done reply → request_at h caller number command m ≡ kept h m (Request caller number command)
done_kept h caller number command m reply is = by (turn_denial (last h caller) number command) (is_repeat (last h caller) number command) (command_denial h caller command m) is
  where
    done : Outcome Answered
    done = kept h m (Request caller number command)

    repeated : Outcome Answered
    repeated = record { answer = Repeat (last_reply h caller); more = None }

    by : (o : Option Denial) (b : Bool) (p : Option Denial) → (kept_unless o (cond b repeated (kept_unless p done))).answer ≡ Done reply → kept_unless o (cond b repeated (kept_unless p done)) ≡ done
    by (Some denial) b p is = absurd (cc (is))
    by None true p is = absurd (cc (is))
    by None false (Some denial) is = absurd (cc (is))
    by None false None is = refl

reply_of : (a b : Reply) → Done a ≡ Done b → a ≡ b
reply_of a b same = cc

some_there : {A : Type 0} (xs : List A) → (xs ≡ [] → ⊥) → 0 < length xs
some_there [] some = absurd (some refl)
some_there (x ∷ xs) some = omega arith

pub not_empty : {A : Type 0} (xs : List A) (b : Bool) → b ≡ (length xs == 0) → b ≡ false → xs ≡ [] → ⊥
not_empty xs b is fails none = true≢false (sym (is ∙ ap (λ l. length l == 0) none) ∙ fails)

pub is_nothing : {A : Type 0} (xs : List A) (b : Bool) → b ≡ (length xs == 0) → b ≡ true → xs ≡ []
is_nothing [] b is holds = refl
is_nothing (x ∷ xs) b is holds =
    let some : (length (x ∷ xs) == 0) ≡ false = grind (arith, nat_tests) in
    absurd (true≢false (sym holds ∙ (is ∙ some)))

-- ---- the flash

module _ {K : Type 0} (keeper : KeeperMeaning K) (old new : Room K) (now : ℕ) (caller : Bytes) (number : ℕ) (p : Composed) where
  -- the request was for this story and these targets
  pub flash_happens : (b : Book) (more : List Entry) (handled : Handled) (story : Story) (targets : List Bytes) → story ≡ p.story → targets ≡ readers b.list p.members
      → Happens keeper old new b more (call.Requested caller number (Flash story targets)) now (said handled) (RequestStep (numbers keeper old new) b now caller number (Flash story targets) more handled)
      → Happens keeper old new b more (call.Requested caller number (flash_of p b.list)) now (said handled) (RequestStep (numbers keeper old new) b now caller number (flash_of p b.list) more handled)
  flash_happens b more handled story targets story_is targets_are happens =
      subst (λ (c : Command). Happens keeper old new b more (call.Requested caller number c) now (said handled) (RequestStep (numbers keeper old new) b now caller number c more handled))
      (λ i. Flash (story_is i) (targets_are i)) happens

  pub flash_step : (handled : Handled) → IsFlashed keeper old new now caller number p handled → FlashStep keeper old new now caller number p (packaged_by handled)
  flash_step (Handled.Done reply) flashed = (Handled.Done reply, refl, flashed)
  flash_step (Handled.Repeat reply) flashed = (Handled.Repeat reply, refl, flashed)
  flash_step (Handled.Denied denial) flashed = (Handled.Denied denial, refl, flashed)
  flash_step Handled.Fault flashed = (Handled.Fault, refl, flashed)
  flash_step (Handled.Full size count) flashed = (Handled.Full size count, refl, flashed)
  flash_step Handled.Memory flashed = inr flashed

  -- ---- the tick before it

  pub behind_passed : (ticked : Ticked) (answer : Packaged) → passed_by ticked ≡ Ok tt → FlashStep keeper old new now caller number p answer → BehindTick keeper old new now caller number p ticked answer
  behind_passed (Ticked.Kept place) answer passed step = step
  behind_passed Ticked.Still answer passed step = step
  behind_passed Ticked.Fault answer passed step = absurd (cc (passed))
  behind_passed (Ticked.Full size count) answer passed step = absurd (cc (passed))

  pub behind_stopped : (ticked : Ticked) (answer : Packaged) → passed_by ticked ≡ Err answer → new ≡ old → BehindTick keeper old new now caller number p ticked answer
  behind_stopped (Ticked.Kept place) answer stopped same = absurd (cc (stopped))
  behind_stopped Ticked.Still answer stopped same = absurd (cc (stopped))
  behind_stopped Ticked.Fault answer stopped same = (cc (stopped), same)
  behind_stopped (Ticked.Full size count) answer stopped same = (cc (stopped), same)

abbrev fails : Packaged → Result (Unit {0}) Packaged
fails answer = Err answer

err_of : (a b : Packaged) → fails a ≡ fails b → a ≡ b
err_of a b same = cc

pub none_done : {K : Type 0} (keeper : KeeperMeaning K) (old new : Room K) (p : Composed) (ticked : Ticked) (answer : Packaged) → passed_by ticked ≡ Err answer → IfDone keeper old new p answer
none_done keeper old new p (Ticked.Kept place) answer stopped = absurd (cc (stopped))
none_done keeper old new p Ticked.Still answer stopped = absurd (cc (stopped))
none_done keeper old new p Ticked.Fault answer stopped = subst (IfDone keeper old new p) (err_of Packaged.Fault answer stopped) tt
none_done keeper old new p (Ticked.Full size count) answer stopped = subst (IfDone keeper old new p) (err_of (Packaged.Full size count) answer stopped) tt

-- ---- where it is done

module _ {K : Type 0} (keeper : KeeperMeaning K) (old mid new : Room K) (now : ℕ) (caller : Bytes) (number : ℕ) (p : Composed) (released : List Entry) (ticks : (b : Book) → Stands keeper old b → Stands keeper mid (onto released b)) where
  has_package : (reply : Reply) → IsFlashed keeper mid new now caller number p (Handled.Done reply) → (b : Book) → Stands keeper old b → HasPackage keeper old new p b reply.publication
  has_package reply flashed b stands =
      let d : Book = onto released b in
      let g : History = d.list in
      let m : ℕ = moment_at g now in
      let act : Act = Request caller number (flash_of p g) in
      let happens = flashed.happens d (ticks b stands) in
      let is_kept = done_kept g caller number (flash_of p g) m reply happens.step.0 in
      let more_is : flashed.more ≡ entry_of m act ∷ [] = happens.step.1.whole.is ∙ ap (λ (o : Outcome Answered). entries o.more) is_kept in
      let reply_is : reply ≡ reply_to g m act = reply_of reply (reply_to g m act) (sym happens.step.0 ∙ ap (λ (o : Outcome Answered). o.answer) is_kept) in
      record {
        released = released;
        entry = entry_of m act;
        packaging = record { caller = caller; number = number; act = refl; some = some_there (readers g p.members) (flashed.some d (ticks b stands)) };
        stands = subst (λ (l : List Entry). Stands keeper new (onto l d)) more_is happens.stands;
        number_is = ap (λ (r : Reply). r.publication) reply_is;
      }

  done_by : (reply : Reply) (handled : Handled) → Packaged.Done reply ≡ packaged_by handled → IsFlashed keeper mid new now caller number p handled → (b : Book) → Stands keeper old b → HasPackage keeper old new p b reply.publication
  done_by reply (Handled.Done other) is flashed b stands =
      subst (λ (r : Reply). HasPackage keeper old new p b r.publication) (same_reply other reply is) (has_package other flashed b stands)
    where
      same_reply : (a b : Reply) → Packaged.Done b ≡ Packaged.Done a → a ≡ b
      same_reply a b same = cc
  done_by reply (Handled.Repeat other) is flashed b stands = absurd (cc (is))
  done_by reply (Handled.Denied denial) is flashed b stands = absurd (cc (is))
  done_by reply Handled.Fault is flashed b stands = absurd (cc (is))
  done_by reply (Handled.Full size count) is flashed b stands = absurd (cc (is))
  done_by reply Handled.Memory is flashed b stands = absurd (cc (is))

  pub if_done : (answer : Packaged) → FlashStep keeper mid new now caller number p answer → IfDone keeper old new p answer
  if_done (Packaged.Done reply) step = done_by reply step.0 step.1 step.2
  if_done (Packaged.Repeat reply) step = tt
  if_done (Packaged.Denied denial) step = tt
  if_done (Packaged.NoReaders front) step = tt
  if_done Packaged.Fault step = tt
  if_done (Packaged.Full size count) step = tt
  if_done Packaged.Memory step = tt

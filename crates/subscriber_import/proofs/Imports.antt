-- What a table adds to a list, and that it adds nothing once more.
use Rattle.std.proofs.Common.{◌≡◌, ◌==◌, ℕ, ◌+◌, Bool, true, false, cond, Option, Some, None, List, [], ◌∷◌, refl, sym, ap, subst, ◌∙◌, arith}
use Rattle.std.specs.Prelude.{is_some, nat_lt}
use Rattle.std.proofs.lemmas.Bool.Decides.{nat_tests}
use Rattle.news_types.specs.declared.entry.Entry.{Entry}
use Rattle.news_types.specs.declared.entry.Act.TheVariants.{Request}
use Rattle.news_types.specs.declared.command.Command.{Command}
use Rattle.news_types.specs.declared.denial.Denial.{Denial}
use Rattle.news_types.specs.Names.{Bytes}
use Rattle.news_types.specs.History.{History, Asked, last, number_of, last_number, moment_at}
use Rattle.news_types.specs.Products.{subscriber, is_subscriber}
use Rattle.news_types.specs.Books.{followed_by}
use Rattle.news_types.specs.Calls.{more}
use Rattle.news_types.specs.Denial.{turn_denial, is_repeat, command_denial}
use Rattle.news_types.specs.Outcome.{Outcome, Answered, Done, Repeat, Denied, kept_unless, kept, entry_of, request, last_reply}
use Rattle.news_types.proofs.Members.{same_self}
use Rattle.news_types.proofs.Books.{behind_more}
use Rattle.news_types.proofs.Subscribed.{subscriber_stays}
use Rattle.news_room.specs.Steps.{entries}
use Rattle.subscriber_import.specs.declared.line.Line.{Line}
use Rattle.subscriber_import.specs.Fields.{Wanted, wanted_of, command_of}
use Rattle.subscriber_import.specs.Table.{Row}
use Rattle.subscriber_import.specs.Import.{asked, added_by, told_as, line_by, behind, imported, lines, added}
use Rattle.subscriber_import.specs.Laws.{AddedIsImported, IsThen, AddNothing, SecondAddsNothing}

-- ---- the entries, put behind the list

pub behind_one : (o : Option Entry) (h : History) → followed_by (entries o) h ≡ more o h
behind_one None h = refl
behind_one (Some e) h = refl

pub added_is_imported : AddedIsImported
added_is_imported h caller now [] = refl
added_is_imported h caller now (row ∷ rows) =
    let o : Option Entry = added_by h caller now (wanted_of row) in
    sym (behind_more (entries o) (added (behind h caller now row) caller now rows) h)
    ∙ ap (λ (g : History). followed_by (added (behind h caller now row) caller now rows) g) (behind_one o h)
    ∙ added_is_imported (behind h caller now row) caller now rows

-- ---- who is there stays

stays_behind : (o : Option Entry) (h : History) (s : Bytes) → is_subscriber h s ≡ true → is_subscriber (more o h) s ≡ true
stays_behind None h s there = there
stays_behind (Some e) h s there = subscriber_stays e h s there

stays_imported : (h : History) (caller : Bytes) (now : ℕ) (rows : List Row) (s : Bytes) → is_subscriber h s ≡ true → is_subscriber (imported h caller now rows) s ≡ true
stays_imported h caller now [] s there = there
stays_imported h caller now (row ∷ rows) s there =
    stays_imported (behind h caller now row) caller now rows s (stays_behind (added_by h caller now (wanted_of row)) h s there)

-- ---- who was added is there

-- the caller's next number is no repeat's
pub next_is_new : (before : Option Asked) (command : Command) → is_repeat before (number_of before + 1) command ≡ false
next_is_new before command =
    let other : (number_of before + 1 == number_of before) ≡ false = grind (arith, nat_tests) in
    let some : nat_lt 0 (number_of before + 1) ≡ true = grind (arith, nat_tests) in
    rw (some, other) refl

abbrev IsAnswered : Answered → Type 0
IsAnswered (Done reply) = Unit {0}
IsAnswered (Repeat reply) = Unit {0}
IsAnswered (Denied denial) = ⊥

pub then_answered : (a : Answered) → IsThen (told_as a) → IsAnswered a
then_answered (Done reply) is = tt
then_answered (Repeat reply) is = tt
then_answered (Denied denial) is = is

unless_denied : (o : Option Denial) (rest : Outcome Answered) → IsAnswered (kept_unless o rest).answer → kept_unless o rest ≡ rest
unless_denied None rest is = refl
unless_denied (Some denial) rest is = absurd is

-- a request under the next number that is not denied is kept
pub answered_kept : (h : History) (caller : Bytes) (now : ℕ) (command : Command) → IsAnswered (request h caller (last_number h caller + 1) command now).answer
    → request h caller (last_number h caller + 1) command now ≡ kept h (moment_at h now) (Request caller (last_number h caller + 1) command)
answered_kept h caller now command is =
    let number : ℕ = last_number h caller + 1 in
    let m : ℕ = moment_at h now in
    let done : Outcome Answered = kept h m (Request caller number command) in
    let rest : Outcome Answered = kept_unless (command_denial h caller command m) done in
    let repeated : Outcome Answered = record { answer = Repeat (last_reply h caller); more = None } in
    let new : cond (is_repeat (last h caller) number command) repeated rest ≡ rest = ap (λ (b : Bool). cond b repeated rest) (next_is_new (last h caller) command) in
    let all : request h caller number command now ≡ kept_unless (turn_denial (last h caller) number command) rest = ap (kept_unless (turn_denial (last h caller) number command)) new in
    let one = unless_denied (turn_denial (last h caller) number command) rest (subst (λ (o : Outcome Answered). IsAnswered o.answer) all is) in
    let two = unless_denied (command_denial h caller command m) done (subst (λ (o : Outcome Answered). IsAnswered o.answer) (all ∙ one) is) in
    all ∙ one ∙ two

there_then : (h : History) (caller : Bytes) (m number : ℕ) (w : Wanted) → is_subscriber (entry_of m (Request caller number (command_of w)) ∷ h) w.subscriber ≡ true
there_then h caller m number w =
    ap (λ (b : Bool). is_some (cond b (Some (record { format = w.format; active = true; products = w.products; off = []; lag = w.lag })) (subscriber h w.subscriber))) (same_self w.subscriber)

pub there_behind : (h : History) (caller : Bytes) (now : ℕ) (w : Wanted) → IsThen (line_by h caller now (Some w)) → is_subscriber (more (added_by h caller now (Some w)) h) w.subscriber ≡ true
there_behind h caller now w is = by (is_subscriber h w.subscriber) refl is
  where
    by : (b : Bool) → is_subscriber h w.subscriber ≡ b → IsThen (cond b Line.There (told_as (asked h caller now w).answer)) → is_subscriber (more (cond b None (asked h caller now w).more) h) w.subscriber ≡ true
    by true there is = there
    by false new is =
        let kept_is = answered_kept h caller now (command_of w) (then_answered (asked h caller now w).answer is) in
        subst (λ (o : Option Entry). is_subscriber (more o h) w.subscriber ≡ true) (sym (ap (λ (o : Outcome Answered). o.more) kept_is)) (there_then h caller (moment_at h now) (last_number h caller + 1) w)

-- ---- the table once more

known_adds : (g : History) (again : Bytes) (later : ℕ) (w : Wanted) → is_subscriber g w.subscriber ≡ true → added_by g again later (Some w) ≡ None
known_adds g again later w there = ap (λ (b : Bool). cond b None (asked g again later w).more) there

row_again : (h g : History) (caller again : Bytes) (now later : ℕ) (o : Option Wanted) → ((s : Bytes) → is_subscriber (more (added_by h caller now o) h) s ≡ true → is_subscriber g s ≡ true)
    → IsThen (line_by h caller now o) → added_by g again later o ≡ None
row_again h g caller again now later None known is = refl
row_again h g caller again now later (Some w) known is = known_adds g again later w (known w.subscriber (there_behind h caller now w is))

all_again : (h g : History) (caller again : Bytes) (now later : ℕ) (rows : List Row) → ((s : Bytes) → is_subscriber (imported h caller now rows) s ≡ true → is_subscriber g s ≡ true)
    → AddNothing (lines h caller now rows) g again later rows
all_again h g caller again now later [] known = tt
all_again h g caller again now later (row ∷ rows) known = (
  row_again h g caller again now later (wanted_of row) (λ s there. known s (stays_imported (behind h caller now row) caller now rows s there)),
  all_again (behind h caller now row) (behind g again later row) caller again now later rows (λ s there. stays_behind (added_by g again later (wanted_of row)) g s (known s there)),
)

pub second_adds_nothing : SecondAddsNothing
second_adds_nothing h caller again now later rows = all_again h (imported h caller now rows) caller again now later rows (λ s there. there)

-- An entry that follows a call is legal.
use Rattle.std.proofs.Common.{◌≡◌, ◌==◌, ℕ, ◌+◌, ◌<◌, ◌≤◌, Bool, true, false, not, ◌&&◌, ◌||◌, cond, Option, Some, None, List, [], ◌∷◌, length, refl, sym, ap, subst, arith}
use Rattle.std.specs.Prelude.{nat_le, nat_lt, filter_map}
use Rattle.std.specs.List.{cons_option}
use Rattle.std.specs.Option.{option_map}
use Rattle.std.proofs.lemmas.Bool.Decides.{nat_tests, Decides-eqb}
use Rattle.news_types.specs.declared.entry.Entry.{Entry}
use Rattle.news_types.specs.declared.entry.Act.{Act}
use Rattle.news_types.specs.declared.entry.Act.TheVariants.{Advance, Attempt, Receipt, Halt, Ingest, Request}
use Rattle.news_types.specs.declared.command.Command.{Command}
use Rattle.news_types.specs.declared.denial.Denial.{Denial}
use Rattle.news_types.specs.declared.denial.Denial.TheVariants.{OutOfTurn, NumberUsed, UnknownThing}
use Rattle.news_types.specs.declared.words.Thing.TheVariants as thing
use Rattle.news_types.specs.declared.story.Incoming.{Incoming}
use Rattle.news_types.specs.declared.query.Ready.{Ready}
use Rattle.news_types.specs.declared.query.Ready.TheVariants.{Now, Later}
use Rattle.news_types.specs.Names.{Bytes}
use Rattle.news_types.specs.Members.{Each}
use Rattle.news_types.specs.History.{History, moment, moment_at, Asked as LastAsked, last, number_of}
use Rattle.news_types.specs.Products.{is_subscriber}
use Rattle.news_types.specs.Items.{Effect, New, NewAt, Replaces, Cancels, Settled}
use Rattle.news_types.specs.Publications.{effect}
use Rattle.news_types.specs.Feeds.{feed}
use Rattle.news_types.specs.Delivery.{acked, ready_at, is_ready, Candidate, candidate, comes_first, earlier, earliest, ready_candidate, chosen, choice}
use Rattle.news_types.specs.Denial.{unless, is_last_command, turn_denial, is_repeat, command_denial, ingest_denial, receipt_denial}
use Rattle.news_types.specs.Legal.{IsLegal, Follows, some_waits, keeps_entry}
use Rattle.news_types.specs.Outcome.{Answered as Replies, Outcome, entry_of, kept, kept_unless, ingested}
use Rattle.news_types.specs.Calls.{Call, Requested, Ingested, Receipted, Ticked, Halted, Asked, Claimed, entry_if, attempt_of, follow}
use Rattle.news_types.proofs.Members.{some_is, none_some}
use Rattle.news_types.proofs.Legal.{first_no, second_no, holds_unless}

legal_more : (h : History) (m : ℕ) (act : Act) → IsLegal h → moment h ≤ m → Follows h act m → IsLegal (entry_of m act ∷ h)
legal_more h m act legal le follows = (legal, le, follows)

is_entry : (h : History) (new e : Entry) → Some new ≡ Some e → IsLegal (new ∷ h) → IsLegal (e ∷ h)
is_entry h new e is legal = subst (λ (x : Entry). IsLegal (x ∷ h)) (some_is new e is) legal

if_entry : (h : History) (b : Bool) (m : ℕ) (act : Act) (e : Entry) → (b ≡ true → IsLegal (entry_of m act ∷ h)) → entry_if b m act ≡ Some e → IsLegal (e ∷ h)
if_entry h true m act e legal is = is_entry h _ e is (legal refl)
if_entry h false m act e legal is = absurd (none_some e is)

-- the entry of an outcome is legal
abbrev IsLegalMore : History → Outcome Replies → Type 0
IsLegalMore h o = (e : Entry) → o.more ≡ Some e → IsLegal (e ∷ h)

more_unless : (h : History) (d : Option Denial) (o : Outcome Replies) → (d ≡ None → IsLegalMore h o) → IsLegalMore h (kept_unless d o)
more_unless h None o legal = legal refl
more_unless h (Some d) o legal = λ e is. absurd (none_some e is)

more_if : (h : History) (b : Bool) (o p : Outcome Replies) → (b ≡ true → IsLegalMore h o) → (b ≡ false → IsLegalMore h p) → IsLegalMore h (cond b o p)
more_if h true o p one two = one refl
more_if h false o p one two = two refl

more_kept : (h : History) (m : ℕ) (act : Act) → IsLegal (entry_of m act ∷ h) → IsLegalMore h (kept h m act)
more_kept h m act legal e is = is_entry h _ e is legal

more_ingested : (h : History) (name : Bytes) (come : Incoming) (m : ℕ) (eff : Effect) → (keeps_entry eff ≡ true → IsLegal (entry_of m (Ingest name come) ∷ h)) → IsLegalMore h (ingested h name come m eff)
more_ingested h name come m (Settled i) legal = λ e is. absurd (none_some e is)
more_ingested h name come m New legal = more_kept h m (Ingest name come) (legal refl)
more_ingested h name come m (NewAt place published) legal = more_kept h m (Ingest name come) (legal refl)
more_ingested h name come m (Replaces i) legal = more_kept h m (Ingest name come) (legal refl)
more_ingested h name come m (Cancels i) legal = more_kept h m (Ingest name come) (legal refl)

-- ---- the turn of a request

no_false : true ≡ false → ⊥
no_false e = cc

one_of_three : (a b c l : Bool) → (a && (b || c)) ≡ true → (not b || l) ≡ true → (a && b && l) ≡ false → c ≡ true
one_of_three true true c true one two three = absurd (no_false three)
one_of_three true true c false one two three = absurd (no_false (sym two))
one_of_three true false c l one two three = one
one_of_three false b c l one two three = absurd (no_false (sym one))

next_turn : (before : Option LastAsked) (number : ℕ) (command : Command) → turn_denial before number command ≡ None → is_repeat before number command ≡ false → number ≡ number_of before + 1
next_turn before number command none once =
    (Decides-eqb number (number_of before + 1)).0
    (one_of_three (nat_lt 0 number) (number == number_of before) (number == number_of before + 1) (is_last_command before command)
    (holds_unless _ (OutOfTurn (number_of before + 1)) (first_no _ _ none))
    (holds_unless _ (NumberUsed (number_of before)) (second_no (unless (nat_lt 0 number && (number == number_of before || number == number_of before + 1)) (OutOfTurn (number_of before + 1))) _ none))
    once)

request_follows : (h : History) (caller : Bytes) (number : ℕ) (command : Command) (m : ℕ) → turn_denial (last h caller) number command ≡ None → is_repeat (last h caller) number command ≡ false → command_denial h caller command m ≡ None → Follows h (Request caller number command) m
request_follows h caller number command m turn once none = (next_turn (last h caller) number command turn once, rw (turn, none) refl)

-- ---- the choice

abbrev IsReady : History → ℕ → Candidate → Type 0
IsReady h m c = is_ready h c.name m ≡ true

ready_map : (h : History) (m : ℕ) (s : Bytes) (o : Option ℕ) (c : Candidate) → is_ready h s m ≡ true → option_map (candidate s) o ≡ Some c → IsReady h m c
ready_map h m s None c ready is = absurd (none_some c is)
ready_map h m s (Some at) c ready is = subst (IsReady h m) (some_is (candidate s at) c is) ready

ready_one : (h : History) (m : ℕ) (s : Bytes) (c : Candidate) → ready_candidate h m s ≡ Some c → IsReady h m c
ready_one h m s c =
    elim (is_ready h s m) as (λ b. is_ready h s m ≡ b → cond b (option_map (candidate s) (ready_at h s)) None ≡ Some c → IsReady h m c) [
      | true ↦ λ ready is. ready_map h m s (ready_at h s) c ready is
      | false ↦ λ other is. absurd (none_some c is)
    ] refl

pub each_cons : (P : Candidate → Type 0) (o : Option Candidate) (cs : List Candidate) → ((c : Candidate) → o ≡ Some c → P c) → Each P cs → Each P (cons_option o cs)
each_cons P None cs one all = all
each_cons P (Some c) cs one all = (one c refl, all)

all_ready : (h : History) (m : ℕ) (names : List Bytes) → Each (IsReady h m) (filter_map (ready_candidate h m) names)
all_ready h m [] = tt
all_ready h m (s ∷ names) = each_cons (IsReady h m) (ready_candidate h m s) (filter_map (ready_candidate h m) names) (ready_one h m s) (all_ready h m names)

earlier_one : (P : Candidate → Type 0) (a : Candidate) (o : Option Candidate) → P a → ((c : Candidate) → o ≡ Some c → P c) → P (earlier a o)
earlier_one P a None new old = new
earlier_one P a (Some b) new old = elim (comes_first a b) as (λ t. P (cond t a b)) [ true ↦ new | false ↦ old b refl ]

pub earliest_one : (P : Candidate → Type 0) (cs : List Candidate) → Each P cs → (c : Candidate) → earliest cs ≡ Some c → P c
earliest_one P [] all c is = absurd (none_some c is)
earliest_one P (a ∷ cs) all c is = subst P (some_is _ c is) (earlier_one P a (earliest cs) all.0 (earliest_one P cs all.1))

-- what is chosen is ready, and the next entry of its feed
abbrev pub FitsReady : History → ℕ → Ready → Type 0
FitsReady h m (Now s k) = (is_ready h s m ≡ true) × (k ≡ acked h s + 1)
FitsReady h m (Later next) = Unit {0}

chosen_ready : (h : History) (m : ℕ) (names : List Bytes) (o : Option Candidate) → ((c : Candidate) → o ≡ Some c → IsReady h m c) → FitsReady h m (chosen h o names)
chosen_ready h m names None ready = tt
chosen_ready h m names (Some c) ready = (ready c refl, refl)

pub choice_ready : (h : History) (names : List Bytes) (m : ℕ) → FitsReady h m (choice h names m)
choice_ready h names m = chosen_ready h m names (earliest (filter_map (ready_candidate h m) names)) (earliest_one (IsReady h m) _ (all_ready h m names))

attempt_legal : (h : History) (m : ℕ) (r : Ready) (e : Entry) → FitsReady h m r → IsLegal h → moment h ≤ m → attempt_of m r ≡ Some e → IsLegal (e ∷ h)
attempt_legal h m (Later next) e ready legal le is = absurd (none_some e is)
attempt_legal h m (Now s k) e ready legal le is = is_entry h _ e is (legal_more h m (Attempt s k) legal le ready)

above : (a n : ℕ) → nat_lt a n ≡ true → a < n
above a n t = grind (arith, nat_tests)

at_most : (a n : ℕ) → nat_le a n ≡ true → a ≤ n
at_most a n t = grind (arith, nat_tests)

-- ---- every call

pub follow_legal : (h : History) (call : Call) (m : ℕ) (e : Entry) → IsLegal h → moment h ≤ m → follow h call m ≡ Some e → IsLegal (e ∷ h)
follow_legal h (Requested caller number command) m e legal le is =
    more_unless h (turn_denial (last h caller) number command) _
    (λ turn. more_if h (is_repeat (last h caller) number command) _ _ (λ again e is. absurd (none_some e is))
    (λ once. more_unless h (command_denial h caller command m) _
    (λ none. more_kept h m (Request caller number command) (legal_more h m (Request caller number command) legal le (request_follows h caller number command m turn once none))))) e is
follow_legal h (Ingested name come) m e legal le is =
    more_unless h (ingest_denial h name come m) _
    (λ none. more_ingested h name come m (effect h name come m) (λ kept. legal_more h m (Ingest name come) legal le (kept, none))) e is
follow_legal h (Receipted s n) m e legal le is =
    more_unless h (receipt_denial h s n) _
    (λ none. more_if h (nat_lt (acked h s) n) _ _
    (λ raises. more_kept h m (Receipt s n) (legal_more h m (Receipt s n) legal le
    (above (acked h s) n raises, at_most n (length (feed h s)) (holds_unless _ _ (second_no (unless (is_subscriber h s) (UnknownThing thing.Subscriber)) _ none)))))
    (λ low e is. absurd (none_some e is))) e is
follow_legal h Ticked m e legal le is = if_entry h (some_waits h m) m Advance e (λ waits. legal_more h m Advance legal le waits) is
follow_legal h Halted m e legal le is = is_entry h _ e is (legal_more h m Halt legal le tt)
follow_legal h (Asked query) m e legal le is = absurd (none_some e is)
follow_legal h (Claimed names) m e legal le is = attempt_legal h m (choice h names m) e (choice_ready h names m) legal le is

pub moment_grows : (h : History) (reading : ℕ) → moment h ≤ moment_at h reading
moment_grows h reading = omega arith

pub tick_moment : (b : Bool) (m : ℕ) (e : Entry) → entry_if b m Advance ≡ Some e → e.moment ≡ m
tick_moment true m e is = sym (ap (λ (x : Entry). x.moment) (some_is _ e is))
tick_moment false m e is = absurd (none_some e is)

-- The outcome of a request, by what is asked of it in turn.
use Rattle.std.proofs.Common.{◌≡◌, ◌≤◌, ℕ, Bool, true, false, not, ◌&&◌, ◌||◌, ◌==◌, cond, Option, Some, None, ◌∷◌, ◌+◌, sym, ap, ◌∙◌}
use Rattle.std.specs.Prelude.{nat_lt}
use Rattle.std.proofs.lemmas.Bool.{eqb-true}
use mathlib.Core.Bool.{true≢false}
use Rattle.news_types.specs.declared.denial.Denial.TheVariants.{OutOfTurn, NumberUsed}
use Rattle.news_types.specs.declared.entry.Act.TheVariants.{Request}
use Rattle.news_types.specs.declared.entry.Reply.{Reply}
use Rattle.news_types.specs.declared.command.Command.{Command}
use Rattle.news_types.specs.declared.denial.Denial.{Denial}
use Rattle.news_types.specs.Names.{Bytes}
use Rattle.news_types.specs.History.{History, Asked, moment, last, number_of}
use Rattle.news_types.specs.Denial.{or_else, unless, turn_denial, is_repeat, is_last_command, command_denial}
use Rattle.news_types.specs.Legal.{IsLegal}
use Rattle.news_types.specs.Outcome.{Outcome, Answered, Repeat, last_reply, refused, kept, kept_unless, request_at}
use Rattle.news_types.proofs.Legal.{first_no, second_no, holds_unless}

refused_first : (turn : Option Denial) (why : Denial) (rest : Outcome Answered) → turn ≡ Some why → kept_unless turn rest ≡ refused why
refused_first turn why rest is = ap (λ (o : Option Denial). kept_unless o rest) is

-- a request that is out of turn
pub turned : (h : History) (caller : Bytes) (number : ℕ) (command : Command) (m : ℕ) (why : Denial) → turn_denial (last h caller) number command ≡ Some why → request_at h caller number command m ≡ refused why
turned h caller number command m why is = refused_first (turn_denial (last h caller) number command) why _ is

again : (turn : Option Denial) (repeat : Bool) (one other : Outcome Answered) → turn ≡ None → repeat ≡ true → kept_unless turn (cond repeat one other) ≡ one
again turn repeat one other free is = ap (λ (o : Option Denial). kept_unless o (cond repeat one other)) free ∙ ap (λ (b : Bool). cond b one other) is

-- a request that is the last one once more
pub repeated : (h : History) (caller : Bytes) (number : ℕ) (command : Command) (m : ℕ) (reply : Reply) → turn_denial (last h caller) number command ≡ None → is_repeat (last h caller) number command ≡ true
    → last_reply h caller ≡ reply → request_at h caller number command m ≡ record { answer = Repeat reply; more = None }
repeated h caller number command m reply free is replied =
    again (turn_denial (last h caller) number command) (is_repeat (last h caller) number command) _ _ free is ∙ ap (λ (r : Reply). record { answer = Repeat r; more = None }) replied

new : (turn : Option Denial) (repeat : Bool) (one other : Outcome Answered) → turn ≡ None → repeat ≡ false → kept_unless turn (cond repeat one other) ≡ other
new turn repeat one other free is = ap (λ (o : Option Denial). kept_unless o (cond repeat one other)) free ∙ ap (λ (b : Bool). cond b one other) is

-- a request whose command is denied
pub denied : (h : History) (caller : Bytes) (number : ℕ) (command : Command) (m : ℕ) (why : Denial) → turn_denial (last h caller) number command ≡ None → is_repeat (last h caller) number command ≡ false
    → command_denial h caller command m ≡ Some why → request_at h caller number command m ≡ refused why
denied h caller number command m why free other is =
    new (turn_denial (last h caller) number command) (is_repeat (last h caller) number command) _ _ free other ∙ refused_first (command_denial h caller command m) why _ is

-- a request that is accepted
pub accepted : (h : History) (caller : Bytes) (number : ℕ) (command : Command) (m : ℕ) → turn_denial (last h caller) number command ≡ None → is_repeat (last h caller) number command ≡ false
    → command_denial h caller command m ≡ None → request_at h caller number command m ≡ kept h m (Request caller number command)
accepted h caller number command m free other undenied =
    new (turn_denial (last h caller) number command) (is_repeat (last h caller) number command) _ _ free other
    ∙ ap (λ (o : Option Denial). kept_unless o (kept h m (Request caller number command))) undenied

pick : (a b c l : Bool) → (a && (b || c)) ≡ true → (not b || l) ≡ true → (a && b && l) ≡ false → c ≡ true
pick true true c true one two three = absurd (true≢false three)
pick true true c false one two three = absurd (true≢false (sym two))
pick true false c l one two three = one
pick false b c l one two three = absurd (true≢false (sym one))

-- the number of a request that is neither denied for it nor a repeat
pub next_number : (before : Option Asked) (number : ℕ) (command : Command) → turn_denial before number command ≡ None → is_repeat before number command ≡ false → number ≡ number_of before + 1
next_number before number command free other =
    let n : ℕ = number_of before in
    let one = holds_unless (nat_lt 0 number && (number == n || number == n + 1)) (OutOfTurn (n + 1)) (first_no _ _ free) in
    let two = holds_unless (not (number == n) || is_last_command before command) (NumberUsed n) (second_no (unless (nat_lt 0 number && (number == n || number == n + 1)) (OutOfTurn (n + 1))) _ free) in
    eqb-true number (n + 1) (pick (nat_lt 0 number) (number == n) (number == n + 1) (is_last_command before command) one two other)

undenied_by : (turn why : Option Denial) → turn ≡ None → why ≡ None → or_else turn why ≡ None
undenied_by turn why free none = ap (λ (o : Option Denial). or_else o why) free ∙ none

-- its entry may follow the list
pub legal_next : (h : History) (caller : Bytes) (number : ℕ) (command : Command) (m : ℕ) → IsLegal h → moment h ≤ m → turn_denial (last h caller) number command ≡ None
    → is_repeat (last h caller) number command ≡ false → command_denial h caller command m ≡ None → IsLegal (record { moment = m; act = Request caller number command } ∷ h)
legal_next h caller number command m legal later free other undenied =
    (legal, later, (next_number (last h caller) number command free other, undenied_by (turn_denial (last h caller) number command) (command_denial h caller command m) free undenied))

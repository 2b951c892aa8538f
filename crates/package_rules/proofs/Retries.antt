-- A package's request once more.
use Rattle.std.proofs.Common.{◌≡◌, ◌==◌, ℕ, ◌+◌, ◌<◌, Bool, true, false, not, ◌&&◌, ◌||◌, cond, Option, Some, None, List, refl, sym, ap, ◌∙◌, arith}
use Rattle.std.specs.Prelude.{nat_lt}
use Rattle.std.proofs.lemmas.Bool.Decides.{nat_tests}
use mathlib.Core.Bool.{true≢false}
use Rattle.news_types.specs.declared.command.Command.{Command}
use Rattle.news_types.specs.declared.command.Command.TheVariants.{Flash}
use Rattle.news_types.specs.declared.denial.Denial.{Denial}
use Rattle.news_types.specs.declared.denial.Denial.TheVariants.{OutOfTurn, NumberUsed}
use Rattle.news_types.specs.declared.entry.Act.TheVariants.{Request}
use Rattle.news_types.specs.declared.story.Story.{Story}
use Rattle.news_types.specs.Names.{Bytes}
use Rattle.news_types.specs.History.{History, Asked, last, moment_at}
use Rattle.news_types.specs.Denial.{unless, or_else, same_command, turn_denial, is_repeat, command_denial}
use Rattle.news_types.specs.Outcome.{Outcome, Answered, Repeat, Denied, kept_unless, kept, request, last_reply}
use Rattle.news_types.proofs.Equality.{equality_is_of_fields}
use Rattle.package_rules.specs.Promise.{WasLast, IsNotTwice, OlderAreOutOfTurn, RetriesAreNotTwice}

-- the outcome of a request whose caller's last one is this
abbrev behind : History → Bytes → ℕ → Command → ℕ → Option Asked → Outcome Answered
behind h caller number command m before =
    kept_unless (turn_denial before number command)
    (cond (is_repeat before number command) (record { answer = Repeat (last_reply h caller); more = None })
    (kept_unless (command_denial h caller command m) (kept h m (Request caller number command))))

-- the same, where the command is that of the last one or is not
abbrev decided : History → Bytes → ℕ → Command → ℕ → (some here next alike : Bool) → Outcome Answered
decided h caller number command m some here next alike =
    kept_unless (or_else (unless (some && (here || next)) (OutOfTurn (number + 1))) (unless (not here || alike) (NumberUsed number)))
    (cond (some && here && alike) (record { answer = Repeat (last_reply h caller); more = None })
    (kept_unless (command_denial h caller command m) (kept h m (Request caller number command))))

module _ (h : History) (caller : Bytes) (number : ℕ) (last_command : Command) (some : 0 < number) (was : last h caller ≡ Some (record { number = number; command = last_command })) (now : ℕ) where
  asked_again : (command : Command) (alike : Bool) → same_command last_command command ≡ alike → request h caller number command now ≡ decided h caller number command (moment_at h now) true true (number == number + 1) alike
  asked_again command alike same =
      let positive : nat_lt 0 number ≡ true = grind (arith, nat_tests, some) in
      let itself : (number == number) ≡ true = grind (arith, nat_tests) in
      ap (behind h caller number command (moment_at h now)) was
      ∙ ap (λ (t : Bool × Bool × Bool). decided h caller number command (moment_at h now) t.0 t.1 (number == number + 1) t.2) (λ i. (positive i, itself i, same i))

targets_are : (story : Story) (one other : List Bytes) → Flash story one ≡ Flash story other → other ≡ one
targets_are story one other same = cc (same)

pub not_twice : RetriesAreNotTwice
not_twice h caller number story targets now some was = record {
  same = asked_again h caller number (Flash story targets) some was now (Flash story targets) true (equality_is_of_fields.commands.itself (Flash story targets));
  other = λ others differ. asked_again h caller number (Flash story targets) some was now (Flash story others) false (unequal others differ);
}
  where
    unequal : (others : List Bytes) → (others ≡ targets → ⊥) → same_command (Flash story targets) (Flash story others) ≡ false
    unequal others differ = by (same_command (Flash story targets) (Flash story others)) refl
      where
        by : (b : Bool) → same_command (Flash story targets) (Flash story others) ≡ b → b ≡ false
        by false is = refl
        by true is = absurd (differ (targets_are story targets others (equality_is_of_fields.commands.is (Flash story targets) (Flash story others) is)))

-- ---- an older one

-- the outcome of request n, where the caller's last one has another number
abbrev decided_at : History → Bytes → ℕ → ℕ → Command → ℕ → (some here next alike : Bool) → Outcome Answered
decided_at h caller n number command m some here next alike =
    kept_unless (or_else (unless (some && (here || next)) (OutOfTurn (number + 1))) (unless (not here || alike) (NumberUsed number)))
    (cond (some && here && alike) (record { answer = Repeat (last_reply h caller); more = None })
    (kept_unless (command_denial h caller command m) (kept h m (Request caller n command))))

module _ (h : History) (caller : Bytes) (number n : ℕ) (command : Command) (m : ℕ) (alike : Bool) where
  denied : (some : Bool) → decided_at h caller n number command m some false false alike ≡ record { answer = Denied (OutOfTurn (number + 1)); more = None }
  denied true = refl
  denied false = refl

pub out_of_turn : OlderAreOutOfTurn
out_of_turn h caller number n newest command now was below =
    let here : (n == number) ≡ false = grind (arith, nat_tests, below) in
    let next : (n == number + 1) ≡ false = grind (arith, nat_tests, below) in
    let m : ℕ = moment_at h now in
    let alike : Bool = same_command newest command in
    ap (behind h caller n command m) was
    ∙ ap (λ (t : Bool × Bool). decided_at h caller n number command m (nat_lt 0 n) t.0 t.1 alike) (λ i. (here i, next i))
    ∙ denied h caller number n command m alike (nat_lt 0 n)

-- What a request that is not denied tells of the tables.
use Rattle.std.proofs.Common.{◌≡◌, ℕ, Bool, true, false, None, refl, sym, ◌∙◌}
use Rattle.news_types.specs.declared.command.Command.{Command}
use Rattle.news_types.specs.declared.command.Command.TheVariants as command
use Rattle.news_types.specs.declared.denial.Denial.TheVariants.{UnknownThing}
use Rattle.news_types.specs.declared.words.Thing.TheVariants as thing
use Rattle.news_types.specs.Names.{Bytes}
use Rattle.news_types.specs.History.{History, last}
use Rattle.news_types.specs.Products.{is_subscriber}
use Rattle.news_types.specs.Denial.{absent, first_missing, turn_denial, command_denial, operand_denial, denial, reasons}
use Rattle.news_types.proofs.Members.{none_some}
use Rattle.news_types.proofs.Legal.{second_no, NoneOf, none_of}
use Rattle.news_types.proofs.Subscribed.{listed_is, not_taken}
use Rattle.rule_tables.specs.Asked.{IsAllowed}
use Rattle.story_tables.specs.Parts.{Allows}

pub operands : (h : History) (caller : Bytes) (given : Command) (m : ℕ) → command_denial h caller given m ≡ None → operand_denial given ≡ None
operands h caller given m none = (none_of (reasons h caller given m) none).1.1.1.1.1.1.1.1.1.0

module _ (h : History) (caller : Bytes) (number : ℕ) (given : Command) (m : ℕ) (undenied : denial h caller number given m ≡ None) where
  rows : NoneOf (reasons h caller given m)
  rows = none_of (reasons h caller given m) (second_no (turn_denial (last h caller) number given) (command_denial h caller given m) undenied)

  pub allowed : IsAllowed h given
  allowed = record {
    named = rows.1.1.0;
    new = rows.1.1.1.0;
    order = rows.1.1.1.1.1.1.1.1.0;
    operand = rows.1.1.1.1.1.1.1.1.1.0;
    limit = rows.1.1.1.1.1.1.1.1.1.1.0;
  }

there : (b : Bool) → first_missing (absent b thing.Subscriber) ≡ None → b ≡ true
there true is = refl
there false is = absurd (none_some (UnknownThing thing.Subscriber) (sym is))

pub allows : (h : History) (caller : Bytes) (number : ℕ) (given : Command) (m : ℕ) → denial h caller number given m ≡ None → Allows given h
allows h caller number (command.AddSubscriber subscriber format products lag) m undenied = listed_is h subscriber ∙ not_taken h caller number (command.AddSubscriber subscriber format products lag) m undenied
allows h caller number (command.Resume subscriber) m undenied = listed_is h subscriber ∙ there (is_subscriber h subscriber) (allowed h caller number (command.Resume subscriber) m undenied).named
allows h caller number _ m undenied = tt

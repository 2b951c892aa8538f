-- That what is asked lies within the limits has one proof, and so a value may keep it.
use Rattle.std.specs.Prelude.{ℕ, ◌≤◌, true, List, length, All, IfOk, Option, Some, None, Result, Ok, Err}
use Rattle.std.specs.Coded.{×_prop, Unit-prop, le_prop}
use Rattle.std.proofs.Math.Bool.{Bool-set}
use Rattle.news_types.specs.declared.story.Story.{Story}
use Rattle.news_types.specs.declared.story.Incoming.{Incoming}
use Rattle.news_types.specs.declared.rules.Statement.{Statement}
use Rattle.news_types.specs.declared.rules.Rule.{Rule}
use Rattle.news_types.specs.declared.command.Command.{Command}
use Rattle.news_types.specs.declared.command.Command.TheVariants.{AddUser, SetUser, AddCondition, AddFilter, SetFilter, AddSubscriber, SetSubscriber, AddScheme, Create, Flash, Edit, Publish, Correct, Kill, Recall}
use Rattle.news_types.specs.Fits.{IsMoment, FitsLag, FitsStory, FitsIncoming}
use Rattle.news_types.specs.FitsCommands.{IfGiven, FitsValues, FitsStatement, FitsStatements, FitsRule, FitsScheme, FitsCommand}
use Rattle.package_members.specs.Members.{make_package}
use Rattle.desk_routes.specs.declared.ask.HttpAsk.{HttpAsk}
use Rattle.desk_routes.specs.declared.ask.HttpAsk.TheVariants.{Request, Ingest, Package}
use Rattle.desk_routes.specs.declared.ask.RoomAsk.{RoomAsk}
use Rattle.desk_routes.specs.declared.ask.RoomAsk.TheVariants.{By, Metrics}
use Rattle.desk_routes.specs.declared.ask.Refusal.{Refusal}
use Rattle.desk_routes.specs.Asking.{FitsAsk, FitsRoomAsk}

all_prop : {A : Type 0} (P : A → Type 0) → ((x : A) → IsProp (P x)) → (xs : List A) → IsProp (All P xs)
all_prop P each xs a b = λ i. λ k d h. each _ (a k d h) (b k d h) i

given_prop : {A : Type 0} (P : A → Type 0) → ((x : A) → IsProp (P x)) → (o : Option A) → IsProp (IfGiven P o)
given_prop P each None = Unit-prop
given_prop P each (Some x) = each x

story_prop : (s : Story) → IsProp (FitsStory s)
story_prop s a b = λ i. record {
  urgency = le_prop a.urgency b.urgency i;
  slugline = le_prop a.slugline b.slugline i;
  headline = le_prop a.headline b.headline i;
  byline = le_prop a.byline b.byline i;
  language = le_prop a.language b.language i;
  category = le_prop a.category b.category i;
  body = le_prop a.body b.body i;
  copyright = le_prop a.copyright b.copyright i;
}

incoming_prop : (come : Incoming) → IsProp (FitsIncoming come)
incoming_prop come a b = λ i. record {
  identity = le_prop a.identity b.identity i;
  created = le_prop a.created b.created i;
  embargo = le_prop a.embargo b.embargo i;
  story = story_prop come.story a.story b.story i;
}

values_prop : (values : List (List ℕ)) → IsProp (FitsValues values)
values_prop values a b = λ i. record { few = le_prop a.few b.few i; short = all_prop (λ (v : List ℕ). length v ≤ 500) (λ v. le_prop) values a.short b.short i }

statement_prop : (s : Statement) → IsProp (FitsStatement s)
statement_prop s a b = λ i. record { conditions = le_prop a.conditions b.conditions i; filters = le_prop a.filters b.filters i }

statements_prop : (statements : List Statement) → IsProp (FitsStatements statements)
statements_prop statements a b = λ i. record { few = le_prop a.few b.few i; each = all_prop FitsStatement statement_prop statements a.each b.each i }

rule_prop : (r : Rule) → IsProp (FitsRule r)
rule_prop r a b = λ i. record { days = le_prop a.days b.days i; zone = le_prop a.zone b.zone i }

scheme_prop : (rules : List Rule) → IsProp (FitsScheme rules)
scheme_prop rules a b = λ i. record { few = le_prop a.few b.few i; each = all_prop FitsRule rule_prop rules a.each b.each i }

command_prop : (command : Command) → IsProp (FitsCommand command)
command_prop (AddUser user privileges) = le_prop
command_prop (SetUser user privileges) = le_prop
command_prop (AddCondition condition field op values) = values_prop values
command_prop (AddFilter filter statements) = statements_prop statements
command_prop (SetFilter filter statements) = statements_prop statements
command_prop (AddSubscriber subscriber format products lag) = ×_prop le_prop le_prop
command_prop (SetSubscriber subscriber active products off lag) = λ a b. λ i. (le_prop a.0 b.0 i, le_prop a.1 b.1 i, given_prop FitsLag (λ l. le_prop) lag a.2 b.2 i)
command_prop (AddScheme scheme rules) = scheme_prop rules
command_prop (Create desk told) = story_prop told
command_prop (Flash told targets) = ×_prop (story_prop told) le_prop
command_prop (Edit item session told) = story_prop told
command_prop (Publish item session schedule embargo targets) = λ a b. λ i. (given_prop IsMoment (λ m. le_prop) schedule a.0 b.0 i, given_prop IsMoment (λ m. le_prop) embargo a.1 b.1 i, le_prop a.2 b.2 i)
command_prop (Correct item session told) = story_prop told
command_prop (Kill item session note) = le_prop
command_prop (Recall item session note) = le_prop
command_prop _ = Unit-prop

ask_prop : (ask : HttpAsk) → IsProp (FitsAsk ask)
ask_prop (Request caller number command) = command_prop command
ask_prop (Ingest provider incoming) = incoming_prop incoming
ask_prop (Package caller number described) = ×_prop (story_prop described.story) (Bool-set (make_package described.members) true)
ask_prop _ = Unit-prop

pub fits_prop : (read : Result RoomAsk Refusal) → IsProp (IfOk read FitsRoomAsk)
fits_prop (Ok (By a)) = ask_prop a.ask
fits_prop (Ok Metrics) = Unit-prop
fits_prop (Err refusal) = Unit-prop

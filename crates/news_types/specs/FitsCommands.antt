-- The limits on what a command holds.
use Rattle.std.specs.Prelude.{ℕ, ◌<◌, ◌≤◌, List, length, All, Option, Some, None}
use Rattle.news_types.specs.declared.rules.Statement.{Statement}
use Rattle.news_types.specs.declared.rules.Rule.{Rule}
use Rattle.news_types.specs.declared.command.Command.{Command}
use Rattle.news_types.specs.declared.command.Command.TheVariants.{AddUser, SetUser, AddCondition, AddFilter, SetFilter, AddSubscriber, SetSubscriber, AddScheme, Create, Flash, Edit, Publish, Correct, Kill, Recall}
use Rattle.news_types.specs.Fits.{IsMoment, FitsLag, FitsStory}

-- of a value that is given
abbrev pub IfGiven : {A : Type 0} → (A → Type 0) → Option A → Type 0
IfGiven P None = Unit {0}
IfGiven P (Some x) = P x

-- the values of a condition
pub record FitsValues (values : List (List ℕ)) : Type 0 where
  pub few : length values ≤ 64
  pub short : All (λ v. length v ≤ 500) values

pub record FitsStatement (s : Statement) : Type 0 where
  pub conditions : length s.conditions ≤ 16
  pub filters : length s.filters ≤ 8

-- the statements of a filter
pub record FitsStatements (statements : List Statement) : Type 0 where
  pub few : length statements ≤ 16
  pub each : All FitsStatement statements

-- the bits of the days are Monday to Sunday
pub record FitsRule (r : Rule) : Type 0 where
  pub days : r.days < 128
  pub zone : length r.zone ≤ 64

-- the rules of a scheme
pub record FitsScheme (rules : List Rule) : Type 0 where
  pub few : length rules ≤ 64
  pub each : All FitsRule rules

-- Privileges are ten bits.
abbrev pub FitsCommand : Command → Type 0
FitsCommand (AddUser user privileges) = privileges.bits < 1024
FitsCommand (SetUser user privileges) = privileges.bits < 1024
FitsCommand (AddCondition condition field op values) = FitsValues values
FitsCommand (AddFilter filter statements) = FitsStatements statements
FitsCommand (SetFilter filter statements) = FitsStatements statements
FitsCommand (AddSubscriber subscriber format products lag) = (length products ≤ 64) × FitsLag lag
FitsCommand (SetSubscriber subscriber active products off lag) = (length products ≤ 64) × (length off ≤ 64) × IfGiven FitsLag lag
FitsCommand (AddScheme scheme rules) = FitsScheme rules
FitsCommand (Create desk told) = FitsStory told
FitsCommand (Flash told targets) = FitsStory told × (length targets ≤ 256)
FitsCommand (Edit item session told) = FitsStory told
FitsCommand (Publish item session schedule embargo targets) = IfGiven IsMoment schedule × IfGiven IsMoment embargo × (length targets ≤ 256)
FitsCommand (Correct item session told) = FitsStory told
FitsCommand (Kill item session note) = length note ≤ 524288
FitsCommand (Recall item session note) = length note ≤ 524288
FitsCommand _ = Unit {0}

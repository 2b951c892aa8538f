-- What is asked of the tables, by the list whose facts they keep.
use Rattle.std.specs.Prelude.{◌≡◌, Bool, true, false, not, None}
use Rattle.news_types.specs.declared.command.Command.{Command}
use Rattle.news_types.specs.declared.command.Command.TheVariants.{AddUser, SetUser, AddDesk, AddStage, SetMember}
use Rattle.news_types.specs.declared.denial.Denial.TheVariants.{NameTaken}
use Rattle.news_types.specs.declared.story.Story.{Story}
use Rattle.news_types.specs.History.{History}
use Rattle.news_types.specs.Denial.{unless, first_missing, missing, is_taken, order_denial, operand_denial, limit_denial}
use Rattle.content_filters.specs.declared.verdicts.Verdicts.{Verdicts}
use Rattle.products.specs.Asked.{Judges}
use Rattle.rule_tables.specs.declared.rules.Rules.{Rules}

-- the command is one on users, desks, stages or members
abbrev pub is_desk_command : Command → Bool
is_desk_command (AddUser user privileges) = true
is_desk_command (SetUser user privileges) = true
is_desk_command (AddDesk desk) = true
is_desk_command (AddStage desk stage) = true
is_desk_command (SetMember desk user member) = true
is_desk_command _ = false

-- no reason of these is given
pub record IsAllowed (h : History) (command : Command) : Type 0 where
  pub named : first_missing (missing h command) ≡ None
  pub new : unless (not (is_taken h command)) NameTaken ≡ None
  pub order : order_denial h command ≡ None
  pub operand : operand_denial command ≡ None
  pub limit : limit_denial h command ≡ None

-- the verdicts are what the filters of the tables say of the story
abbrev pub AreJudged : Verdicts → Rules → History → Story → Type 0
AreJudged verdicts r h story = Judges verdicts r.filters h story

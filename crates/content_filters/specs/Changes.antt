-- Changes of the table.
use Rattle.std.specs.Prelude.{◌≡◌, ◌<◌, false, None, vec_len, vec_capacity}
use Rattle.std.specs.HashMap.{get, spare}
use Rattle.news_types.specs.Names.{Bytes, same}
use Rattle.news_types.specs.History.{History}
use Rattle.news_types.specs.declared.command.Command.{Command}
use Rattle.news_types.specs.declared.command.Command.TheVariants as command
use Rattle.content_filters.specs.declared.table.Filters.{Filters}
use Rattle.content_filters.specs.declared.change.Step.{Step}
use Rattle.content_filters.specs.declared.change.Step.TheVariants.{AddCondition, AddFilter, SetStatements, SetBlock, Nothing}
use Rattle.content_filters.specs.declared.change.FilterChange.{FilterChange}
use Rattle.content_filters.specs.Reasons.{is_filter_command, judge_denial}

-- the tables keep the same
pub record IsAlike (t r : Filters) : Type 0 where
  pub conditions : r.conditions.items ≡ t.conditions.items
  pub condition_places : (name : Bytes) → get same r.condition_places name ≡ get same t.condition_places name
  pub filters : r.filters.items ≡ t.filters.items
  pub filter_places : (name : Bytes) → get same r.filter_places name ≡ get same t.filter_places name
  pub blocks : r.blocks.items ≡ t.blocks.items

-- the step is that of the command
abbrev pub IsStep : Step → Command → Type 0
IsStep (AddCondition name kept) given = given ≡ command.AddCondition name kept.field kept.op kept.values
IsStep (AddFilter kept) given = given ≡ command.AddFilter kept.name kept.statements
IsStep (SetStatements filter statements) given = given ≡ command.SetFilter filter statements
IsStep (SetBlock filter on) given = given ≡ command.SetBlock filter on
IsStep Nothing given = is_filter_command given ≡ false

-- the change is that of the command, which the list allows
pub record IsFor (change : FilterChange) (given : Command) (h : History) : Type 0 where
  pub step : IsStep change.step given
  pub allowed : judge_denial h given ≡ None

-- the table has the memory for the step
abbrev pub HasRoomFor : Filters → Step → Type 0
HasRoomFor t (AddCondition name kept) = (vec_len t.conditions < vec_capacity t.conditions) × (0 < spare t.condition_places)
HasRoomFor t (AddFilter kept) = (vec_len t.filters < vec_capacity t.filters) × (0 < spare t.filter_places)
HasRoomFor t (SetStatements filter statements) = Unit {0}
HasRoomFor t (SetBlock filter on) = vec_len t.blocks < vec_capacity t.blocks
HasRoomFor t Nothing = Unit {0}

-- the table has the memory for the change
pub record HasRoom (t : Filters) (change : FilterChange) : Type 0 where
  pub room : HasRoomFor t change.step

-- Why a command on conditions, filters or blocks is denied, by the facts that the table keeps.
use Rattle.std.specs.Prelude.{ℕ, Bool, true, false, not, ◌||◌, is_some, List, [], ◌∷◌, ◌++◌, length, flat_map, Option, None}
use Rattle.news_types.specs.declared.command.Command.{Command}
use Rattle.news_types.specs.declared.command.Command.TheVariants.{AddCondition, AddFilter, SetFilter, SetBlock}
use Rattle.news_types.specs.declared.words.Thing.{Thing}
use Rattle.news_types.specs.declared.words.Thing.TheVariants as thing
use Rattle.news_types.specs.declared.rules.Statement.{Statement}
use Rattle.news_types.specs.declared.denial.Denial.{Denial}
use Rattle.news_types.specs.declared.denial.Denial.TheVariants.{NameTaken, FilterOrder}
use Rattle.news_types.specs.Names.{Bytes, same}
use Rattle.news_types.specs.History.{History}
use Rattle.news_types.specs.Conditions.{Condition, condition, condition_count}
use Rattle.news_types.specs.Filters.{Filter, filters, has_filter, older, names_only}
use Rattle.news_types.specs.Denial.{unless, first_of, absent, absent_of, first_missing, full, missing, is_taken, order_denial, operand_denial, limit_denial}
use Rattle.content_filters.specs.declared.table.Filters.{Filters}
use Rattle.content_filters.specs.Keeps.{Keeps}

-- the command is one on conditions, filters or blocks
abbrev pub is_filter_command : Command → Bool
is_filter_command (AddCondition name field op values) = true
is_filter_command (AddFilter filter statements) = true
is_filter_command (SetFilter filter statements) = true
is_filter_command (SetBlock filter on) = true
is_filter_command _ = false

-- the filter is there, or is the one that names it
abbrev pub is_filter_or : (Bytes → Bool) → Bytes → Bytes → Bool
is_filter_or is_there self name = same name self || is_there name

-- what a statement names and is not there
abbrev pub absent_in : (Bytes → Bool) → (Bytes → Bool) → Statement → List Thing
absent_in is_condition is_filter st = absent_of is_condition thing.Condition st.conditions ++ absent_of is_filter thing.Filter st.filters

-- what is asked of statements: the conditions that are there, and the filters with the one that names them
abbrev pub absent_by : (Bytes → Bool) → (Bytes → Bool) → Bytes → List Statement → List Thing
absent_by is_condition is_filter self statements = flat_map (absent_in is_condition (is_filter_or is_filter self)) statements

abbrev pub is_there : (Bytes → Option Condition) → Bytes → Bool
is_there condition name = is_some (condition name)

-- the filter of that name is one of these
abbrev pub is_one_of : List Filter → Bytes → Bool
is_one_of fs name = has_filter name fs

-- the things that the command names and that are not there
abbrev pub filter_missing : (Bytes → Option Condition) → List Filter → Command → List Thing
filter_missing condition fs (AddFilter filter statements) = absent_by (is_there condition) (is_one_of fs) filter statements
filter_missing condition fs (SetFilter filter statements) = absent (has_filter filter fs) thing.Filter ++ absent_by (is_there condition) (is_one_of fs) filter statements
filter_missing condition fs (SetBlock filter on) = absent (has_filter filter fs) thing.Filter
filter_missing condition fs _ = []

abbrev pub is_filter_taken : (Bytes → Option Condition) → List Filter → Command → Bool
is_filter_taken condition fs (AddCondition name field op values) = is_some (condition name)
is_filter_taken condition fs (AddFilter filter statements) = has_filter filter fs
is_filter_taken condition fs _ = false

abbrev pub filter_order : List Filter → Command → Option Denial
filter_order fs (AddFilter filter statements) = unless (names_only fs statements) FilterOrder
filter_order fs (SetFilter filter statements) = unless (names_only (older filter fs) statements) FilterOrder
filter_order fs _ = None

abbrev pub filter_operand : Command → Option Denial
filter_operand (AddCondition name field op values) = operand_denial (AddCondition name field op values)
filter_operand (AddFilter filter statements) = operand_denial (AddFilter filter statements)
filter_operand (SetFilter filter statements) = operand_denial (SetFilter filter statements)
filter_operand _ = None

abbrev pub filter_limit : ℕ → List Filter → Command → Option Denial
filter_limit count fs (AddCondition name field op values) = full thing.Condition count
filter_limit count fs (AddFilter filter statements) = full thing.Filter (length fs)
filter_limit count fs _ = None

-- the first reason to deny the command
abbrev pub filter_denial : (Bytes → Option Condition) → ℕ → List Filter → Command → Option Denial
filter_denial condition count fs command = first_of (
    first_missing (filter_missing condition fs command) ∷
    unless (not (is_filter_taken condition fs command)) NameTaken ∷
    filter_order fs command ∷
    filter_operand command ∷
    filter_limit count fs command ∷ []
    )

-- ---- by the list

-- the table keeps the facts of the list
abbrev pub KeepsFacts : Filters → History → Type 0
KeepsFacts t h = Keeps t (condition h) (condition_count h) (filters h)

-- the first reason to deny the command, by the facts of the list
abbrev pub judge_denial : History → Command → Option Denial
judge_denial h command = filter_denial (condition h) (condition_count h) (filters h) command

-- the first of these reasons by the list
abbrev pub denial_by : History → Command → Option Denial
denial_by h command = first_of (
    first_missing (missing h command) ∷
    unless (not (is_taken h command)) NameTaken ∷
    order_denial h command ∷
    operand_denial command ∷
    limit_denial h command ∷ []
    )

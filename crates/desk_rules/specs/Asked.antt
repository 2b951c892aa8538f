-- What is asked of the table, by the list whose facts it keeps.
use Rattle.std.specs.Prelude.{◌≡◌, Bool, true, false, not, ◌&&◌, List, filter, Option, Some, None, option_map, option_and_then, if◌then◌else◌}
use Rattle.news_types.specs.declared.command.Command.{Command}
use Rattle.news_types.specs.declared.command.Command.TheVariants.{AddUser, AddDesk, AddStage}
use Rattle.news_types.specs.declared.words.State.{State}
use Rattle.news_types.specs.declared.words.Thing.{Thing}
use Rattle.news_types.specs.declared.words.Thing.TheVariants as thing
use Rattle.news_types.specs.declared.rules.Place.{Place}
use Rattle.news_types.specs.declared.query.Holder.{Holder}
use Rattle.news_types.specs.declared.denial.Denial.{Denial}
use Rattle.news_types.specs.declared.denial.Denial.TheVariants.{UnknownUser, NoPrivilege, NameTaken}
use Rattle.news_types.specs.Names.{Bytes}
use Rattle.news_types.specs.History.{History}
use Rattle.news_types.specs.Users.{is_user, may}
use Rattle.news_types.specs.Items.{Item, named_item}
use Rattle.news_types.specs.Publications.{item}
use Rattle.news_types.specs.Denial.{unless, or_else, privilege_of, missing, first_missing, is_taken, asked_desk, member_denial, state_denial, lock_rule, lock_denial, limit_denial}
use Rattle.desk_rules.specs.declared.seats.Seat.{Seat}

-- ---- items

-- where an item stands, if it is there and stands on a desk
abbrev pub place_in : Option Item → Option Place
place_in it = option_and_then (λ (it : Item). it.place) it

-- who holds it, if it is there and somebody does
abbrev pub holder_in : Option Item → Option Holder
holder_in it = option_and_then (λ (it : Item). it.holder) it

-- what is kept says who holds the item, and whether it is there
abbrev pub IsHeldAs : Option Seat → Option Item → Type 0
IsHeldAs seat it = option_map (λ (s : Seat). s.holder) seat ≡ option_map (λ (it : Item). it.holder) it

-- ---- reasons

-- what an item in the state is denied for: its state, and its lock
abbrev pub work_denial : Bytes → Command → Option Item → Option State → Option Denial
work_denial caller command (Some it) (Some from) = or_else (state_denial command from) (lock_denial caller (lock_rule command) it.holder)
work_denial caller command it from = None

-- what the caller is denied for
abbrev pub caller_denial : History → Bytes → Command → Option Denial
caller_denial h caller command =
    or_else (unless (is_user h caller) UnknownUser)
    (unless (may h caller (privilege_of command)) (NoPrivilege (privilege_of command)))

-- the first reason of the caller, the members, the item's state and its lock
abbrev pub may_denial : History → Bytes → Command → Option State → Option Denial
may_denial h caller command from =
    let it : Option Item = item h (named_item command) in
    or_else (caller_denial h caller command)
    (or_else (member_denial h caller (asked_desk command it))
    (work_denial caller command it from))

-- users, desks and stages
abbrev pub is_of_desks : Thing → Bool
is_of_desks thing.User = true
is_of_desks thing.Desk = true
is_of_desks thing.Stage = true
is_of_desks _ = false

-- the command adds a user, a desk or a stage
abbrev pub adds_one : Command → Bool
adds_one (AddUser user privileges) = true
adds_one (AddDesk desk) = true
adds_one (AddStage desk stage) = true
adds_one _ = false

-- the users, desks and stages that the command names and that are not there, in the order of its fields
abbrev pub missing_here : History → Command → List Thing
missing_here h command = filter is_of_desks (missing h command)

-- that one of them is not there, or that one is added and is there already
abbrev pub knows_denial : History → Command → Option Denial
knows_denial h command = or_else (first_missing (missing_here h command)) (unless (not (adds_one command && is_taken h command)) NameTaken)

-- that there are too many to add one
abbrev pub full_denial : History → Command → Option Denial
full_denial h command = if adds_one command then limit_denial h command else None

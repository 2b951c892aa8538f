-- The reasons to deny a command, behind those of its caller.
use Rattle.std.specs.Prelude.{ℕ, Bool, true, false, not, Option, Some, None}
use Rattle.news_types.specs.declared.command.Command.{Command}
use Rattle.news_types.specs.declared.denial.Denial.{Denial}
use Rattle.news_types.specs.declared.denial.Denial.TheVariants.{NameTaken, NotPaused, UnknownThing}
use Rattle.news_types.specs.declared.words.Thing.TheVariants as thing
use Rattle.news_types.specs.Names.{Bytes}
use Rattle.news_types.specs.History.{History}
use Rattle.news_types.specs.Due.{standing_first, release_of}
use Rattle.news_types.specs.Items.{Item, named_item}
use Rattle.news_types.specs.Publications.{item, standing, state}
use Rattle.news_types.specs.Denial.{unless, or_else, first_missing, missing, is_taken, member_denial, asked_desk, item_denial, time_denial, pause_denial, order_denial, operand_denial, limit_denial}
use Rattle.item_commands.specs.declared.sort.Sort.{Sort}
use Rattle.item_commands.specs.declared.sort.Sort.TheVariants.{Desks, Filters, Products, Sources, Works, Publishes, Follows, Withdraws}

-- the rest of the reasons, in their order
abbrev pub rest_denial : History → Bytes → Command → ℕ → Option Denial
rest_denial h caller command m =
    let i : ℕ = named_item command in
    let it : Option Item = item h i in
    or_else (first_missing (missing h command))
    (or_else (unless (not (is_taken h command)) NameTaken)
    (or_else (member_denial h caller (asked_desk command it))
    (or_else (item_denial caller command (release_of (standing_first i (standing h))) it (state h i m))
    (or_else (time_denial m command)
    (or_else (pause_denial h command)
    (or_else (order_denial h command)
    (or_else (operand_denial command)
    (or_else (limit_denial h command) None))))))))

-- why a feed is not pushed again that is paused or not, if it is there
abbrev pub resume_by : Option Bool → Option Denial
resume_by None = Some (UnknownThing thing.Subscriber)
resume_by (Some true) = None
resume_by (Some false) = Some NotPaused

-- a command of this sort changes a table that commands alone change
abbrev pub is_rule_sort : Sort → Bool
is_rule_sort Desks = true
is_rule_sort Filters = true
is_rule_sort Products = true
is_rule_sort Sources = true
is_rule_sort _ = false

-- a command of this sort names an item
abbrev pub is_item_sort : Sort → Bool
is_item_sort Works = true
is_item_sort Publishes = true
is_item_sort Follows = true
is_item_sort Withdraws = true
is_item_sort _ = false

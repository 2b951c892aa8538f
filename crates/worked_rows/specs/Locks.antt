-- Lists in which an item is spiked, unspiked and locked.
use Rattle.std.specs.Prelude.{codes, true, [], ◌∷◌, List}
use Rattle.news_types.specs.declared.command.Command.{Command}
use Rattle.news_types.specs.declared.command.Command.TheVariants.{AddUser, AddDesk, SetMember, Create, Spike, Unspike, Lock, Edit}
use Rattle.news_types.specs.Names.{Bytes}
use Rattle.news_types.specs.History.{History}
use Rattle.news_types.specs.Users.{admin}
use Rattle.worked_rows.specs.Examples.{city, ana, one, two, fire, asked, behind_all}

abbrev spike_on_city : List Command
spike_on_city =
    AddUser ana (record { bits = 32 }) ∷
    AddDesk city ∷
    SetMember city admin true ∷
    Create city (fire 3) ∷
    Spike 1 ∷ []

-- item 1 on city is spiked; ana has the privilege write and is no member
abbrev pub spiked : History
spiked = asked 1000 spike_on_city []

-- ana becomes a member
abbrev pub joined : History
joined = asked 1000 (SetMember city ana true ∷ []) spiked

-- the item is unspiked to city
abbrev pub unspiked : History
unspiked = asked 1000 (Unspike 1 city ∷ []) joined

-- ana locks it in session one
abbrev pub locked : History
locked = behind_all ana 1000 (Lock 1 one ∷ []) unspiked

-- her edit from session two
abbrev pub edit_from_two : Command
edit_from_two = Edit 1 two (fire 2)

abbrev pub sport : Bytes
sport = codes "sport"

-- ana is a member of another desk
abbrev pub joined_sport : History
joined_sport = asked 1000 (AddDesk sport ∷ SetMember sport ana true ∷ []) spiked

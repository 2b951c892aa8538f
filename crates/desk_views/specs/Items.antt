-- The items that a desk asks for.
use Rattle.std.specs.Prelude.{ℕ, zero, suc, ◌-◌, min, Bool, true, false, ◌&&◌, List, [], ◌∷◌, take, Option, Some, None}
use Rattle.std.specs.List.{filter}
use Rattle.news_types.specs.declared.words.State.{State}
use Rattle.news_types.specs.declared.words.Thing.{Thing}
use Rattle.news_types.specs.declared.words.Thing.TheVariants as thing
use Rattle.news_types.specs.declared.rules.Place.{Place}
use Rattle.news_types.specs.declared.query.Holder.{Holder}
use Rattle.news_types.specs.contracts.words.StatePartialEq.TheImpl as state_eq
use Rattle.news_types.specs.Names.{Bytes, same}
use Rattle.news_types.specs.History.{History, moment}
use Rattle.news_types.specs.Users.{is_user}
use Rattle.news_types.specs.Desks.{is_desk}
use Rattle.news_types.specs.Items.{Item}
use Rattle.news_types.specs.Publications.{item, item_count, state}

-- the two states are the same
abbrev pub same_state : State → State → Bool
same_state = (state_eq.ghosts).eq

abbrev pub is_on : Bytes → Option Place → Bool
is_on desk None = false
is_on desk (Some place) = same place.desk desk

-- on that desk, or wherever it is where none is given
abbrev pub is_at : Option Bytes → Option Place → Bool
is_at None place = true
is_at (Some desk) place = is_on desk place

abbrev pub is_in_state : Option State → Option State → Bool
is_in_state None now = true
is_in_state (Some wanted) None = false
is_in_state (Some wanted) (Some now) = same_state wanted now

abbrev pub is_of : Bytes → Option Holder → Bool
is_of user None = false
is_of user (Some holder) = same holder.user user

-- held by that user, or by whomever where none is given
abbrev pub is_held : Option Bytes → Option Holder → Bool
is_held None holder = true
is_held (Some user) holder = is_of user holder

-- what is asked for
pub record Wanted : Type 0 where
  pub desk : Option Bytes
  pub state : Option State
  pub user : Option Bytes

abbrev pub is_wanted_item : Wanted → Option Item → Option State → Bool
is_wanted_item w None now = false
is_wanted_item w (Some it) now = is_at w.desk it.place && is_in_state w.state now && is_held w.user it.holder

-- item i is asked for, as it is at the moment of the list
abbrev pub is_wanted : History → Wanted → ℕ → Bool
is_wanted h w i = is_wanted_item w (item h i) (state h i (moment h))

-- n, and each number below it down to 1
abbrev pub down_from : ℕ → List ℕ
down_from zero = []
down_from (suc n) = suc n ∷ down_from n

-- the newest hundred of the items below a number that are asked for, the newest first
abbrev pub items_below : History → Wanted → ℕ → List ℕ
items_below h w below = take 100 (filter (is_wanted h w) (down_from (min (item_count h) (below - 1))))

-- the first that is named and is not there: the desk, then the user
abbrev pub unless_there : Thing → (Bytes → Bool) → Option Bytes → Option Thing → Option Thing
unless_there what is_there None other = other
unless_there what is_there (Some name) other = by (is_there name)
  where
    by : Bool → Option Thing
    by true = other
    by false = Some what

abbrev pub unknown : History → Wanted → Option Thing
unknown h w = unless_there thing.Desk (is_desk h) w.desk (unless_there thing.User (is_user h) w.user None)

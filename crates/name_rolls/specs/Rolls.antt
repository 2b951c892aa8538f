-- Names in byte order, and their room.
use Rattle.std.specs.Prelude.{◌<◌, Bool, List, Option, Some, None, option_map, vec_len, vec_capacity}
use Rattle.std.specs.HashMap.{HashMap, get}
use Rattle.news_types.specs.Names.{Bytes, same}
use Rattle.desk_views.specs.declared.question.Register.{Register}
use Rattle.desk_views.specs.declared.question.Register.TheVariants as register
use Rattle.desk_views.specs.contracts.question.RegisterPartialEq.TheImpl as register_eq
use Rattle.name_rolls.specs.declared.roll.Roll.{Roll}
use Rattle.name_rolls.specs.declared.rolls.Rolls.{Rolls}

-- the two kinds are the same
abbrev pub same_register : Register → Register → Bool
same_register = (register_eq.ghosts).eq

abbrev pub names_in : Roll → List Bytes
names_in roll = roll.names.items

-- the roll of a kind
abbrev pub roll_of : Register → Rolls → Roll
roll_of register.Users t = t.users
roll_of register.Desks t = t.desks
roll_of register.Conditions t = t.conditions
roll_of register.Filters t = t.filters
roll_of register.Products t = t.products
roll_of register.Subscribers t = t.subscribers
roll_of register.Schemes t = t.schemes
roll_of register.Providers t = t.providers

-- the names that are kept for a desk
abbrev pub names_at : {S : Type 0} → HashMap Bytes Roll S → Bytes → Option (List Bytes)
names_at stages desk = option_map names_in (get same stages desk)

-- there is room for one more name
pub record HasPlace (roll : Roll) : Type 0 where
  pub fits : vec_len roll.names < vec_capacity roll.names

abbrev pub HasPlaceIn : Option Roll → Type 0
HasPlaceIn None = Unit {0}
HasPlaceIn (Some roll) = HasPlace roll

-- there is room for one more stage of a desk, if it is there
pub record HasPlaceAt {S : Type 0} (stages : HashMap Bytes Roll S) (desk : Bytes) : Type 0 where
  pub place : HasPlaceIn (get same stages desk)

-- What changes do to the rolls.
use Rattle.std.specs.Prelude.{◌≡◌, ◌<◌, Bool, true, false, [], ◌∷◌, Option, Some, None}
use Rattle.std.specs.HashMap.{spare}
use Rattle.news_types.specs.declared.command.Command.{Command}
use Rattle.news_types.specs.declared.command.Command.TheVariants as command
use Rattle.news_types.specs.Names.{Bytes}
use Rattle.news_types.specs.History.{History}
use Rattle.news_types.specs.Desks.{is_desk, incoming, working}
use Rattle.news_types.specs.Answers.{in_order}
use Rattle.desk_views.specs.declared.question.Register.{Register}
use Rattle.desk_views.specs.declared.question.Register.TheVariants as register
use Rattle.name_rolls.specs.declared.change.NewName.{NewName}
use Rattle.name_rolls.specs.declared.change.Step.{Step}
use Rattle.name_rolls.specs.declared.change.Step.TheVariants.{Add, AddDesk, AddStage, Nothing}
use Rattle.name_rolls.specs.declared.change.RollChange.{RollChange}
use Rattle.name_rolls.specs.declared.rolls.Rolls.{Rolls}
use Rattle.name_rolls.specs.Rolls.{roll_of, names_in, HasPlace, HasPlaceAt}

abbrev pub one_of : Register → Bytes → Option NewName
one_of of name = Some (record { of = of; name = name })

-- the command adds a desk or a stage of one
abbrev pub changes_stages : Command → Bool
changes_stages (command.AddDesk desk) = true
changes_stages (command.AddStage desk stage) = true
changes_stages _ = false

-- what else the command adds
abbrev pub added : Command → Option NewName
added (command.AddUser user privileges) = one_of register.Users user
added (command.AddCondition condition field op values) = one_of register.Conditions condition
added (command.AddFilter filter statements) = one_of register.Filters filter
added (command.AddProduct product how filter) = one_of register.Products product
added (command.AddSubscriber subscriber format products lag) = one_of register.Subscribers subscriber
added (command.AddScheme scheme rules) = one_of register.Schemes scheme
added (command.AddProvider provider scheme) = one_of register.Providers provider
added _ = None

-- a new desk is not there, and the desk of a new stage is
abbrev pub Finds : Command → History → Type 0
Finds (command.AddDesk desk) h = is_desk h desk ≡ false
Finds (command.AddStage desk stage) h = is_desk h desk ≡ true
Finds _ h = Unit {0}

-- the step is that of the command
abbrev pub IsStep : Step → Command → Type 0
IsStep (Add new) given = (added given ≡ Some new) × (changes_stages given ≡ false)
IsStep (AddDesk desk stages) given = (given ≡ command.AddDesk desk) × (names_in stages ≡ in_order (incoming ∷ working ∷ []))
IsStep (AddStage desk stage) given = given ≡ command.AddStage desk stage
IsStep Nothing given = (added given ≡ None) × (changes_stages given ≡ false)

-- the change is that of the command, which finds in the list what it has to
pub record IsFor (change : RollChange) (given : Command) (h : History) : Type 0 where
  pub step : IsStep change.step given
  pub finds : Finds given h

-- the rolls have the memory for the step
abbrev pub HasRoomFor : Rolls → Step → Type 0
HasRoomFor t (Add new) = HasPlace (roll_of new.of t)
HasRoomFor t (AddDesk desk stages) = HasPlace t.desks × (0 < spare t.stages)
HasRoomFor t (AddStage desk stage) = HasPlaceAt t.stages desk
HasRoomFor t Nothing = Unit {0}

-- the rolls have the memory for the change
pub record HasRoom (t : Rolls) (change : RollChange) : Type 0 where
  pub room : HasRoomFor t change.step

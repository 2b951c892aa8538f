-- What changes do to the facts, and to the table.
use Rattle.std.specs.Prelude.{◌≡◌, ◌+◌, ◌<◌, true, false, [], ◌∷◌, ◌++◌, Option, Some, None, is_some, unwrap_or, vec_len, vec_capacity}
use Rattle.std.specs.HashMap.{get, hash_map_len, spare}
use Rattle.news_types.specs.declared.command.Command.{Command}
use Rattle.news_types.specs.declared.command.Command.TheVariants as command
use Rattle.news_types.specs.declared.rules.Place.{Place}
use Rattle.news_types.specs.Names.{Bytes, same}
use Rattle.news_types.specs.History.{History}
use Rattle.news_types.specs.Users.{privileges_after}
use Rattle.news_types.specs.Desks.{incoming, working, desk_after, stage_after, stages_added, member_after}
use Rattle.desk_rules.specs.declared.on_desk.OnDesk.{OnDesk}
use Rattle.desk_rules.specs.declared.step.Step.{Step}
use Rattle.desk_rules.specs.declared.step.Step.TheVariants.{AddUser, SetUser, AddDesk, AddStage, SetMember, Make, MakeAlone, Put, Hold, Free, Nothing}
use Rattle.desk_rules.specs.declared.change.DeskChange.{DeskChange}
use Rattle.desk_rules.specs.declared.table.Desks.{Desks}
use Rattle.desk_rules.specs.Keys.{same_on}
use Rattle.desk_rules.specs.Spots.{Spot, changed}
use Rattle.desk_rules.specs.Places.{HasRoomFor as HasPlacesFor}
use Rattle.desk_rules.specs.Facts.{Facts, has_stage, facts}

abbrev pub at : Bytes → Bytes → Place
at desk stage = record { desk = desk; stage = stage }

-- what a command of the caller does
abbrev pub step_of : Bytes → Command → Step
step_of caller (command.AddUser user privileges) = AddUser user privileges
step_of caller (command.SetUser user privileges) = SetUser user privileges
step_of caller (command.AddDesk desk) = AddDesk desk
step_of caller (command.AddStage desk stage) = AddStage (at desk stage)
step_of caller (command.SetMember desk user member) = SetMember desk user member
step_of caller (command.Create desk story) = Make (at desk working)
step_of caller (command.Flash story targets) = MakeAlone
step_of caller (command.MoveTo i desk stage) = Put i (at desk stage)
step_of caller (command.Unspike i desk) = Put i (at desk incoming)
step_of caller (command.Fetch i desk) = Put i (at desk incoming)
step_of caller (command.Lock i session) = Hold i (record { user = caller; session = session })
step_of caller (command.Unlock i session) = Free i
step_of caller (command.BreakLock i) = Free i
step_of caller (command.Publish i session schedule embargo targets) = Free i
step_of caller (command.Correct i session story) = Free i
step_of caller (command.Kill i session note) = Free i
step_of caller (command.Recall i session note) = Free i
step_of caller _ = Nothing

-- that the next item is made, at the place if one is given
abbrev pub make_at : Option Place → Step
make_at None = MakeAlone
make_at (Some place) = Make place

-- a new item, which nobody holds
abbrev pub new_spot : Option Place → Spot
new_spot place = record { place = place; holder = None }

-- the facts behind a step
abbrev pub leads : Step → Facts → Facts
leads (AddUser user privileges) f = record f { privileges = λ name. privileges_after name (command.AddUser user privileges) (f.privileges name); users = f.users + 1 }
leads (SetUser user privileges) f = record f { privileges = λ name. privileges_after name (command.SetUser user privileges) (f.privileges name) }
leads (AddDesk desk) f = record f { is_desk = λ name. desk_after name (command.AddDesk desk) (f.is_desk name); desks = f.desks + 1 }
leads (AddStage place) f = record f {
  is_added = λ desk stage. stage_after desk stage (command.AddStage place.desk place.stage) (f.is_added desk stage);
  stages = λ desk. f.stages desk + stages_added desk (command.AddStage place.desk place.stage);
}
leads (SetMember desk user member) f = record f { is_member = λ other person. member_after other person (command.SetMember desk user member) (f.is_member other person) }
leads (Make place) f = record f { spots = f.spots ++ new_spot (Some place) ∷ [] }
leads MakeAlone f = record f { spots = f.spots ++ new_spot None ∷ [] }
leads (Put i place) f = record f { spots = changed i (λ (s : Spot). record s { place = Some place }) f.spots }
leads (Hold i holder) f = record f { spots = changed i (λ (s : Spot). record s { holder = Some holder }) f.spots }
leads (Free i) f = record f { spots = changed i (λ (s : Spot). record s { holder = None }) f.spots }
leads Nothing f = f

-- the place is there
abbrev pub IsThere : Facts → Place → Type 0
IsThere f place = has_stage f place.desk place.stage ≡ true

abbrev pub IsThereIfGiven : Facts → Option Place → Type 0
IsThereIfGiven f None = Unit {0}
IsThereIfGiven f (Some place) = IsThere f place

-- what a step sets is there, and what it adds is not
abbrev pub Fits : Step → Facts → Type 0
Fits (AddUser user privileges) f = f.privileges user ≡ None
Fits (SetUser user privileges) f = is_some (f.privileges user) ≡ true
Fits (AddDesk desk) f = f.is_desk desk ≡ false
Fits (AddStage place) f = (f.is_desk place.desk ≡ true) × (has_stage f place.desk place.stage ≡ false)
Fits (Make place) f = IsThere f place
Fits (Put i place) f = IsThere f place
Fits _ f = Unit {0}

-- the change is that of the caller's command, which the list allows
pub record IsFor (change : DeskChange) (caller : Bytes) (given : Command) (h : History) : Type 0 where
  pub step : change.step ≡ step_of caller given
  pub fits : Fits change.step (facts h)

-- the change makes an item at the place, which is there
pub record IsMaking (change : DeskChange) (place : Option Place) (h : History) : Type 0 where
  pub step : change.step ≡ make_at place
  pub fits : Fits change.step (facts h)

-- the tables keep the same
pub record IsAlike (t r : Desks) : Type 0 where
  pub users : (name : Bytes) → get same r.users name ≡ get same t.users name
  pub user_count : hash_map_len r.users ≡ hash_map_len t.users
  pub desks : (name : Bytes) → get same r.desks name ≡ get same t.desks name
  pub desk_count : hash_map_len r.desks ≡ hash_map_len t.desks
  pub places : r.places.list.items ≡ t.places.list.items
  pub numbers : (key : OnDesk) → get same_on r.places.numbers key ≡ get same_on t.places.numbers key
  pub members : (key : OnDesk) → get same_on r.members key ≡ get same_on t.members key
  pub seats : r.seats.items ≡ t.seats.items

-- the table has the memory for the step
abbrev pub HasRoomFor : Desks → Step → Type 0
HasRoomFor t (AddUser user privileges) = 0 < spare t.users
HasRoomFor t (SetUser user privileges) = 0 < spare t.users
HasRoomFor t (AddDesk desk) = (0 < spare t.desks) × HasPlacesFor 2 t.places
HasRoomFor t (AddStage place) = (0 < spare t.desks) × HasPlacesFor 1 t.places × (unwrap_or (get same t.desks place.desk) 0 < 4294967295)
HasRoomFor t (SetMember desk user member) = 0 < spare t.members
HasRoomFor t (Make place) = vec_len t.seats < vec_capacity t.seats
HasRoomFor t MakeAlone = vec_len t.seats < vec_capacity t.seats
HasRoomFor t _ = Unit {0}

-- the table has the memory for the change
pub record HasRoom (t : Desks) (change : DeskChange) : Type 0 where
  pub room : HasRoomFor t change.step

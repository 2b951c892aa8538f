-- What is not denied fits.
use Rattle.std.proofs.Common.{◌≡◌, Bool, true, false, not, ◌++◌, Option, Some, None, is_some, refl, sym}
use Rattle.std.specs.List.{filter}
use Rattle.news_types.specs.declared.command.Command.{Command}
use Rattle.news_types.specs.declared.command.Command.TheVariants.{AddUser, SetUser, AddDesk, AddStage, Create, MoveTo, Unspike, Fetch}
use Rattle.news_types.specs.declared.words.Thing.TheVariants as thing
use Rattle.news_types.specs.declared.rules.Place.{Place}
use Rattle.news_types.specs.declared.denial.Denial.TheVariants.{UnknownThing, NameTaken}
use Rattle.news_types.proofs.Members.{none_some}
use Rattle.news_types.specs.Names.{Bytes}
use Rattle.news_types.specs.History.{History}
use Rattle.news_types.specs.Users.{privileges, is_user}
use Rattle.news_types.specs.Desks.{is_desk, is_stage}
use Rattle.news_types.specs.Publications.{item}
use Rattle.news_types.specs.Denial.{or_else, unless, absent, first_missing}
use Rattle.desk_rules.specs.Facts.{Facts, facts}
use Rattle.desk_rules.specs.Asked.{is_of_desks, knows_denial}
use Rattle.desk_rules.specs.Steps.{step_of, Fits, make_at, IsThereIfGiven}

none_of : {A : Type 0} (o : Option A) → is_some o ≡ false → o ≡ None
none_of None is = refl
none_of (Some x) is = cc

not_taken : (b : Bool) → unless (not b) NameTaken ≡ None → b ≡ false
not_taken true is = absurd (none_some NameTaken (sym is))
not_taken false is = refl

user_there : (b : Bool) → or_else (first_missing (filter is_of_desks (absent b thing.User))) None ≡ None → b ≡ true
user_there true is = refl
user_there false is = absurd (none_some (UnknownThing thing.User) (sym is))

desk_there : (b : Bool) → or_else (first_missing (filter is_of_desks (absent b thing.Desk))) None ≡ None → b ≡ true
desk_there true is = refl
desk_there false is = absurd (none_some (UnknownThing thing.Desk) (sym is))

new_stage : (a b : Bool) → or_else (first_missing (filter is_of_desks (absent a thing.Desk))) (unless (not b) NameTaken) ≡ None → (a ≡ true) × (b ≡ false)
new_stage true b is = (refl, not_taken b is)
new_stage false b is = absurd (none_some (UnknownThing thing.Desk) (sym is))

item_desk : (a b : Bool) → or_else (first_missing (filter is_of_desks (absent a thing.Item ++ absent b thing.Desk))) None ≡ None → b ≡ true
item_desk a true is = refl
item_desk true false is = absurd (none_some (UnknownThing thing.Desk) (sym is))
item_desk false false is = absurd (none_some (UnknownThing thing.Desk) (sym is))

item_stage : (a b c : Bool) → or_else (first_missing (filter is_of_desks (absent a thing.Item ++ (absent b thing.Desk ++ absent c thing.Stage)))) None ≡ None → c ≡ true
item_stage a b true is = refl
item_stage true true false is = absurd (none_some (UnknownThing thing.Stage) (sym is))
item_stage true false false is = absurd (none_some (UnknownThing thing.Desk) (sym is))
item_stage false true false is = absurd (none_some (UnknownThing thing.Stage) (sym is))
item_stage false false false is = absurd (none_some (UnknownThing thing.Desk) (sym is))

pub fits : (h : History) (caller : Bytes) (command : Command) → knows_denial h command ≡ None → Fits (step_of caller command) (facts h)
fits h caller (AddUser user given) is = none_of (privileges h user) (not_taken (is_user h user) is)
fits h caller (SetUser user given) is = user_there (is_user h user) is
fits h caller (AddDesk desk) is = not_taken (is_desk h desk) is
fits h caller (AddStage desk stage) is = new_stage (is_desk h desk) (is_stage h desk stage) is
fits h caller (Create desk story) is = let there : is_desk h desk ≡ true = desk_there (is_desk h desk) is in rw there refl
fits h caller (MoveTo i desk stage) is = item_stage (is_some (item h i)) (is_desk h desk) (is_stage h desk stage) is
fits h caller (Unspike i desk) is = let there : is_desk h desk ≡ true = item_desk (is_some (item h i)) (is_desk h desk) is in rw there refl
fits h caller (Fetch i desk) is = let there : is_desk h desk ≡ true = item_desk (is_some (item h i)) (is_desk h desk) is in rw there refl
fits h caller _ is = tt

pub making_fits : (f : Facts) (place : Option Place) → IsThereIfGiven f place → Fits (make_at place) f
making_fits f None there = tt
making_fits f (Some place) there = there

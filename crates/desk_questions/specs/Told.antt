-- What a question of the desk is answered.
use Rattle.std.specs.Prelude.{ℕ, List, Option, Some, None}
use Rattle.news_types.specs.declared.words.Thing.{Thing}
use Rattle.news_types.specs.declared.words.Thing.TheVariants as thing
use Rattle.news_types.specs.Names.{Bytes}
use Rattle.news_types.specs.History.{History}
use Rattle.news_types.specs.Items.{Item}
use Rattle.news_types.specs.Publications.{item}
use Rattle.desk_views.specs.declared.question.Register.{Register}
use Rattle.desk_views.specs.declared.question.DeskQuestion.{DeskQuestion}
use Rattle.desk_views.specs.declared.question.DeskQuestion.TheVariants as asked
use Rattle.desk_views.specs.Items as items
use Rattle.desk_views.specs.Reach as reached
use Rattle.desk_questions.specs.declared.answer.DeskTold.{DeskTold}
use Rattle.desk_questions.specs.declared.answer.DeskTold.TheVariants as told
use Rattle.desk_questions.specs.Items.{items_bytes}
use Rattle.desk_questions.specs.Things.{things_bytes}
use Rattle.desk_questions.specs.Reach.{reach_object}
use Rattle.desk_questions.specs.Publications.{publications_bytes}

-- the thing that is not there, or this object
abbrev pub unless_unknown : Option Thing → Bytes → DeskTold
unless_unknown None object = told.Found object
unless_unknown (Some thing) object = told.Unknown thing

abbrev pub items_told : History → items.Wanted → ℕ → DeskTold
items_told h w below = unless_unknown (items.unknown h w) (items_bytes h w below)

abbrev pub things_told : History → Register → Option Bytes → DeskTold
things_told h of after = told.Found (things_bytes h of after)

abbrev pub reach_told : History → ℕ → List Bytes → DeskTold
reach_told h i targets = unless_unknown (reached.unknown h targets (item h i)) (reach_object h i targets (item h i))

-- that the item is not there
abbrev pub unknown_item : Option Item → Option Thing
unknown_item None = Some thing.Item
unknown_item (Some it) = None

abbrev pub publications_told : History → ℕ → ℕ → DeskTold
publications_told h i after = unless_unknown (unknown_item (item h i)) (publications_bytes h i after)

-- the answer to a question of a desk, from the list as it is
abbrev pub desk_told : History → DeskQuestion → DeskTold
desk_told h (asked.Items desk below state user) = items_told h (record { desk = desk; state = state; user = user }) below
desk_told h (asked.Things of after) = things_told h of after
desk_told h (asked.Reach i targets) = reach_told h i targets
desk_told h (asked.Publications i after) = publications_told h i after

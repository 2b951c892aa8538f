-- What a drill asks for before its stories: a desk, eight products and eight subscribers.
use Rattle.std.specs.Prelude.{ℕ, ◌+◌, ◌%◌, ◌==◌, true, if◌then◌else◌, List, [], ◌∷◌, ◌++◌, Some, map, codes, decimal}
use Rattle.std.specs.List.{flat_map, range_with_len}
use Rattle.news_types.specs.declared.command.Command.{Command}
use Rattle.news_types.specs.declared.command.Command.TheVariants.{AddDesk, SetMember, AddCondition, AddFilter, AddProduct, AddSubscriber}
use Rattle.news_types.specs.declared.words.Field.TheVariants.{Urgency}
use Rattle.news_types.specs.declared.words.Op.TheVariants.{Eq}
use Rattle.news_types.specs.declared.words.How.TheVariants.{Permitting}
use Rattle.news_types.specs.declared.words.Format.{Format}
use Rattle.news_types.specs.declared.words.Format.TheVariants.{Ninjs, Text7901}
use Rattle.news_types.specs.Names.{Bytes}
use Rattle.news_types.specs.Users.{admin}

abbrev pub desk : Bytes
desk = codes "d"

abbrev pub condition_name : ℕ → Bytes
condition_name i = codes "c" ++ decimal i

abbrev pub filter_name : ℕ → Bytes
filter_name i = codes "f" ++ decimal i

abbrev pub product_name : ℕ → Bytes
product_name i = codes "p" ++ decimal i

abbrev pub subscriber_name : ℕ → Bytes
subscriber_name i = codes "s" ++ decimal i

-- product i permits the stories of urgency i + 1
abbrev pub product_steps : ℕ → List Command
product_steps i =
    AddCondition (condition_name i) Urgency Eq (decimal (i + 1) ∷ [])
    ∷ AddFilter (filter_name i) (record { conditions = condition_name i ∷ []; filters = [] } ∷ [])
    ∷ AddProduct (product_name i) Permitting (Some (filter_name i)) ∷ []

-- the first subscriber is permitted every story, each other one those of its product
abbrev pub products_of : ℕ → List Bytes
products_of i = (if i == 0 then codes "all" else product_name i) ∷ []

abbrev pub format_of : ℕ → Format
format_of i = if i % 2 == 0 then Ninjs else Text7901

abbrev pub subscriber_step : ℕ → Command
subscriber_step i = AddSubscriber (subscriber_name i) (format_of i) (products_of i) 0

-- all of it, in order
abbrev pub setup : List Command
setup = AddDesk desk ∷ SetMember desk admin true ∷ [] ++ flat_map product_steps (range_with_len 0 8) ++ map subscriber_step (range_with_len 0 8)

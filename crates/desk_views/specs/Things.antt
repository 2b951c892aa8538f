-- The things of a newsroom, by their names.
use Rattle.std.specs.Prelude.{ℕ, ◌+◌, Bool, true, false, not, List, [], ◌∷◌, length, map, take, codes, if◌then◌else◌, Option, Some, None}
use Rattle.std.specs.List.{filter, list_any}
use Rattle.std.specs.Ordering.{is_le, nat_cmp}
use Rattle.std.specs.Cmp.Lexicographic.{slice_cmp}
use Rattle.news_types.specs.declared.command.Command.{Command}
use Rattle.news_types.specs.declared.command.Command.TheVariants.{AddUser, AddDesk, AddStage, AddCondition, AddProduct, AddScheme, AddProvider}
use Rattle.news_types.specs.Names.{Bytes, same}
use Rattle.news_types.specs.History.{History, fact_of}
use Rattle.news_types.specs.Users.{admin}
use Rattle.news_types.specs.Desks.{incoming, working, is_member}
use Rattle.news_types.specs.Filters.{Filter, filters, older}
use Rattle.news_types.specs.Products.{subscribers}
use Rattle.news_types.specs.Answers.{in_order}
use Rattle.desk_views.specs.declared.question.Register.{Register}
use Rattle.desk_views.specs.declared.question.Register.TheVariants as register

-- ---- the names of each kind, the one that was added last first

abbrev pub users_after : Command → List Bytes → List Bytes
users_after (AddUser user privileges) before = user ∷ before
users_after _ before = before

-- the empty list has one
abbrev pub users : History → List Bytes
users h = fact_of (admin ∷ []) users_after h

abbrev pub desks_after : Command → List Bytes → List Bytes
desks_after (AddDesk desk) before = desk ∷ before
desks_after _ before = before

abbrev pub desks : History → List Bytes
desks h = fact_of [] desks_after h

abbrev pub conditions_after : Command → List Bytes → List Bytes
conditions_after (AddCondition condition field op values) before = condition ∷ before
conditions_after _ before = before

abbrev pub conditions : History → List Bytes
conditions h = fact_of [] conditions_after h

abbrev pub name_in : Filter → Bytes
name_in f = f.name

abbrev pub products_after : Command → List Bytes → List Bytes
products_after (AddProduct product how filter) before = product ∷ before
products_after _ before = before

-- the empty list has one
abbrev pub products : History → List Bytes
products h = fact_of (codes "all" ∷ []) products_after h

abbrev pub schemes_after : Command → List Bytes → List Bytes
schemes_after (AddScheme scheme rules) before = scheme ∷ before
schemes_after _ before = before

abbrev pub schemes : History → List Bytes
schemes h = fact_of [] schemes_after h

abbrev pub providers_after : Command → List Bytes → List Bytes
providers_after (AddProvider provider scheme) before = provider ∷ before
providers_after _ before = before

abbrev pub providers : History → List Bytes
providers h = fact_of [] providers_after h

abbrev pub names_of : Register → History → List Bytes
names_of register.Users h = users h
names_of register.Desks h = desks h
names_of register.Conditions h = conditions h
names_of register.Filters h = map name_in (filters h)
names_of register.Products h = products h
names_of register.Subscribers h = subscribers h
names_of register.Schemes h = schemes h
names_of register.Providers h = providers h

-- ---- a page of them

-- it stands behind that name in byte order, or none is given
abbrev pub is_behind : Option Bytes → Bytes → Bool
is_behind None name = true
is_behind (Some after) name = not (is_le (slice_cmp nat_cmp name after))

-- the first hundred behind a name, in byte order
abbrev pub things : History → Register → Option Bytes → List Bytes
things h of after = take 100 (filter (is_behind after) (in_order (names_of of h)))

-- ---- what belongs to a desk, and to a filter

abbrev pub stages_after : Bytes → Command → List Bytes → List Bytes
stages_after name (AddStage desk stage) before = if same desk name then stage ∷ before else before
stages_after name _ before = before

-- the stages of a desk: the two that every desk has, and those that were added
abbrev pub stages : History → Bytes → List Bytes
stages h desk = in_order (fact_of (incoming ∷ working ∷ []) (stages_after desk) h)

-- the members of a desk
abbrev pub members : History → Bytes → List Bytes
members h desk = filter (is_member h desk) (in_order (users h))

-- the place of a filter among all, where the oldest has 1
abbrev pub filter_age : History → Bytes → ℕ
filter_age h name = length (older name (filters h)) + 1

-- the filter of that name blocks for all
abbrev pub is_block : History → Bytes → Bool
is_block h name = list_any (λ (f : Filter). by (same f.name name) f.blocks) (filters h)
  where
    by : Bool → Bool → Bool
    by true blocks = blocks
    by false blocks = false

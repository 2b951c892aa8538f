-- The names of each kind are as many as are counted, and few.
use Rattle.std.proofs.Common.{◌≡◌, ℕ, ◌+◌, ◌≤◌, List, [], ◌∷◌, length, refl, ap, ◌∙◌, arith}
use Rattle.std.specs.Prelude.{codes}
use Rattle.std.proofs.lemmas.List.{length-map}
use Rattle.news_types.specs.declared.entry.Act.{Act}
use Rattle.news_types.specs.declared.entry.Act.TheVariants.{Request}
use Rattle.news_types.specs.declared.command.Command.{Command}
use Rattle.news_types.specs.declared.command.Command.TheVariants.{AddUser, AddDesk, AddCondition, AddProduct, AddScheme, AddProvider}
use Rattle.news_types.specs.Names.{Bytes}
use Rattle.news_types.specs.History.{History, fact_of, by_command}
use Rattle.news_types.specs.Users.{admin, users_added}
use Rattle.news_types.specs.Desks.{desks_added}
use Rattle.news_types.specs.Conditions.{conditions_added}
use Rattle.news_types.specs.Filters.{filters}
use Rattle.news_types.specs.Products.{products_added}
use Rattle.news_types.specs.Routing.{schemes_added, providers_added}
use Rattle.news_types.specs.Legal.{IsLegal}
use Rattle.news_types.proofs.Limits.{users_limited, desks_limited, conditions_limited, filters_limited, products_limited, subscribers_limited, schemes_limited, providers_limited}
use Rattle.desk_views.specs.declared.question.Register.{Register}
use Rattle.desk_views.specs.declared.question.Register.TheVariants as register
use Rattle.desk_views.specs.Things.{names_of, name_in, users_after, desks_after, conditions_after, products_after, schemes_after, providers_after}
use Rattle.list_marks.specs.Limits.{count_of}

module _ (first : List Bytes) (after : Command → List Bytes → List Bytes) (added : Command → ℕ) (step : (command : Command) (names : List Bytes) → length (after command names) ≡ length names + added command) where
  counted_by : (act : Act) (names : List Bytes) (n : ℕ) → length names ≡ n → length (by_command after act names) ≡ by_command (λ command count. count + added command) act n
  counted_by (Request caller number command) names n is = step command names ∙ ap (λ (k : ℕ). k + added command) is
  counted_by _ names n is = is

  counted : (h : History) → length (fact_of first after h) ≡ fact_of (length first) (λ command count. count + added command) h
  counted [] = refl
  counted (e ∷ h) = counted_by e.act (fact_of first after h) _ (counted h)

users_step : (command : Command) (names : List Bytes) → length (users_after command names) ≡ length names + users_added command
users_step (AddUser user privileges) names = omega arith
users_step _ names = omega arith

desks_step : (command : Command) (names : List Bytes) → length (desks_after command names) ≡ length names + desks_added command
desks_step (AddDesk desk) names = omega arith
desks_step _ names = omega arith

conditions_step : (command : Command) (names : List Bytes) → length (conditions_after command names) ≡ length names + conditions_added command
conditions_step (AddCondition condition field op values) names = omega arith
conditions_step _ names = omega arith

products_step : (command : Command) (names : List Bytes) → length (products_after command names) ≡ length names + products_added command
products_step (AddProduct product how filter) names = omega arith
products_step _ names = omega arith

schemes_step : (command : Command) (names : List Bytes) → length (schemes_after command names) ≡ length names + schemes_added command
schemes_step (AddScheme scheme rules) names = omega arith
schemes_step _ names = omega arith

providers_step : (command : Command) (names : List Bytes) → length (providers_after command names) ≡ length names + providers_added command
providers_step (AddProvider provider scheme) names = omega arith
providers_step _ names = omega arith

pub as_counted : (h : History) (of : Register) → length (names_of of h) ≡ count_of h of
as_counted h register.Users = counted (admin ∷ []) users_after users_added users_step h
as_counted h register.Desks = counted [] desks_after desks_added desks_step h
as_counted h register.Conditions = counted [] conditions_after conditions_added conditions_step h
as_counted h register.Filters = length-map (filters h) name_in
as_counted h register.Products = counted (codes "all" ∷ []) products_after products_added products_step h
as_counted h register.Subscribers = refl
as_counted h register.Schemes = counted [] schemes_after schemes_added schemes_step h
as_counted h register.Providers = counted [] providers_after providers_added providers_step h

pub few : (h : History) (of : Register) → IsLegal h → count_of h of ≤ 4096
few h register.Users legal = users_limited h legal
few h register.Desks legal = omega (arith, desks_limited h legal)
few h register.Conditions legal = conditions_limited h legal
few h register.Filters legal = omega (arith, filters_limited h legal)
few h register.Products legal = omega (arith, products_limited h legal)
few h register.Subscribers legal = omega (arith, subscribers_limited h legal)
few h register.Schemes legal = omega (arith, schemes_limited h legal)
few h register.Providers legal = omega (arith, providers_limited h legal)

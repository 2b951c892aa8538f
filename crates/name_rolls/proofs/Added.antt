-- What commands do to the names of each kind.
use Rattle.std.proofs.Common.{◌≡◌, ℕ, true, false, cond, List, [], ◌∷◌, map, Some, None, refl, sym, ap, subst}
use Rattle.std.proofs.lemmas.Bool.{false≢true}
use Rattle.news_types.specs.declared.entry.Entry.{Entry}
use Rattle.news_types.specs.declared.entry.Act.{Act}
use Rattle.news_types.specs.declared.entry.Act.TheVariants.{Request}
use Rattle.news_types.specs.declared.command.Command.{Command}
use Rattle.news_types.specs.declared.command.Command.TheVariants as command
use Rattle.news_types.specs.Names.{Bytes, same}
use Rattle.news_types.specs.History.{History, by_command}
use Rattle.news_types.specs.Desks.{is_desk, desk_after}
use Rattle.news_types.specs.Filters.{Filter, filters, filters_after, changed}
use Rattle.news_types.specs.Products.{subscribers, subscribers_after}
use Rattle.news_types.proofs.Members.{none_some, some_is}
use Rattle.desk_views.specs.declared.question.Register.{Register}
use Rattle.desk_views.specs.declared.question.Register.TheVariants as register
use Rattle.desk_views.specs.Things as things
use Rattle.desk_views.specs.Things.{names_of, name_in, stages_after}
use Rattle.name_rolls.specs.declared.change.NewName.{NewName}
use Rattle.name_rolls.specs.Rolls.{same_register}
use Rattle.name_rolls.specs.Keeps.{stages_in, all_names, names_for}
use Rattle.name_rolls.specs.Steps.{added, changes_stages}

pub by_register : (P : Register → Type 0) → P register.Users → P register.Desks → P register.Conditions → P register.Filters → P register.Products → P register.Subscribers → P register.Schemes → P register.Providers → (of : Register) → P of
by_register P a b c d e f g h register.Users = a
by_register P a b c d e f g h register.Desks = b
by_register P a b c d e f g h register.Conditions = c
by_register P a b c d e f g h register.Filters = d
by_register P a b c d e f g h register.Products = e
by_register P a b c d e f g h register.Subscribers = f
by_register P a b c d e f g h register.Schemes = g
by_register P a b c d e f g h register.Providers = h

-- those that are kept are those of the list
pub all_are : (h : History) (of : Register) → names_for of (all_names h) ≡ names_of of h
all_are h = by_register _ refl refl refl refl refl refl refl refl

pub register_is : (a b : Register) → same_register a b ≡ true → a ≡ b
register_is register.Users register.Users is = refl
register_is register.Desks register.Desks is = refl
register_is register.Conditions register.Conditions is = refl
register_is register.Filters register.Filters is = refl
register_is register.Products register.Products is = refl
register_is register.Subscribers register.Subscribers is = refl
register_is register.Schemes register.Schemes is = refl
register_is register.Providers register.Providers is = refl
register_is a b is = absurd (false≢true is)

-- the names of a kind behind a command
abbrev pub after : History → Command → Register → List Bytes
after h given register.Users = things.users_after given (things.users h)
after h given register.Desks = things.desks_after given (things.desks h)
after h given register.Conditions = things.conditions_after given (things.conditions h)
after h given register.Filters = map name_in (filters_after given (filters h))
after h given register.Products = things.products_after given (things.products h)
after h given register.Subscribers = subscribers_after given (subscribers h)
after h given register.Schemes = things.schemes_after given (things.schemes h)
after h given register.Providers = things.providers_after given (things.providers h)

-- a filter that changes keeps its name
same_names : (name : Bytes) (change : Filter → Filter) → ((f : Filter) → name_in (change f) ≡ name_in f) → (fs : List Filter) → map name_in (map (changed name change) fs) ≡ map name_in fs
same_names name change keeps [] = refl
same_names name change keeps (f ∷ fs) =
    let first : name_in (changed name change f) ≡ name_in f = elim (same f.name name) as (λ b. name_in (cond b (change f) f) ≡ name_in f) [ true ↦ keeps f | false ↦ refl ] in
    rw first (ap (λ ns. name_in f ∷ ns) (same_names name change keeps fs))

-- one more name of one kind
abbrev pub with_name : History → NewName → Register → List Bytes
with_name h new of = cond (same_register new.of of) (new.name ∷ names_of of h) (names_of of h)

module _ (h : History) where
  one : (given : Command) (new new' : NewName) → Some new ≡ Some new' → ((of : Register) → after h given of ≡ with_name h new of) → (of : Register) → after h given of ≡ with_name h new' of
  one given new new' is all of = subst (λ n. after h given of ≡ with_name h n of) (some_is new new' is) (all of)

  pub added_after : (given : Command) (new : NewName) → added given ≡ Some new → (of : Register) → after h given of ≡ with_name h new of
  added_after (command.AddUser user privileges) new is = one (command.AddUser user privileges) _ new is (by_register _ refl refl refl refl refl refl refl refl)
  added_after (command.AddCondition condition field op values) new is = one (command.AddCondition condition field op values) _ new is (by_register _ refl refl refl refl refl refl refl refl)
  added_after (command.AddFilter filter statements) new is = one (command.AddFilter filter statements) _ new is (by_register _ refl refl refl refl refl refl refl refl)
  added_after (command.AddProduct product how filter) new is = one (command.AddProduct product how filter) _ new is (by_register _ refl refl refl refl refl refl refl refl)
  added_after (command.AddSubscriber subscriber format products lag) new is = one (command.AddSubscriber subscriber format products lag) _ new is (by_register _ refl refl refl refl refl refl refl refl)
  added_after (command.AddScheme scheme rules) new is = one (command.AddScheme scheme rules) _ new is (by_register _ refl refl refl refl refl refl refl refl)
  added_after (command.AddProvider provider scheme) new is = one (command.AddProvider provider scheme) _ new is (by_register _ refl refl refl refl refl refl refl refl)
  added_after _ new is = absurd (none_some new is)

  none_is : {A : Type 0} (x : A) → Some x ≡ None → ⊥
  none_is x is = none_some x (sym is)

  abbrev Stays : Command → Type 0
  Stays given = (of : Register) → after h given of ≡ names_of of h

  pub none_after : (given : Command) → added given ≡ None → changes_stages given ≡ false → Stays given
  none_after (command.AddDesk desk) is other = absurd (false≢true (sym other))
  none_after (command.AddUser user privileges) is other = absurd (none_is _ is)
  none_after (command.AddCondition condition field op values) is other = absurd (none_is _ is)
  none_after (command.AddFilter filter statements) is other = absurd (none_is _ is)
  none_after (command.AddProduct product how filter) is other = absurd (none_is _ is)
  none_after (command.AddSubscriber subscriber format products lag) is other = absurd (none_is _ is)
  none_after (command.AddScheme scheme rules) is other = absurd (none_is _ is)
  none_after (command.AddProvider provider scheme) is other = absurd (none_is _ is)
  none_after (command.SetFilter filter statements) is other = by_register _ refl refl refl (same_names filter _ (λ f. refl) (filters h)) refl refl refl refl
  none_after (command.SetBlock filter on) is other = by_register _ refl refl refl (same_names filter _ (λ f. refl) (filters h)) refl refl refl refl
  none_after _ is other = by_register _ refl refl refl refl refl refl refl refl

  pub desk_added_after : (desk : Bytes) (of : Register) → same_register register.Desks of ≡ false → after h (command.AddDesk desk) of ≡ names_of of h
  desk_added_after desk register.Desks isnt = absurd (false≢true (sym isnt))
  desk_added_after desk register.Users isnt = refl
  desk_added_after desk register.Conditions isnt = refl
  desk_added_after desk register.Filters isnt = refl
  desk_added_after desk register.Products isnt = refl
  desk_added_after desk register.Subscribers isnt = refl
  desk_added_after desk register.Schemes isnt = refl
  desk_added_after desk register.Providers isnt = refl

  pub stage_added_after : (desk stage : Bytes) → Stays (command.AddStage desk stage)
  stage_added_after desk stage = by_register _ refl refl refl refl refl refl refl refl

  pub desks_stay : (given : Command) → changes_stages given ≡ false → (name : Bytes) → desk_after name given (is_desk h name) ≡ is_desk h name
  desks_stay (command.AddDesk desk) other name = absurd (false≢true (sym other))
  desks_stay _ other name = refl

  pub stages_stay : (given : Command) → changes_stages given ≡ false → (name : Bytes) → stages_after name given (stages_in h name) ≡ stages_in h name
  stages_stay (command.AddStage desk stage) other name = absurd (false≢true (sym other))
  stages_stay _ other name = refl

  -- ---- the same of the list with a request

  module _ (e : Entry) (caller : Bytes) (number : ℕ) (given : Command) (act : e.act ≡ Request caller number given) where
    behind : {A : Type 0} (f : Command → A → A) (x : A) → by_command f e.act x ≡ f given x
    behind f x = ap (λ (a : Act). by_command f a x) act

    pub names_behind : (of : Register) → names_of of (e ∷ h) ≡ after h given of
    names_behind register.Users = behind things.users_after (things.users h)
    names_behind register.Desks = behind things.desks_after (things.desks h)
    names_behind register.Conditions = behind things.conditions_after (things.conditions h)
    names_behind register.Filters = ap (map name_in) (behind filters_after (filters h))
    names_behind register.Products = behind things.products_after (things.products h)
    names_behind register.Subscribers = behind subscribers_after (subscribers h)
    names_behind register.Schemes = behind things.schemes_after (things.schemes h)
    names_behind register.Providers = behind things.providers_after (things.providers h)

    pub desk_behind : (name : Bytes) → is_desk (e ∷ h) name ≡ desk_after name given (is_desk h name)
    desk_behind name = behind (desk_after name) (is_desk h name)

    pub stages_behind : (name : Bytes) → stages_in (e ∷ h) name ≡ stages_after name given (stages_in h name)
    stages_behind name = behind (stages_after name) (stages_in h name)

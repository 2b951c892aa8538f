-- The users, desks and stages that a command names and that are not there.
use Rattle.std.proofs.Common.{◌≡◌, ℕ, ◌+◌, ◌<◌, Bool, true, false, cond, List, [], ◌∷◌, ◌++◌, length, get_or, drop, Option, Some, None, is_some, refl, sym, ap, ◌∙◌}
use Rattle.std.proofs.lemmas.Bool.{false≢true}
use Rattle.std.proofs.lemmas.List.{at_drop_more}
use Rattle.std.specs.List.{filter, flat_map}
use Rattle.news_types.specs.declared.command.Command.{Command}
use Rattle.news_types.specs.declared.command.Command.TheVariants.{AddUser, SetUser, AddDesk, AddStage, SetMember, AddCondition, AddFilter, SetFilter, SetBlock, AddProduct, SetProduct, AddSubscriber, SetSubscriber, Resume, AddScheme, AddProvider, Create, Flash, Lock, Unlock, BreakLock, Edit, MoveTo, Spike, Unspike, Fetch, Publish, Correct, Kill, Recall, Deschedule, Stop}
use Rattle.news_types.specs.declared.words.Thing.{Thing}
use Rattle.news_types.specs.declared.words.Thing.TheVariants as thing
use Rattle.news_types.specs.declared.rules.Place.{Place}
use Rattle.news_types.specs.declared.rules.Rule.{Rule}
use Rattle.news_types.specs.declared.rules.Statement.{Statement}
use Rattle.news_types.specs.declared.denial.Denial.{Denial}
use Rattle.news_types.specs.Names.{Bytes}
use Rattle.news_types.specs.History.{History}
use Rattle.news_types.specs.Desks.{is_desk, is_stage}
use Rattle.news_types.specs.Filters.{is_filter}
use Rattle.news_types.specs.Products.{is_subscriber}
use Rattle.news_types.specs.Routing.{scheme}
use Rattle.news_types.specs.Publications.{item}
use Rattle.news_types.specs.Denial.{or_else, absent, absent_of, absent_if_given, absent_item, absent_in_place, absent_in_fetch, absent_in_rule, absent_in_statement, first_missing, is_condition_there, is_filter_or, is_product}
use Rattle.desk_rules.specs.Asked.{is_of_desks, knows_denial}

pub or_none : (o : Option Denial) → or_else o None ≡ o
or_none None = refl
or_none (Some denial) = refl

-- ---- what is of desks, and what is not

pub filter_append : (xs ys : List Thing) → filter is_of_desks (xs ++ ys) ≡ filter is_of_desks xs ++ filter is_of_desks ys
filter_append [] ys = refl
filter_append (x ∷ xs) ys =
    elim (is_of_desks x) as (λ b. cond b (x ∷ filter is_of_desks (xs ++ ys)) (filter is_of_desks (xs ++ ys)) ≡ cond b (x ∷ filter is_of_desks xs) (filter is_of_desks xs) ++ filter is_of_desks ys) [
      | true ↦ ap (λ zs. x ∷ zs) (filter_append xs ys)
      | false ↦ filter_append xs ys
    ]

none_both : (xs ys : List Thing) → filter is_of_desks xs ≡ [] → filter is_of_desks ys ≡ [] → filter is_of_desks (xs ++ ys) ≡ []
none_both xs ys one two = rw (filter_append xs ys, one, two) refl

module _ (what : Thing) (other : is_of_desks what ≡ false) where
  pub absent_other : (there : Bool) → filter is_of_desks (absent there what) ≡ []
  absent_other true = refl
  absent_other false = rw other refl

  pub all_other : (is_there : Bytes → Bool) (names : List Bytes) → filter is_of_desks (absent_of is_there what names) ≡ []
  all_other is_there [] = refl
  all_other is_there (name ∷ names) = none_both (absent (is_there name) what) (absent_of is_there what names) (absent_other (is_there name)) (all_other is_there names)

  pub given_other : (is_there : Bytes → Bool) (name : Option Bytes) → filter is_of_desks (absent_if_given is_there what name) ≡ []
  given_other is_there None = refl
  given_other is_there (Some name) = absent_other (is_there name)

pub absent_place : (h : History) (desk stage : Bytes) → filter is_of_desks (absent_in_place h desk stage) ≡ absent_in_place h desk stage
absent_place h desk stage =
    elim (is_desk h desk) as (λ a. filter is_of_desks (absent a thing.Desk ++ absent (is_stage h desk stage) thing.Stage) ≡ absent a thing.Desk ++ absent (is_stage h desk stage) thing.Stage) [
      | true ↦ elim (is_stage h desk stage) as (λ b. filter is_of_desks (absent b thing.Stage) ≡ absent b thing.Stage) [ true ↦ refl | false ↦ refl ]
      | false ↦ ap (λ zs. thing.Desk ∷ zs) (elim (is_stage h desk stage) as (λ b. filter is_of_desks (absent b thing.Stage) ≡ absent b thing.Stage) [ true ↦ refl | false ↦ refl ])
    ]

pub absent_move : (h : History) (i : ℕ) (desk stage : Bytes) → filter is_of_desks (absent_item h i ++ absent_in_place h desk stage) ≡ absent_in_place h desk stage
absent_move h i desk stage = rw (filter_append (absent_item h i) (absent_in_place h desk stage), absent_other thing.Item refl (is_some (item h i)), absent_place h desk stage) refl

-- ---- statements

statements_other : (h : History) (self : Bytes) (statements : List Statement) → filter is_of_desks (flat_map (absent_in_statement h self) statements) ≡ []
statements_other h self [] = refl
statements_other h self (st ∷ statements) =
    let is_condition : Bytes → Bool = is_condition_there h in
    let is_one : Bytes → Bool = is_filter_or h self in
    none_both (absent_in_statement h self st) (flat_map (absent_in_statement h self) statements)
    (none_both (absent_of is_condition thing.Condition st.conditions) (absent_of is_one thing.Filter st.filters) (all_other thing.Condition refl is_condition st.conditions) (all_other thing.Filter refl is_one st.filters))
    (statements_other h self statements)

-- ---- rules

absent_fetch : (h : History) (fetch : Option Place) → filter is_of_desks (absent_in_fetch h fetch) ≡ absent_in_fetch h fetch
absent_fetch h None = refl
absent_fetch h (Some place) = absent_place h place.desk place.stage

absent_rule : (h : History) (rule : Rule) → filter is_of_desks (absent_in_rule h rule) ≡ absent_in_fetch h rule.fetch
absent_rule h rule =
    rw (filter_append (absent_if_given (is_filter h) thing.Filter rule.filter) (absent_in_fetch h rule.fetch), given_other thing.Filter refl (is_filter h) rule.filter) (absent_fetch h rule.fetch)

front : (xs ys : List Thing) (denial : Denial) → Some denial ≡ first_missing xs → Some denial ≡ first_missing (xs ++ ys)
front [] ys denial is = cc
front (x ∷ xs) ys denial is = is

back : (xs ys : List Thing) → None ≡ first_missing xs → first_missing (xs ++ ys) ≡ first_missing ys
back [] ys is = refl
back (x ∷ xs) ys is = cc

module _ (h : History) (rules : List Rule) (i : ℕ) (rule : Rule) where
  abbrev pub named : List Rule → List Thing
  named rs = filter is_of_desks (flat_map (absent_in_rule h) rs)

  at_rule : i < length rules → rule ≡ get_or rules i rule → first_missing (named (drop i rules)) ≡ first_missing (absent_in_fetch h rule.fetch ++ named (drop (i + 1) rules))
  at_rule lt is =
      at_drop_more (λ rs. first_missing (named rs)) rules i rule lt
      ∙ rw (← is, filter_append (absent_in_rule h rule) (flat_map (absent_in_rule h) (drop (i + 1) rules)), absent_rule h rule) refl

  pub step_over : i < length rules → rule ≡ get_or rules i rule → None ≡ first_missing (absent_in_fetch h rule.fetch) → first_missing (named (drop (i + 1) rules)) ≡ first_missing (named (drop i rules))
  step_over lt is none = sym (at_rule lt is ∙ back (absent_in_fetch h rule.fetch) (named (drop (i + 1) rules)) none)

  pub stop_at : (denial : Denial) → i < length rules → rule ≡ get_or rules i rule → Some denial ≡ first_missing (absent_in_fetch h rule.fetch) → Some denial ≡ first_missing (named (drop i rules))
  stop_at denial lt is some = front (absent_in_fetch h rule.fetch) (named (drop (i + 1) rules)) denial some ∙ sym (at_rule lt is)

-- ---- commands that name none of them

-- the command names a user, a desk or a stage, or adds one
abbrev pub is_asked : Command → Bool
is_asked (AddUser user privileges) = true
is_asked (SetUser user privileges) = true
is_asked (AddDesk desk) = true
is_asked (AddStage desk stage) = true
is_asked (SetMember desk user member) = true
is_asked (AddScheme name rules) = true
is_asked (Create desk story) = true
is_asked (MoveTo i desk stage) = true
is_asked (Unspike i desk) = true
is_asked (Fetch i desk) = true
is_asked _ = false

said : (things : List Thing) → things ≡ [] → None ≡ or_else (first_missing things) None
said things none = rw none refl

item_other : (h : History) (i : ℕ) → filter is_of_desks (absent_item h i) ≡ []
item_other h i = absent_other thing.Item refl (is_some (item h i))

filter_other : (h : History) (name : Bytes) → filter is_of_desks (absent (is_filter h name) thing.Filter) ≡ []
filter_other h name = absent_other thing.Filter refl (is_filter h name)

-- it is not denied for any
pub none_named : (h : History) (command : Command) → is_asked command ≡ false → None ≡ knows_denial h command
none_named h (AddUser user privileges) is = absurd (false≢true (sym is))
none_named h (SetUser user privileges) is = absurd (false≢true (sym is))
none_named h (AddDesk desk) is = absurd (false≢true (sym is))
none_named h (AddStage desk stage) is = absurd (false≢true (sym is))
none_named h (SetMember desk user member) is = absurd (false≢true (sym is))
none_named h (AddScheme name rules) is = absurd (false≢true (sym is))
none_named h (Create desk story) is = absurd (false≢true (sym is))
none_named h (MoveTo i desk stage) is = absurd (false≢true (sym is))
none_named h (Unspike i desk) is = absurd (false≢true (sym is))
none_named h (Fetch i desk) is = absurd (false≢true (sym is))
none_named h (AddCondition name field op values) is = refl
none_named h (AddFilter name statements) is = said _ (statements_other h name statements)
none_named h (SetFilter name statements) is = said _ (none_both (absent (is_filter h name) thing.Filter) (flat_map (absent_in_statement h name) statements) (filter_other h name) (statements_other h name statements))
none_named h (SetBlock name on) is = said _ (filter_other h name)
none_named h (AddProduct name how given) is = said _ (given_other thing.Filter refl (is_filter h) given)
none_named h (SetProduct name how given) is =
    said _ (none_both (absent (is_product h name) thing.Product) (absent_if_given (is_filter h) thing.Filter given) (absent_other thing.Product refl (is_product h name)) (given_other thing.Filter refl (is_filter h) given))
none_named h (AddSubscriber name format products lag) is = said _ (all_other thing.Product refl (is_product h) products)
none_named h (SetSubscriber name active products off lag) is =
    let first : filter is_of_desks (absent (is_subscriber h name) thing.Subscriber ++ absent_of (is_product h) thing.Product products) ≡ [] =
    none_both (absent (is_subscriber h name) thing.Subscriber) (absent_of (is_product h) thing.Product products) (absent_other thing.Subscriber refl (is_subscriber h name)) (all_other thing.Product refl (is_product h) products) in
    said _ (none_both (absent (is_subscriber h name) thing.Subscriber ++ absent_of (is_product h) thing.Product products) (absent_of (is_filter h) thing.Filter off) first (all_other thing.Filter refl (is_filter h) off))
none_named h (Resume name) is = said _ (absent_other thing.Subscriber refl (is_subscriber h name))
none_named h (AddProvider name given) is = said _ (given_other thing.Scheme refl (λ other. is_some (scheme h other)) given)
none_named h (Flash story targets) is = said _ (all_other thing.Subscriber refl (is_subscriber h) targets)
none_named h (Publish i session schedule embargo targets) is =
    said _ (none_both (absent_item h i) (absent_of (is_subscriber h) thing.Subscriber targets) (item_other h i) (all_other thing.Subscriber refl (is_subscriber h) targets))
none_named h Stop is = refl
none_named h (Lock i session) is = said _ (item_other h i)
none_named h (Unlock i session) is = said _ (item_other h i)
none_named h (BreakLock i) is = said _ (item_other h i)
none_named h (Edit i session story) is = said _ (item_other h i)
none_named h (Spike i) is = said _ (item_other h i)
none_named h (Correct i session story) is = said _ (item_other h i)
none_named h (Kill i session note) is = said _ (item_other h i)
none_named h (Recall i session note) is = said _ (item_other h i)
none_named h (Deschedule i) is = said _ (item_other h i)

-- In a legal list no name of a kind stands twice.
use Rattle.std.proofs.Common.{◌≡◌, ℕ, Bool, true, false, ◌||◌, cond, Option, Some, None, List, [], ◌∷◌, map, refl, sym, ap, ◌∙◌}
use Rattle.std.specs.Prelude.{is_some, codes}
use Rattle.std.proofs.lemmas.Bool.{false≢true}
use Rattle.news_types.specs.declared.entry.Act.{Act}
use Rattle.news_types.specs.declared.entry.Act.TheVariants.{Request}
use Rattle.news_types.specs.declared.command.Command.{Command}
use Rattle.news_types.specs.declared.command.Command.TheVariants.{AddUser, SetUser, AddDesk, AddCondition, AddFilter, SetFilter, SetBlock, AddProduct, SetProduct, AddSubscriber, AddScheme, AddProvider}
use Rattle.news_types.specs.declared.words.Privileges.{Privileges}
use Rattle.news_types.specs.declared.rules.Rule.{Rule}
use Rattle.news_types.specs.Names.{Bytes, same, is_in}
use Rattle.news_types.specs.History.{History, fact_of, by_command}
use Rattle.news_types.specs.Users.{admin, first_privileges, privileges_after}
use Rattle.news_types.specs.Desks.{desk_after}
use Rattle.news_types.specs.Conditions.{Condition, condition_after}
use Rattle.news_types.specs.Filters.{Filter, filters, filters_after, changed, has_filter}
use Rattle.news_types.specs.Products.{Product, first_product, product, product_after, subscribers_after}
use Rattle.news_types.specs.Routing.{Provider, scheme_after, provider_after}
use Rattle.news_types.specs.Denial.{is_taken}
use Rattle.news_types.specs.Legal.{IsLegal, Follows}
use Rattle.news_types.proofs.Subscribed.{same_turned, listed_is, not_taken}
use Rattle.desk_views.specs.declared.question.Register.{Register}
use Rattle.desk_views.specs.declared.question.Register.TheVariants as register
use Rattle.desk_views.specs.Things.{names_of, name_in, users_after, desks_after, conditions_after, products_after, schemes_after, providers_after}
use Rattle.list_marks.proofs.Order.{AreApart}

-- ---- names that commands add

module _ (first : List Bytes) (after : Command → List Bytes → List Bytes) (begins : AreApart first)
    (step : (h : History) (command : Command) → is_taken h command ≡ false → AreApart (fact_of first after h) → AreApart (after command (fact_of first after h))) where
  apart_by : (h : History) (act : Act) (m : ℕ) → Follows h act m → AreApart (fact_of first after h) → AreApart (by_command after act (fact_of first after h))
  apart_by h (Request caller number command) m follows apart = step h command (not_taken h caller number command m follows.1) apart
  apart_by h _ m follows apart = apart

  apart : (h : History) → IsLegal h → AreApart (fact_of first after h)
  apart [] legal = begins
  apart (e ∷ h) legal = apart_by h e.act e.moment legal.2 (apart h legal.0)

-- what is there for each name that is listed
module _ {A : Type 0} (is : A → Bool) (first : List Bytes) (after : Command → List Bytes → List Bytes) (start : A) (then : Command → A → A) (name : Bytes) where
  abbrev IsThere : List Bytes → A → Type 0
  IsThere names a = is_in name names ≡ true → is a ≡ true

  module _ (begins : IsThere first start) (step : (command : Command) (names : List Bytes) (a : A) → IsThere names a → IsThere (after command names) (then command a)) where
    there_by : (act : Act) (names : List Bytes) (a : A) → IsThere names a → IsThere (by_command after act names) (by_command then act a)
    there_by (Request caller number command) names a there = step command names a there
    there_by _ names a there = there

    there : (h : History) → IsThere (fact_of first after h) (fact_of start then h)
    there [] = begins
    there (e ∷ h) = there_by e.act (fact_of first after h) (fact_of start then h) (there h)

    -- a name for which nothing is there is not listed
    new_name : (h : History) → is (fact_of start then h) ≡ false → is_in name (fact_of first after h) ≡ false
    new_name h none = by (is_in name (fact_of first after h)) refl
      where
        by : (b : Bool) → is_in name (fact_of first after h) ≡ b → b ≡ false
        by true listed = absurd (false≢true (sym none ∙ there h listed))
        by false listed = refl

-- one more name
added_there : {A : Type 0} (name other : Bytes) (names : List Bytes) (x : A) (before : Option A) → (is_in name names ≡ true → is_some before ≡ true)
    → (same name other || is_in name names) ≡ true → is_some (cond (same other name) (Some x) before) ≡ true
added_there name other names x before there listed = by (same other name) (sym (same_turned name other))
  where
    by : (b : Bool) → b ≡ same name other → is_some (cond b (Some x) before) ≡ true
    by true is = refl
    by false is = there (ap (λ (c : Bool). c || is_in name names) is ∙ listed)

-- one that is changed
set_there : {A : Type 0} (b : Bool) (x : A) (before : Option A) → is_some before ≡ true → is_some (cond b (Some x) before) ≡ true
set_there true x before there = refl
set_there false x before there = there

-- the one that the empty list has
first_there : {A : Type 0} (b : Bool) (x : A) → (b || false) ≡ true → is_some (cond b (Some x) None) ≡ true
first_there true x is = refl
first_there false x is = absurd (false≢true is)

none_listed : (b : Bool) → false ≡ true → b ≡ true
none_listed b is = absurd (false≢true is)

-- ---- each kind

users_there : (name : Bytes) (command : Command) (names : List Bytes) (before : Option Privileges) → (is_in name names ≡ true → is_some before ≡ true)
    → is_in name (users_after command names) ≡ true → is_some (privileges_after name command before) ≡ true
users_there name (AddUser user given) names before there listed = added_there name user names given before there listed
users_there name (SetUser user given) names before there listed = set_there (same user name) given before (there listed)
users_there name _ names before there listed = there listed

users_step : (h : History) (command : Command) → is_taken h command ≡ false → AreApart (names_of register.Users h) → AreApart (users_after command (names_of register.Users h))
users_step h (AddUser user given) new apart =
    (new_name is_some (admin ∷ []) users_after (first_privileges user) (privileges_after user) user (first_there (same user admin) _) (users_there user) h new, apart)
users_step h _ new apart = apart

desks_there : (name : Bytes) (command : Command) (names : List Bytes) (before : Bool) → (is_in name names ≡ true → before ≡ true) → is_in name (desks_after command names) ≡ true → desk_after name command before ≡ true
desks_there name (AddDesk desk) names before there listed = by (same desk name) (sym (same_turned name desk))
  where
    by : (b : Bool) → b ≡ same name desk → (b || before) ≡ true
    by true is = refl
    by false is = there (ap (λ (c : Bool). c || is_in name names) is ∙ listed)
desks_there name _ names before there listed = there listed

desks_step : (h : History) (command : Command) → is_taken h command ≡ false → AreApart (names_of register.Desks h) → AreApart (desks_after command (names_of register.Desks h))
desks_step h (AddDesk desk) new apart = (new_name (λ (b : Bool). b) [] desks_after false (desk_after desk) desk (none_listed _) (desks_there desk) h new, apart)
desks_step h _ new apart = apart

conditions_there : (name : Bytes) (command : Command) (names : List Bytes) (before : Option Condition) → (is_in name names ≡ true → is_some before ≡ true)
    → is_in name (conditions_after command names) ≡ true → is_some (condition_after name command before) ≡ true
conditions_there name (AddCondition other field op values) names before there listed = added_there name other names (record { field = field; op = op; values = values }) before there listed
conditions_there name _ names before there listed = there listed

conditions_step : (h : History) (command : Command) → is_taken h command ≡ false → AreApart (names_of register.Conditions h) → AreApart (conditions_after command (names_of register.Conditions h))
conditions_step h (AddCondition name field op values) new apart = (new_name is_some [] conditions_after None (condition_after name) name (none_listed _) (conditions_there name) h new, apart)
conditions_step h _ new apart = apart

products_there : (name : Bytes) (command : Command) (names : List Bytes) (before : Option Product) → (is_in name names ≡ true → is_some before ≡ true)
    → is_in name (products_after command names) ≡ true → is_some (product_after name command before) ≡ true
products_there name (AddProduct product how filter) names before there listed = added_there name product names (record { how = how; filter = filter }) before there listed
products_there name (SetProduct product how filter) names before there listed = set_there (same product name) (record { how = how; filter = filter }) before (there listed)
products_there name _ names before there listed = there listed

products_step : (h : History) (command : Command) → is_taken h command ≡ false → AreApart (names_of register.Products h) → AreApart (products_after command (names_of register.Products h))
products_step h (AddProduct name how filter) new apart =
    (new_name is_some (codes "all" ∷ []) products_after (first_product name) (product_after name) name (first_there (same name (codes "all")) _) (products_there name) h new, apart)
products_step h _ new apart = apart

schemes_there : (name : Bytes) (command : Command) (names : List Bytes) (before : Option (List Rule)) → (is_in name names ≡ true → is_some before ≡ true)
    → is_in name (schemes_after command names) ≡ true → is_some (scheme_after name command before) ≡ true
schemes_there name (AddScheme other rules) names before there listed = added_there name other names rules before there listed
schemes_there name _ names before there listed = there listed

schemes_step : (h : History) (command : Command) → is_taken h command ≡ false → AreApart (names_of register.Schemes h) → AreApart (schemes_after command (names_of register.Schemes h))
schemes_step h (AddScheme name rules) new apart = (new_name is_some [] schemes_after None (scheme_after name) name (none_listed _) (schemes_there name) h new, apart)
schemes_step h _ new apart = apart

providers_there : (name : Bytes) (command : Command) (names : List Bytes) (before : Option Provider) → (is_in name names ≡ true → is_some before ≡ true)
    → is_in name (providers_after command names) ≡ true → is_some (provider_after name command before) ≡ true
providers_there name (AddProvider other given) names before there listed = added_there name other names (record { scheme = given }) before there listed
providers_there name _ names before there listed = there listed

providers_step : (h : History) (command : Command) → is_taken h command ≡ false → AreApart (names_of register.Providers h) → AreApart (providers_after command (names_of register.Providers h))
providers_step h (AddProvider name given) new apart = (new_name is_some [] providers_after None (provider_after name) name (none_listed _) (providers_there name) h new, apart)
providers_step h _ new apart = apart

subscribers_step : (h : History) (command : Command) → is_taken h command ≡ false → AreApart (names_of register.Subscribers h) → AreApart (subscribers_after command (names_of register.Subscribers h))
subscribers_step h (AddSubscriber name format products lag) new apart = (listed_is h name ∙ new, apart)
subscribers_step h _ new apart = apart

-- ---- filters

in_names : (name : Bytes) (fs : List Filter) → is_in name (map name_in fs) ≡ has_filter name fs
in_names name [] = refl
in_names name (f ∷ fs) = ap (λ (b : Bool). b || is_in name (map name_in fs)) (same_turned name f.name) ∙ ap (λ (b : Bool). same f.name name || b) (in_names name fs)

-- a filter that changes keeps its name
same_names : (name : Bytes) (change : Filter → Filter) → ((f : Filter) → name_in (change f) ≡ name_in f) → (fs : List Filter) → map name_in (map (changed name change) fs) ≡ map name_in fs
same_names name change keeps [] = refl
same_names name change keeps (f ∷ fs) =
    let first : name_in (changed name change f) ≡ name_in f = elim (same f.name name) as (λ b. name_in (cond b (change f) f) ≡ name_in f) [ true ↦ keeps f | false ↦ refl ] in
    rw first (ap (λ (ns : List Bytes). name_in f ∷ ns) (same_names name change keeps fs))

filters_step : (h : History) (command : Command) → is_taken h command ≡ false → AreApart (map name_in (filters h)) → AreApart (map name_in (filters_after command (filters h)))
filters_step h (AddFilter name statements) new apart = (in_names name (filters h) ∙ new, apart)
filters_step h (SetFilter name statements) new apart = rw (same_names name (λ f. record f { statements = statements }) (λ f. refl) (filters h)) apart
filters_step h (SetBlock name on) new apart = rw (same_names name (λ f. record f { blocks = on }) (λ f. refl) (filters h)) apart
filters_step h _ new apart = apart

filters_by : (h : History) (act : Act) (m : ℕ) → Follows h act m → AreApart (map name_in (filters h)) → AreApart (map name_in (by_command filters_after act (filters h)))
filters_by h (Request caller number command) m follows apart = filters_step h command (not_taken h caller number command m follows.1) apart
filters_by h _ m follows apart = apart

filters_apart : (h : History) → IsLegal h → AreApart (map name_in (filters h))
filters_apart [] legal = tt
filters_apart (e ∷ h) legal = filters_by h e.act e.moment legal.2 (filters_apart h legal.0)

-- ---- all kinds

pub are_apart : (h : History) (of : Register) → IsLegal h → AreApart (names_of of h)
are_apart h register.Users legal = apart (admin ∷ []) users_after (refl, tt) users_step h legal
are_apart h register.Desks legal = apart [] desks_after tt desks_step h legal
are_apart h register.Conditions legal = apart [] conditions_after tt conditions_step h legal
are_apart h register.Filters legal = filters_apart h legal
are_apart h register.Products legal = apart (codes "all" ∷ []) products_after (refl, tt) products_step h legal
are_apart h register.Subscribers legal = apart [] subscribers_after tt subscribers_step h legal
are_apart h register.Schemes legal = apart [] schemes_after tt schemes_step h legal
are_apart h register.Providers legal = apart [] providers_after tt providers_step h legal

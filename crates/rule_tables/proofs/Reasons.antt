-- The reasons of each table are those of the list.
use Rattle.std.proofs.Common.{◌≡◌, ℕ, Bool, true, false, not, ◌&&◌, List, [], ◌∷◌, ◌++◌, Option, Some, None, is_some, refl, sym, ap, ◌∙◌}
use Rattle.std.specs.List.{filter}
use Rattle.std.specs.Prelude.{flat_map}
use Rattle.std.proofs.lemmas.Bool.{false≢true}
use Rattle.news_types.specs.declared.command.Command.{Command}
use Rattle.news_types.specs.declared.command.Command.TheVariants.{AddUser, SetUser, AddDesk, AddStage, SetMember, AddCondition, AddFilter, SetFilter, SetBlock, AddProduct, SetProduct, AddSubscriber, SetSubscriber, AddScheme, AddProvider}
use Rattle.news_types.specs.declared.words.Thing.{Thing}
use Rattle.news_types.specs.declared.words.Thing.TheVariants as thing
use Rattle.news_types.specs.declared.denial.Denial.{Denial}
use Rattle.news_types.specs.declared.denial.Denial.TheVariants.{UnknownThing, NameTaken, BadOperand}
use Rattle.news_types.specs.declared.rules.Rule.{Rule}
use Rattle.news_types.specs.Names.{Bytes}
use Rattle.news_types.specs.History.{History}
use Rattle.news_types.specs.Users.{is_user, user_count}
use Rattle.news_types.specs.Desks.{is_desk, is_stage, desk_count, stage_count}
use Rattle.news_types.specs.Conditions.{condition, condition_count}
use Rattle.news_types.specs.Filters.{filters}
use Rattle.news_types.specs.Routing.{scheme, scheme_count, provider, provider_count, is_scheme}
use Rattle.news_types.specs.Denial.{unless, or_else, absent, absent_in_rule, absent_if_given, first_missing, missing, is_taken, operand_denial, full}
use Rattle.news_types.proofs.Members.{none_some}
use Rattle.news_types.proofs.Legal.{holds_unless}
use Rattle.desk_rules.specs.Asked.{is_of_desks, adds_one, knows_denial, full_denial}
use Rattle.content_filters.specs.Reasons.{filter_operand, filter_denial, denial_by}
use Rattle.content_filters.proofs.Facts.{by_list}
use Rattle.products.specs.Asked.{is_asked, judge_denial}
use Rattle.name_rolls.specs.Steps.{Finds}
use Rattle.rule_tables.specs.Asked.{is_desk_command, IsAllowed}
use Rattle.rule_tables.specs.Sources.{IsNew}

pub or_none : (o : Option Denial) → or_else o None ≡ o
or_none None = refl
or_none (Some d) = refl

-- ---- desks

abbrev pub by_desks : History → Command → Option Denial
by_desks h command = or_else (knows_denial h command) (full_denial h command)

desk_then : (a : Bool) (next limit : Option Denial) → or_else (or_else (first_missing (filter is_of_desks (absent a thing.Desk))) next) limit ≡ or_else (first_missing (absent a thing.Desk)) (or_else next (or_else limit None))
desk_then true next limit = ap (or_else next) (sym (or_none limit))
desk_then false next limit = refl

pub desks_by : (h : History) (command : Command) → is_desk_command command ≡ true → by_desks h command ≡ denial_by h command
desks_by h (AddUser user given) is = ap (or_else (unless (not (is_user h user)) NameTaken)) (sym (or_none (full thing.User (user_count h))))
desks_by h (SetUser user given) is = elim (is_user h user) as (λ b. or_else (or_else (first_missing (filter is_of_desks (absent b thing.User))) None) None ≡ or_else (first_missing (absent b thing.User)) None) [ true ↦ refl | false ↦ refl ]
desks_by h (AddDesk desk) is = ap (or_else (unless (not (is_desk h desk)) NameTaken)) (sym (or_none (full thing.Desk (desk_count h))))
desks_by h (AddStage desk stage) is = desk_then (is_desk h desk) (unless (not (is_stage h desk stage)) NameTaken) (full thing.Stage (stage_count h desk))
desks_by h (SetMember desk user member) is =
    elim (is_desk h desk) as (λ a. or_else (or_else (first_missing (filter is_of_desks (absent a thing.Desk ++ absent (is_user h user) thing.User))) None) None ≡ or_else (first_missing (absent a thing.Desk ++ absent (is_user h user) thing.User)) None) [
      | true ↦ elim (is_user h user) as (λ b. or_else (or_else (first_missing (filter is_of_desks (absent b thing.User))) None) None ≡ or_else (first_missing (absent b thing.User)) None) [ true ↦ refl | false ↦ refl ]
      | false ↦ refl
    ]
desks_by h _ is = absurd (false≢true is)

-- ---- products

pub products_by : (h : History) (command : Command) → is_asked command ≡ true → judge_denial h command ≡ denial_by h command
products_by h (AddProduct product how filter) is = refl
products_by h (SetProduct product how filter) is = refl
products_by h (AddSubscriber subscriber format products lag) is = refl
products_by h (SetSubscriber subscriber active products off lag) is = refl
products_by h _ is = absurd (false≢true is)

-- ---- what is allowed

none_missing : (things : List Thing) → first_missing things ≡ None → things ≡ []
none_missing [] is = refl
none_missing (what ∷ things) is = absurd (none_some (UnknownThing what) (sym is))

not_taken : (b : Bool) → unless (not b) NameTaken ≡ None → b ≡ false
not_taken false is = refl
not_taken true is = absurd (none_some NameTaken (sym is))

and_false : (a : Bool) → (a && false) ≡ false
and_false true = refl
and_false false = refl

module _ (h : History) (command : Command) (allowed : IsAllowed h command) where
  pub knows_allowed : knows_denial h command ≡ None
  knows_allowed =
      let none = none_missing (missing h command) allowed.named in
      let free : (adds_one command && is_taken h command) ≡ false = ap (λ b. adds_one command && b) (not_taken (is_taken h command) allowed.new) ∙ and_false (adds_one command) in
      ap (λ things. or_else (first_missing (filter is_of_desks things)) (unless (not (adds_one command && is_taken h command)) NameTaken)) none
      ∙ ap (λ b. unless (not b) NameTaken) free

  five : denial_by h command ≡ None
  five = rw (allowed.named, allowed.new, allowed.order, allowed.operand, allowed.limit) refl

  pub filters_allowed : filter_denial (condition h) (condition_count h) (filters h) command ≡ None
  filters_allowed = by command five
    where
      by : (given : Command) → denial_by h given ≡ None → filter_denial (condition h) (condition_count h) (filters h) given ≡ None
      by (AddCondition name field op values) is = by_list h (AddCondition name field op values) refl ∙ is
      by (AddFilter filter statements) is = by_list h (AddFilter filter statements) refl ∙ is
      by (SetFilter filter statements) is = by_list h (SetFilter filter statements) refl ∙ is
      by (SetBlock filter on) is = by_list h (SetBlock filter on) refl ∙ is
      by _ is = refl

  pub products_allowed : judge_denial h command ≡ None
  products_allowed = elim (is_asked command) as (λ b. is_asked command ≡ b → judge_denial h command ≡ None) [
    | true ↦ λ is. products_by h command is ∙ five
    | false ↦ λ isnt. rw isnt refl
  ] refl

some_taken : {A : Type 0} (o : Option A) → unless (not (is_some o)) NameTaken ≡ None → o ≡ None
some_taken None is = refl
some_taken (Some x) is = absurd (none_some NameTaken (sym is))

pub sources_new : (h : History) (command : Command) → IsAllowed h command → IsNew command (scheme h) (provider h)
sources_new h (AddScheme name rules) allowed = some_taken (scheme h name) allowed.new
sources_new h (AddProvider name given) allowed = some_taken (provider h name) allowed.new
sources_new h _ allowed = tt

-- ---- operands

pub filter_operands : (command : Command) → operand_denial command ≡ None → filter_operand command ≡ None
filter_operands (AddCondition name field op values) is = is
filter_operands (AddFilter filter statements) is = is
filter_operands (SetFilter filter statements) is = is
filter_operands _ is = refl

pub scheme_operands : (name : Bytes) (rules : List Rule) → operand_denial (AddScheme name rules) ≡ None → is_scheme rules ≡ true
scheme_operands name rules is = holds_unless (is_scheme rules) BadOperand is

-- ---- sources

pub scheme_by : (h : History) (name : Bytes) (rules : List Rule) (m : Option Denial) (t s : Bool) (n : ℕ) → m ≡ first_missing (flat_map (absent_in_rule h) rules) → t ≡ is_some (scheme h name) → s ≡ is_scheme rules → n ≡ scheme_count h
    → or_else m (or_else (unless (not t) NameTaken) (or_else (unless s BadOperand) (full thing.Scheme n))) ≡ denial_by h (AddScheme name rules)
scheme_by h name rules m t s n one two three four =
    rw (one, two, three, four)
    (ap (λ (o : Option Denial). or_else (first_missing (flat_map (absent_in_rule h) rules)) (or_else (unless (not (is_some (scheme h name))) NameTaken) (or_else (unless (is_scheme rules) BadOperand) o))) (sym (or_none (full thing.Scheme (scheme_count h)))))

pub provider_by : (h : History) (name : Bytes) (given : Option Bytes) (m : Option Denial) (t : Bool) (n : ℕ) → m ≡ first_missing (absent_if_given (λ other. is_some (scheme h other)) thing.Scheme given) → t ≡ is_some (provider h name) → n ≡ provider_count h
    → or_else m (or_else (unless (not t) NameTaken) (full thing.Provider n)) ≡ denial_by h (AddProvider name given)
provider_by h name given m t n one two three =
    rw (one, two, three)
    (ap (λ (o : Option Denial). or_else (first_missing (absent_if_given (λ other. is_some (scheme h other)) thing.Scheme given)) (or_else (unless (not (is_some (provider h name))) NameTaken) o)) (sym (or_none (full thing.Provider (provider_count h)))))

-- ---- names in order

present : (b : Bool) → absent b thing.Desk ≡ [] → b ≡ true
present true is = refl
present false is = cc

pub rolls_find : (h : History) (command : Command) → IsAllowed h command → Finds command h
rolls_find h (AddDesk desk) allowed = not_taken (is_desk h desk) allowed.new
rolls_find h (AddStage desk stage) allowed = present (is_desk h desk) (none_missing (missing h (AddStage desk stage)) allowed.named)
rolls_find h _ allowed = tt

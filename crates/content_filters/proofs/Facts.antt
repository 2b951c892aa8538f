-- What is asked of the table is what is asked of the facts that it keeps.
use Rattle.std.proofs.Common.{◌≡◌, ℕ, ◌<◌, Bool, true, false, ◌||◌, cond, List, [], ◌∷◌, length, vec_len, Option, Some, None, is_some, nat_lt, inl, inr, refl, sym, ap, ◌∙◌, arith}
use Rattle.std.proofs.lemmas.Bool.{false≢true}
use Rattle.std.proofs.lemmas.Bool.Decides.{nat_tests}
use Rattle.std.specs.List.{list_all, slice_get}
use Rattle.std.specs.Option.{option_map, option_and_then}
use Rattle.std.specs.HashMap.{get}
use Rattle.std.proofs.lemmas.Option.{slice_get_cases}
use Rattle.news_types.proofs.Members.{some_is}
use Rattle.news_types.specs.Names.{Bytes, same}
use Rattle.news_types.specs.History.{History}
use Rattle.news_types.specs.Conditions.{Condition, condition, condition_count}
use Rattle.news_types.specs.Filters.{Filter, filters, has_filter, older, names_only}
use Rattle.news_types.specs.declared.command.Command.{Command}
use Rattle.news_types.specs.declared.command.Command.TheVariants.{AddCondition, AddFilter, SetFilter, SetBlock}
use Rattle.news_types.specs.declared.words.Thing.{Thing}
use Rattle.news_types.specs.declared.rules.Statement.{Statement}
use Rattle.news_types.specs.Denial.{absent_of}
use Rattle.content_filters.specs.declared.table.Filters.{Filters}
use Rattle.content_filters.specs.declared.condition.KeptCondition.{KeptCondition}
use Rattle.content_filters.specs.Kept.{condition_of, age, AreApart}
use Rattle.content_filters.specs.Keeps.{Keeps}
use Rattle.content_filters.specs.Reasons.{is_filter_command, filter_denial, denial_by, absent_in, absent_by, is_filter_or, is_there, is_one_of}
use Rattle.content_filters.specs.Asked.{has_place, is_below, names_below, unknown_in, new_filter_denial, statements_denial}
use Rattle.content_filters.proofs.Ages.{aged, age_below, kept_long, older_there}

-- ---- what is there

some_inside : (ks : List KeptCondition) (o : Option ℕ) → ((p : ℕ) → o ≡ Some p → p < length ks) → is_some o ≡ is_some (option_map condition_of (option_and_then (λ place. slice_get ks place) o))
some_inside ks None inside = refl
some_inside ks (Some p) inside =
    let lt : p < length ks = inside p refl in
    elim ((slice_get_cases ks p).1) [
      | inl there ↦ rw there.2 refl
      | inr past ↦ absurd (omega (arith, past.0))
    ]

module _ (t : Filters) (found : Bytes → Option Condition) (count : ℕ) (fs : List Filter) (keeps : Keeps t found count fs) where
  pub condition_there : (name : Bytes) → has_place t.condition_places name ≡ is_there found name
  condition_there name =
      some_inside t.conditions.items (get same t.condition_places name) (λ p is. let lt : p < vec_len t.conditions = keeps.inside name p is in omega (arith, t.conditions.ok.0))
      ∙ ap is_some (keeps.each name)

  pub filter_there : (name : Bytes) → has_place t.filter_places name ≡ has_filter name fs
  filter_there name = ap is_some (keeps.ages name) ∙ aged fs name

  pub filters_counted : vec_len t.filters ≡ length fs
  filters_counted = t.filters.ok.0 ∙ ap length keeps.filters ∙ kept_long fs

-- ---- tests that agree

all_alike : {A : Type 0} (p q : A → Bool) (xs : List A) → ((x : A) → p x ≡ q x) → list_all p xs ≡ list_all q xs
all_alike p q [] alike = refl
all_alike p q (x ∷ xs) alike = rw (alike x, all_alike p q xs alike) refl

absent_alike : (p q : Bytes → Bool) (what : Thing) (names : List Bytes) → ((name : Bytes) → p name ≡ q name) → absent_of p what names ≡ absent_of q what names
absent_alike p q what [] alike = refl
absent_alike p q what (name ∷ names) alike = rw (alike name, absent_alike p q what names alike) refl

unknown_alike : (p q r s : Bytes → Bool) (self : Bytes) (sts : List Statement) → ((name : Bytes) → p name ≡ q name) → ((name : Bytes) → r name ≡ s name) → absent_by p r self sts ≡ absent_by q s self sts
unknown_alike p q r s self [] one two = refl
unknown_alike p q r s self (st ∷ sts) one two =
    let here : absent_in p (is_filter_or r self) st ≡ absent_in q (is_filter_or s self) st =
    rw (absent_alike p q _ st.conditions one, absent_alike (is_filter_or r self) (is_filter_or s self) _ st.filters (λ name. rw (two name) refl)) refl in
    rw (here, unknown_alike p q r s self sts one two) refl

-- ---- ages

-- below the number of filters is each that is there
all_below : (fs : List Filter) (name : Bytes) → is_below (age fs name) (length fs) ≡ has_filter name fs
all_below fs name = below (age fs name) (λ p is. age_below fs name p is) ∙ aged fs name
  where
    below : (o : Option ℕ) → ((p : ℕ) → o ≡ Some p → p < length fs) → is_below o (length fs) ≡ is_some o
    below None within = refl
    below (Some p) within = let lt : p < length fs = within p refl in grind (arith, nat_tests)

-- none of those that are older is there
none_older : (self name : Bytes) (fs : List Filter) → has_filter name fs ≡ false → has_filter name (older self fs) ≡ false
none_older self name [] none = refl
none_older self name (f ∷ fs) none =
    elim (same f.name self) as (λ b. has_filter name fs ≡ false → has_filter name (cond b fs (older self fs)) ≡ false) [
      | true ↦ λ rest. rest
      | false ↦ λ rest. none_older self name fs rest
    ] (rest_of (same f.name name) (has_filter name fs) none)
  where
    rest_of : (a b : Bool) → (a || b) ≡ false → b ≡ false
    rest_of true b h = absurd (false≢true (sym h))
    rest_of false b h = h

-- below the age of a filter are the older ones
older_below : (fs : List Filter) (self name : Bytes) (n : ℕ) → AreApart fs → age fs self ≡ Some n → is_below (age fs name) n ≡ has_filter name (older self fs)
older_below [] self name n apart is = cc
older_below (f ∷ fs) self name n apart is =
    elim (same f.name self) as (λ b. cond b (Some (length fs)) (age fs self) ≡ Some n → is_below (age (f ∷ fs) name) n ≡ has_filter name (cond b fs (older self fs))) [
      | true ↦ λ here.
          let e : length fs ≡ n = some_is (length fs) n here in
          elim (same f.name name) as (λ b. same f.name name ≡ b → is_below (cond b (Some (length fs)) (age fs name)) n ≡ has_filter name fs) [
            | true ↦ λ it. let no_less : nat_lt (length fs) n ≡ false = grind (arith, nat_tests) in no_less ∙ sym (older_there f fs name apart.0 it)
            | false ↦ λ other. rw (← e) (all_below fs name)
          ] refl
      | false ↦ λ later.
          let lt : n < length fs = age_below fs self n later in
          elim (same f.name name) as (λ b. same f.name name ≡ b → is_below (cond b (Some (length fs)) (age fs name)) n ≡ has_filter name (older self fs)) [
            | true ↦ λ it. let no_less : nat_lt (length fs) n ≡ false = grind (arith, nat_tests) in no_less ∙ sym (none_older self name fs (older_there f fs name apart.0 it))
            | false ↦ λ other. older_below fs self name n apart.1 later
          ] refl
    ] is

-- ---- the reasons

module _ (t : Filters) (found : Bytes → Option Condition) (count : ℕ) (fs : List Filter) (filter : Bytes) (sts : List Statement) where
  unknown_is : Keeps t found count fs → unknown_in t filter sts ≡ absent_by (is_there found) (is_one_of fs) filter sts
  unknown_is keeps = unknown_alike _ _ _ _ filter sts (condition_there t found count fs keeps) (filter_there t found count fs keeps)

  order_is : (n : ℕ) (gs : List Filter) → Keeps t found count fs → ((name : Bytes) → is_below (age fs name) n ≡ has_filter name gs) → names_below t.filter_places n sts ≡ names_only gs sts
  order_is n gs keeps below = all_alike _ _ sts (λ st. all_alike _ _ st.filters (λ name. rw (keeps.ages name) (below name)))

  pub new_filter : Keeps t found count fs → new_filter_denial t filter sts ≡ filter_denial found count fs (AddFilter filter sts)
  new_filter keeps =
      let counted : vec_len t.filters ≡ length fs = filters_counted t found count fs keeps in
      let order : names_below t.filter_places (length fs) sts ≡ names_only fs sts = order_is (length fs) fs keeps (all_below fs) in
      rw (unknown_is keeps, filter_there t found count fs keeps filter, counted, order) refl

  pub other_statements : Keeps t found count fs → statements_denial t (get same t.filter_places filter) filter sts ≡ filter_denial found count fs (SetFilter filter sts)
  other_statements keeps = rw (keeps.ages filter) (at (age fs filter) refl)
    where
      at : (o : Option ℕ) → age fs filter ≡ o → statements_denial t o filter sts ≡ filter_denial found count fs (SetFilter filter sts)
      at None is = let none : has_filter filter fs ≡ false = sym (aged fs filter) ∙ ap is_some is in rw none refl
      at (Some n) is =
          let there : has_filter filter fs ≡ true = sym (aged fs filter) ∙ ap is_some is in
          let order : names_below t.filter_places n sts ≡ names_only (older filter fs) sts = order_is n (older filter fs) keeps (λ name. older_below fs filter name n keeps.apart is) in
          rw (unknown_is keeps, order, there) refl

-- the reasons by the facts of a list are those of the list
pub by_list : (h : History) (command : Command) → is_filter_command command ≡ true → filter_denial (condition h) (condition_count h) (filters h) command ≡ denial_by h command
by_list h (AddCondition name field op values) is = refl
by_list h (AddFilter filter statements) is = refl
by_list h (SetFilter filter statements) is = refl
by_list h (SetBlock filter on) is = refl
by_list h _ is = absurd (false≢true is)

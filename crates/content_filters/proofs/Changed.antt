-- The table behind a change.
use Rattle.std.proofs.Common.{◌≡◌, ℕ, zero, suc, ◌+◌, ◌<◌, Bool, true, false, not, ◌&&◌, ◌||◌, cond, List, [], ◌∷◌, ◌++◌, length, map, set, get_or, Option, Some, None, nat_lt, refl, sym, ap, subst, ◌∙◌, arith}
use Rattle.std.proofs.lemmas.List.{length-map, map-append}
use Rattle.std.proofs.lemmas.Bool.{false≢true}
use Rattle.std.proofs.lemmas.Bool.Decides.{nat_tests}
use Rattle.std.specs.List.{slice_get, filter}
use Rattle.std.specs.Option.{option_map, option_and_then}
use Rattle.news_types.proofs.Members.{same_is, same_self, some_is, none_some}
use Rattle.news_types.specs.Names.{Bytes, same, is_in}
use Rattle.news_types.specs.History.{History}
use Rattle.news_types.specs.Conditions.{Condition, condition, condition_after, condition_count, conditions_added}
use Rattle.news_types.specs.Filters.{Filter, filters, filters_after, has_filter, changed}
use Rattle.news_types.specs.declared.entry.Entry.{Entry}
use Rattle.news_types.specs.declared.entry.Act.{Act}
use Rattle.news_types.specs.declared.entry.Act.TheVariants.{Request}
use Rattle.news_types.specs.declared.command.Command.{Command}
use Rattle.news_types.specs.declared.denial.Denial.{Denial}
use Rattle.news_types.specs.declared.denial.Denial.TheVariants.{UnknownThing, NameTaken, Limit}
use Rattle.news_types.specs.declared.words.Thing.{Thing}
use Rattle.news_types.specs.declared.words.Thing.TheVariants as thing
use Rattle.news_types.specs.declared.command.Command.TheVariants.{AddFilter, SetFilter, SetBlock}
use Rattle.news_types.specs.declared.rules.Statement.{Statement}
use Rattle.news_types.specs.Denial.{or_else, unless, absent, first_missing}
use Rattle.content_filters.specs.declared.condition.KeptCondition.{KeptCondition}
use Rattle.content_filters.specs.declared.table.KeptFilter.{KeptFilter}
use Rattle.content_filters.specs.Kept.{condition_of, kept_of, oldest_first, age, AreApart, is_block}
use Rattle.content_filters.specs.declared.table.Filters.{Filters}
use Rattle.content_filters.specs.Keeps.{Keeps}
use Rattle.content_filters.specs.Reasons.{filter_missing, is_filter_taken, filter_order, filter_operand, filter_limit, filter_denial, KeepsFacts}
use Rattle.content_filters.proofs.Ages.{get_front, get_end, age_below, kept_long, older_there}

same_flip : (a b : Bytes) → same a b ≡ same b a
same_flip a b =
    elim (same a b) as (λ v. same a b ≡ v → v ≡ same b a) [
      | true ↦ λ is. let e : a ≡ b = same_is a b is in rw e (sym (same_self b))
      | false ↦ λ isnt. elim (same b a) as (λ v. same b a ≡ v → false ≡ v) [
        | true ↦ λ is. let e : b ≡ a = same_is b a is in absurd (false≢true (sym isnt ∙ rw e (same_self a)))
        | false ↦ λ _. refl
      ] refl
    ] refl

-- ---- a change that keeps names

module _ (g : Filter → Filter) (names : (f : Filter) → (g f).name ≡ f.name) where
  oldest_map : (fs : List Filter) → oldest_first (map g fs) ≡ map g (oldest_first fs)
  oldest_map [] = refl
  oldest_map (f ∷ fs) = rw (oldest_map fs) (sym (map-append g (oldest_first fs) (f ∷ [])))

  has_map : (fs : List Filter) (name : Bytes) → has_filter name (map g fs) ≡ has_filter name fs
  has_map [] name = refl
  has_map (f ∷ fs) name = rw (names f, has_map fs name) refl

  pub age_map : (fs : List Filter) (name : Bytes) → age (map g fs) name ≡ age fs name
  age_map [] name = refl
  age_map (f ∷ fs) name = rw (names f, length-map fs g, age_map fs name) refl

  pub apart_map : (fs : List Filter) → AreApart fs → AreApart (map g fs)
  apart_map [] apart = tt
  apart_map (f ∷ fs) apart = (rw (names f, has_map fs f.name) apart.0, apart_map fs apart.1)

  -- one that keeps the statements too
  pub kept_map : ((f : Filter) → kept_of (g f) ≡ kept_of f) → (fs : List Filter) → map kept_of (oldest_first (map g fs)) ≡ map kept_of (oldest_first fs)
  kept_map kept [] = refl
  kept_map kept (f ∷ fs) =
      map-append kept_of (oldest_first (map g fs)) (g f ∷ [])
      ∙ rw (kept_map kept fs, kept f) (sym (map-append kept_of (oldest_first fs) (f ∷ [])))

  -- one that keeps the blocks too
  pub block_map : ((f : Filter) → (g f).blocks ≡ f.blocks) → (fs : List Filter) (name : Bytes) → is_block (map g fs) name ≡ is_block fs name
  block_map blocks [] name = refl
  block_map blocks (f ∷ fs) name = rw (names f, blocks f, block_map blocks fs name) refl

pub changed_name : (name : Bytes) (change : Filter → Filter) → ((f : Filter) → (change f).name ≡ f.name) → (f : Filter) → (changed name change f).name ≡ f.name
changed_name name change names f =
    elim (same f.name name) as (λ b. (cond b (change f) f).name ≡ f.name) [
      | true ↦ names f
      | false ↦ refl
    ]

pub changed_kept : (name : Bytes) (change : Filter → Filter) → ((f : Filter) → kept_of (change f) ≡ kept_of f) → (f : Filter) → kept_of (changed name change f) ≡ kept_of f
changed_kept name change kept f =
    elim (same f.name name) as (λ b. kept_of (cond b (change f) f) ≡ kept_of f) [
      | true ↦ kept f
      | false ↦ refl
    ]

pub changed_blocks : (name : Bytes) (change : Filter → Filter) → ((f : Filter) → (change f).blocks ≡ f.blocks) → (f : Filter) → (changed name change f).blocks ≡ f.blocks
changed_blocks name change blocks f =
    elim (same f.name name) as (λ b. (cond b (change f) f).blocks ≡ f.blocks) [
      | true ↦ blocks f
      | false ↦ refl
    ]

-- nothing is changed where the filter is not there
changed_none : (name : Bytes) (change : Filter → Filter) (fs : List Filter) → has_filter name fs ≡ false → map (changed name change) fs ≡ fs
changed_none name change [] none = refl
changed_none name change (f ∷ fs) none =
    elim (same f.name name) as (λ b. (b || has_filter name fs) ≡ false → cond b (change f) f ∷ map (changed name change) fs ≡ f ∷ fs) [
      | true ↦ λ here. absurd (false≢true (sym here))
      | false ↦ λ rest. rw (changed_none name change fs rest) refl
    ] none

-- ---- other statements

set_front : {A : Type 0} (xs : List A) (x y : A) (k : ℕ) → k < length xs → set (xs ++ x ∷ []) k y ≡ set xs k y ++ x ∷ []
set_front [] x y k lt = absurd (omega arith)
set_front (z ∷ xs) x y zero lt = refl
set_front (z ∷ xs) x y (suc k) lt = rw (set_front xs x y k (omega arith)) refl

set_end : {A : Type 0} (xs : List A) (x y : A) → set (xs ++ x ∷ []) (length xs) y ≡ xs ++ y ∷ []
set_end [] x y = refl
set_end (z ∷ xs) x y = rw (set_end xs x y) refl

front_at : {A : Type 0} (xs : List A) (x d : A) (k : ℕ) → k < length xs → get_or (xs ++ x ∷ []) k d ≡ get_or xs k d
front_at [] x d k lt = absurd (omega arith)
front_at (z ∷ xs) x d zero lt = refl
front_at (z ∷ xs) x d (suc k) lt = front_at xs x d k (omega arith)

end_at : {A : Type 0} (xs : List A) (x d : A) → get_or (xs ++ x ∷ []) (length xs) d ≡ x
end_at [] x d = refl
end_at (z ∷ xs) x d = end_at xs x d

module _ (name : Bytes) (sts : List Statement) where
  abbrev restated : Filter → Filter
  restated f = record f { statements = sts }

  -- the filter at its age has its name
  name_at : (fs : List Filter) (p : ℕ) (d : KeptFilter) → age fs name ≡ Some p → (get_or (map kept_of (oldest_first fs)) p d).name ≡ name
  name_at [] p d is = absurd (none_some p is)
  name_at (f ∷ fs) p d is =
      let olds : List KeptFilter = map kept_of (oldest_first fs) in
      elim (same f.name name) as (λ b. same f.name name ≡ b → cond b (Some (length fs)) (age fs name) ≡ Some p → (get_or (map kept_of (oldest_first fs ++ f ∷ [])) p d).name ≡ name) [
        | true ↦ λ it here.
            let e : p ≡ length olds = sym (some_is (length fs) p here) ∙ sym (kept_long fs) in
            rw (map-append kept_of (oldest_first fs) (f ∷ []), e, end_at olds (kept_of f) d) (same_is f.name name it)
        | false ↦ λ other older.
            let lt : p < length olds = omega (arith, age_below fs name p older, kept_long fs) in
            rw (map-append kept_of (oldest_first fs) (f ∷ []), front_at olds (kept_of f) d p lt) (name_at fs p d older)
      ] refl is

  set_named : (fs : List Filter) (p : ℕ) → AreApart fs → age fs name ≡ Some p → set (map kept_of (oldest_first fs)) p (record { name = name; statements = sts }) ≡ map kept_of (oldest_first (map (changed name restated) fs))
  set_named [] p apart is = absurd (none_some p is)
  set_named (f ∷ fs) p apart is =
      let olds : List KeptFilter = map kept_of (oldest_first fs) in
      let new : KeptFilter = record { name = name; statements = sts } in
      let rest : List Filter = map (changed name restated) fs in
      elim (same f.name name) as (λ b. same f.name name ≡ b → cond b (Some (length fs)) (age fs name) ≡ Some p → set (map kept_of (oldest_first fs ++ f ∷ [])) p new ≡ map kept_of (oldest_first rest ++ cond b (restated f) f ∷ [])) [
        | true ↦ λ it here.
            let e : p ≡ length olds = sym (some_is (length fs) p here) ∙ sym (kept_long fs) in
            let none : has_filter name fs ≡ false = older_there f fs name apart.0 it in
            let named : f.name ≡ name = same_is f.name name it in
            rw (map-append kept_of (oldest_first fs) (f ∷ []), e, set_end olds (kept_of f) new, changed_none name restated fs none, map-append kept_of (oldest_first fs) (restated f ∷ []), named) refl
        | false ↦ λ other older.
            let lt : p < length olds = omega (arith, age_below fs name p older, kept_long fs) in
            rw (map-append kept_of (oldest_first fs) (f ∷ []), set_front olds (kept_of f) new p lt, set_named fs p apart.1 older, map-append kept_of (oldest_first rest) (f ∷ [])) refl
      ] refl is

  pub set_kept : (fs : List Filter) (p : ℕ) (d : KeptFilter) → AreApart fs → age fs name ≡ Some p →
      set (map kept_of (oldest_first fs)) p (record { name = (get_or (map kept_of (oldest_first fs)) p d).name; statements = sts }) ≡ map kept_of (oldest_first (map (changed name restated) fs))
  set_kept fs p d apart is = rw (name_at fs p d is) (set_named fs p apart is)

-- ---- blocks

module _ (name : Bytes) (on : Bool) where
  abbrev blocking : Filter → Filter
  blocking f = record f { blocks = on }

  pub block_other : (fs : List Filter) (other : Bytes) → same other name ≡ false → is_block (map (changed name blocking) fs) other ≡ is_block fs other
  block_other [] other apart = refl
  block_other (f ∷ fs) other apart =
      elim (same f.name name) as (λ b. same f.name name ≡ b → (same (cond b (blocking f) f).name other && (cond b (blocking f) f).blocks || is_block (map (changed name blocking) fs) other) ≡ (same f.name other && f.blocks || is_block fs other)) [
        | true ↦ λ it.
            let named : f.name ≡ name = same_is f.name name it in
            let differs : same f.name other ≡ false = rw named (same_flip name other ∙ apart) in
            rw (differs, block_other fs other apart) refl
        | false ↦ λ _. rw (block_other fs other apart) refl
      ] refl

  pub block_same : (fs : List Filter) → is_block (map (changed name blocking) fs) name ≡ (on && has_filter name fs)
  block_same [] = sym (never on)
    where
      never : (b : Bool) → (b && false) ≡ false
      never true = refl
      never false = refl
  block_same (f ∷ fs) =
      elim (same f.name name) as (λ b. same f.name name ≡ b → (same (cond b (blocking f) f).name name && (cond b (blocking f) f).blocks || is_block (map (changed name blocking) fs) name) ≡ (on && (b || has_filter name fs))) [
        | true ↦ λ it. rw (it, block_same fs) (absorbed on (has_filter name fs))
        | false ↦ λ isnt. rw (isnt) (block_same fs)
      ] refl
    where
      absorbed : (a b : Bool) → ((a) || (a && b)) ≡ (a && true)
      absorbed true b = refl
      absorbed false b = refl

-- what is in a list that a name was taken out of
pub any_removed : (names : List Bytes) (name other : Bytes) → is_in other (filter (λ it. not (same it name)) names) ≡ (not (same other name) && is_in other names)
any_removed [] name other = sym (never (not (same other name)))
  where
    never : (b : Bool) → (b && false) ≡ false
    never true = refl
    never false = refl
any_removed (it ∷ names) name other =
    elim (same it name) as (λ b. same it name ≡ b → is_in other (cond (not b) (it ∷ filter (λ it. not (same it name)) names) (filter (λ it. not (same it name)) names)) ≡ (not (same other name) && (same other it || is_in other names))) [
      | true ↦ λ is.
          let e : it ≡ name = same_is it name is in
          rw (any_removed names name other, e) (skipped (same other name) (is_in other names))
      | false ↦ λ isnt.
          elim (same other it) as (λ b. same other it ≡ b → (b || is_in other (filter (λ it. not (same it name)) names)) ≡ (not (same other name) && (b || is_in other names))) [
            | true ↦ λ is. let e : other ≡ it = same_is other it is in rw (e, isnt) refl
            | false ↦ λ _. any_removed names name other
          ] refl
    ] refl
  where
    skipped : (a b : Bool) → (not a && b) ≡ (not a && (a || b))
    skipped true b = refl
    skipped false b = refl

-- ---- one more condition

pub one_more : (ks : List KeptCondition) (k : KeptCondition) (b : Bool) (o : Option ℕ) (before : Option Condition) → ((p : ℕ) → o ≡ Some p → p < length ks)
    → option_map condition_of (option_and_then (λ place. slice_get ks place) o) ≡ before
    → option_map condition_of (option_and_then (λ place. slice_get (ks ++ k ∷ []) place) (cond b (Some (length ks)) o)) ≡ cond b (Some (condition_of k)) before
one_more ks k true o before inside is = ap (option_map condition_of) (get_end ks k)
one_more ks k false None before inside is = is
one_more ks k false (Some p) before inside is = rw (get_front ks (k ∷ []) p (inside p refl)) is

pub one_more_inside : (b : Bool) (o : Option ℕ) (n p : ℕ) → ((q : ℕ) → o ≡ Some q → q < n) → cond b (Some n) o ≡ Some p → p < n + 1
one_more_inside true o n p inside is = let e : n ≡ p = some_is n p is in omega arith
one_more_inside false o n p inside is = let lt : p < n = inside p is in omega arith

-- ---- what is allowed

pub or_none : (o : Option Denial) → or_else o None ≡ o
or_none None = refl
or_none (Some d) = refl

neither : (a b : Option Denial) → or_else a b ≡ None → (a ≡ None) × (b ≡ None)
neither None b is = (refl, is)
neither (Some d) b is = absurd (none_some d (sym is))

holds_unless : (ok : Bool) (d : Denial) → unless ok d ≡ None → ok ≡ true
holds_unless true d is = refl
holds_unless false d is = absurd (none_some d (sym is))

not_true : (b : Bool) → not b ≡ true → b ≡ false
not_true true is = sym is
not_true false is = refl

there_first : (b : Bool) (what : Thing) (things : List Thing) → first_missing (absent b what ++ things) ≡ None → b ≡ true
there_first true what things is = refl
there_first false what things is = absurd (none_some (UnknownThing what) (sym is))

there_only : (b : Bool) (what : Thing) → first_missing (absent b what) ≡ None → b ≡ true
there_only true what is = refl
there_only false what is = absurd (none_some (UnknownThing what) (sym is))

module _ (found : Bytes → Option Condition) (count : ℕ) (fs : List Filter) (name : Bytes) (sts : List Statement) where
  pub new_allowed : filter_denial found count fs (AddFilter name sts) ≡ None → has_filter name fs ≡ false
  new_allowed is = not_true (has_filter name fs) (holds_unless _ _ (neither _ _ (neither _ _ is).1).0)

  pub room_allowed : filter_denial found count fs (AddFilter name sts) ≡ None → length fs < 1024
  room_allowed is =
      let command : Command = AddFilter name sts in
      let is_there = (neither (first_missing (filter_missing found fs command)) _ is).1 in
      let is_new = (neither (unless (not (is_filter_taken found fs command)) NameTaken) _ is_there).1 in
      let is_ordered = (neither (filter_order fs command) _ is_new).1 in
      let has_operands = (neither (filter_operand command) _ is_ordered).1 in
      let within : nat_lt (length fs) 1024 ≡ true = holds_unless (nat_lt (length fs) 1024) (Limit thing.Filter 1024) (neither (filter_limit count fs command) None has_operands).0 in
      grind (arith, nat_tests)

  pub there_allowed : filter_denial found count fs (SetFilter name sts) ≡ None → has_filter name fs ≡ true
  there_allowed is = there_first (has_filter name fs) thing.Filter _ (neither _ _ is).0

pub block_allowed : (found : Bytes → Option Condition) (count : ℕ) (fs : List Filter) (name : Bytes) (on : Bool) → filter_denial found count fs (SetBlock name on) ≡ None → has_filter name fs ≡ true
block_allowed found count fs name on is = there_only (has_filter name fs) thing.Filter (neither _ _ is).0

-- ---- one more request

pub requested : (t : Filters) (h : History) (e : Entry) (caller : Bytes) (number : ℕ) (command : Command) → e.act ≡ Request caller number command
    → Keeps t (λ name. condition_after name command (condition h name)) (condition_count h + conditions_added command) (filters_after command (filters h)) → KeepsFacts t (e ∷ h)
requested t h e caller number command is keeps = subst (λ (act : Act). KeepsFacts t (record { moment = e.moment; act = act } ∷ h)) (sym is) keeps

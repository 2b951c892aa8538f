-- The table behind a change.
use Rattle.std.proofs.Common.{◌≡◌, ℕ, ◌+◌, Bool, true, false, cond, List, ◌∷◌, Option, Some, None, is_some, Result, Ok, Err, refl, sym, ap, subst, ◌∙◌, arith}
use Rattle.std.specs.Prelude.{if◌then◌else◌, IfOk, unwrap_or}
use Rattle.std.specs.HashMap.{get}
use Rattle.std.proofs.lemmas.Bool.{false≢true}
use Rattle.std.specs.Option.{option_map}
use Rattle.news_types.proofs.Members.{same_is, same_self, some_is, none_some}
use Rattle.news_types.specs.declared.entry.Entry.{Entry}
use Rattle.news_types.specs.declared.entry.Act.{Act}
use Rattle.news_types.specs.declared.entry.Act.TheVariants.{Request}
use Rattle.news_types.specs.declared.command.Command.{Command}
use Rattle.news_types.specs.declared.command.Command.TheVariants.{SetSubscriber}
use Rattle.news_types.specs.declared.words.Thing.TheVariants as thing
use Rattle.news_types.specs.declared.denial.Denial.TheVariants.{UnknownThing}
use Rattle.news_types.specs.Names.{Bytes, same}
use Rattle.news_types.specs.History.{History}
use Rattle.news_types.specs.Products.{Product, Subscriber, product, product_after, product_count, products_added, subscriber, subscriber_after, subscribers, subscribers_after, is_subscriber}
use Rattle.products.specs.declared.table.KeptProduct.{KeptProduct}
use Rattle.products.specs.declared.table.KeptSubscriber.{KeptSubscriber}
use Rattle.products.specs.Keeps.{Keeps, KeepsFacts, product_of, subscriber_of, terms_of}
use Rattle.products.specs.declared.table.Terms.{Terms}
use Rattle.products.specs.declared.table.Products.{Products}
use Rattle.products.specs.Asked.{judge_denial}
use Rattle.products.specs.Steps.{IsStep, Sets, kept_terms, set_step, other_step}
use Rattle.products.proofs.Judged.{other_judged}

-- the format and the lag of a subscriber
abbrev pub subscriber_terms : Subscriber → Terms
subscriber_terms s = record { format = s.format; lag = s.lag }

-- one more entry of a map, or as many
pub more_of : {A : Type 0} (old : Option A) (n m k : ℕ) → m ≡ n + (if is_some old then 0 else 1) → n ≡ k → is_some old ≡ false → m ≡ k + 1
more_of None n m k counted is none = omega (arith, counted, is)
more_of (Some x) n m k counted is none = absurd (false≢true (sym none))

pub same_of : {A : Type 0} (old : Option A) (n m k : ℕ) → m ≡ n + (if is_some old then 0 else 1) → n ≡ k → is_some old ≡ true → m ≡ k
same_of None n m k counted is some = absurd (false≢true some)
same_of (Some x) n m k counted is some = omega (arith, counted, is)

pub put_product : (b : Bool) (kept : KeptProduct) (old : Option KeptProduct) (before : Option Product) → option_map product_of old ≡ before
    → option_map product_of (cond b (Some kept) old) ≡ cond b (Some (product_of kept)) before
put_product true kept old before is = refl
put_product false kept old before is = is

pub put_subscriber : (b : Bool) (kept : KeptSubscriber) (old : Option KeptSubscriber) (before : Option Subscriber) → option_map subscriber_of old ≡ before
    → option_map subscriber_of (cond b (Some kept) old) ≡ cond b (Some (subscriber_of kept)) before
put_subscriber true kept old before is = refl
put_subscriber false kept old before is = is

-- a subscriber that is there already keeps its format, and its lag where none is given
pub set_subscriber : (b : Bool) (kept : KeptSubscriber) (lag : Option ℕ) (old : Option KeptSubscriber) (before : Option Subscriber) → option_map subscriber_of old ≡ before
    → (b ≡ true → Sets kept lag before)
    → option_map subscriber_of (cond b (Some kept) old)
    ≡ cond b (option_map (λ (s : Subscriber). record s { active = kept.active; products = kept.products; off = kept.off; lag = unwrap_or lag s.lag }) before) before
set_subscriber false kept lag old before is sets = is
set_subscriber true kept lag old None is sets = absurd (sets refl)
set_subscriber true kept lag old (Some s) is sets = rw ((sets refl).0, (sets refl).1) refl

-- its terms are kept
pub terms_kept : (old : Option KeptSubscriber) (before : Option Subscriber) → option_map subscriber_of old ≡ before
    → option_map terms_of old ≡ option_map subscriber_terms before
terms_kept None before is = ap (option_map subscriber_terms) is
terms_kept (Some kept) before is = ap (option_map subscriber_terms) is

pub there_still : (b : Bool) (before : Option Subscriber) (change : Subscriber → Subscriber) → is_some before ≡ is_some (cond b (option_map change before) before)
there_still true None change = refl
there_still true (Some s) change = refl
there_still false before change = refl

pub same_flip : (a b : Bytes) → same a b ≡ same b a
same_flip a b =
    elim (same a b) as (λ v. same a b ≡ v → v ≡ same b a) [
      | true ↦ λ is. let e : a ≡ b = same_is a b is in rw e (sym (same_self b))
      | false ↦ λ isnt. elim (same b a) as (λ v. same b a ≡ v → false ≡ v) [
        | true ↦ λ is. let e : b ≡ a = same_is b a is in absurd (false≢true (sym isnt ∙ rw e (same_self a)))
        | false ↦ λ _. refl
      ] refl
    ] refl

-- ---- another setting

pub if_ok_map : {A E : Type 0} (r : Result A E) (P Q : A → Type 0) → ((a : A) → P a → Q a) → IfOk r P → IfOk r Q
if_ok_map (Ok a) P Q f holds = f a holds
if_ok_map (Err e) P Q f holds = tt

none_there : (before : Option Subscriber) → option_map subscriber_terms before ≡ None → is_some before ≡ false
none_there None is = refl
none_there (Some s) is = absurd (none_some (subscriber_terms s) (sym is))

sets_of : (terms : Terms) (active : Bool) (products off : List Bytes) (lag : Option ℕ) (before : Option Subscriber) → option_map subscriber_terms before ≡ Some terms
    → Sets (record { format = terms.format; active = active; products = products; off = off; lag = unwrap_or lag terms.lag }) lag before
sets_of terms active products off lag None is = absurd (none_some terms is)
sets_of terms active products off lag (Some s) is =
    let same_terms : subscriber_terms s ≡ terms = some_is (subscriber_terms s) terms is in
    (sym (ap (λ (t : Terms). t.format) same_terms), ap (λ (t : Terms). unwrap_or lag t.lag) (sym same_terms))

module _ (t : Products) (h : History) (keeps : KeepsFacts t h) (name : Bytes) (active : Bool) (products off : List Bytes) (lag : Option ℕ) (allowed : judge_denial h (SetSubscriber name active products off lag) ≡ None) where
  step_of : (o : Option Terms) → option_map subscriber_terms (subscriber h name) ≡ o
      → IsStep (set_step o name active products off lag) (SetSubscriber name active products off lag) (product h) (subscriber h)
  step_of None is =
      let none : is_subscriber h name ≡ false = none_there (subscriber h name) is in
      absurd (none_some (UnknownThing thing.Subscriber) (sym allowed ∙ other_judged h name active products off lag ∙ rw none refl))
  step_of (Some terms) is = (lag, refl, sets_of terms active products off lag (subscriber h name) is)

  pub set_is_step : IsStep (other_step t name active products off lag) (SetSubscriber name active products off lag) (product h) (subscriber h)
  set_is_step = step_of (kept_terms t name) (sym (terms_kept (get same t.subscribers name) (subscriber h name) (keeps.subscribers name)))

-- ---- one more request

pub requested : (t : Products) (h : History) (e : Entry) (caller : Bytes) (number : ℕ) (command : Command) → e.act ≡ Request caller number command
    → Keeps t (λ name. product_after name command (product h name)) (product_count h + products_added command) (λ name. subscriber_after name command (subscriber h name)) (subscribers_after command (subscribers h))
    → KeepsFacts t (e ∷ h)
requested t h e caller number command is keeps = subst (λ (act : Act). KeepsFacts t (record { moment = e.moment; act = act } ∷ h)) (sym is) keeps

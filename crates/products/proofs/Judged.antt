-- What is asked of the table is what is asked of the list whose facts it keeps.
use Rattle.std.proofs.Common.{◌≡◌, ℕ, Bool, true, false, not, ◌&&◌, cond, List, [], ◌∷◌, ◌++◌, Option, Some, None, is_some, length, append_assoc, refl, ap, ◌∙◌}
use Rattle.std.specs.List.{list_all}
use Rattle.std.specs.Option.{option_map}
use Rattle.std.specs.HashMap.{get}
use Rattle.news_types.specs.declared.command.Command.TheVariants.{AddSubscriber, SetSubscriber}
use Rattle.news_types.specs.declared.words.Format.{Format}
use Rattle.news_types.specs.declared.words.Thing.{Thing}
use Rattle.news_types.specs.declared.words.Thing.TheVariants as thing
use Rattle.news_types.specs.declared.denial.Denial.{Denial}
use Rattle.news_types.specs.declared.denial.Denial.TheVariants.{UnknownThing, NameTaken}
use Rattle.news_types.specs.Names.{Bytes, same}
use Rattle.news_types.specs.History.{History}
use Rattle.news_types.specs.Products.{subscribers, is_subscriber}
use Rattle.news_types.specs.Filters.{is_filter}
use Rattle.news_types.specs.Denial.{absent, absent_of, absent_if_given, first_missing, unless, or_else, is_product, full}
use Rattle.products.specs.declared.table.Products.{Products}
use Rattle.products.specs.Keeps.{KeepsFacts, product_of, subscriber_of}
use Rattle.products.specs.Asked.{is_there_if_given, judge_denial}

some_map : {A B : Type 0} (f : A → B) (o : Option A) → is_some o ≡ is_some (option_map f o)
some_map f None = refl
some_map f (Some x) = refl

pub all_alike : {A : Type 0} (p q : A → Bool) (xs : List A) → ((x : A) → p x ≡ q x) → list_all p xs ≡ list_all q xs
all_alike p q [] is = refl
all_alike p q (x ∷ xs) is = rw (is x, all_alike p q xs is) refl

module _ (t : Products) (h : History) (keeps : KeepsFacts t h) where
  pub product_there : (name : Bytes) → is_some (get same t.products name) ≡ is_product h name
  product_there name = some_map product_of (get same t.products name) ∙ ap is_some (keeps.products name)

  pub subscriber_there : (name : Bytes) → is_some (get same t.subscribers name) ≡ is_subscriber h name
  subscriber_there name = some_map subscriber_of (get same t.subscribers name) ∙ ap is_some (keeps.subscribers name)

  pub products_there : (names : List Bytes) → list_all (λ name. is_some (get same t.products name)) names ≡ list_all (is_product h) names
  products_there names = all_alike (λ name. is_some (get same t.products name)) (is_product h) names product_there

pub or_none : (o : Option Denial) → or_else o None ≡ o
or_none None = refl
or_none (Some denial) = refl

-- ---- the first thing that is not there

-- a list of things that begins with one kind
pub one_first : (there : Bool) (what : Thing) (rest : List Thing) → first_missing (absent there what ++ rest) ≡ cond there (first_missing rest) (Some (UnknownThing what))
one_first true what rest = refl
one_first false what rest = refl

pub missing_one : (there : Bool) (what : Thing) → first_missing (absent there what) ≡ cond there None (Some (UnknownThing what))
missing_one true what = refl
missing_one false what = refl

pub all_first : (is_there : Bytes → Bool) (what : Thing) (names : List Bytes) (rest : List Thing) → first_missing (absent_of is_there what names ++ rest) ≡ cond (list_all is_there names) (first_missing rest) (Some (UnknownThing what))
all_first is_there what [] rest = refl
all_first is_there what (name ∷ names) rest =
    elim (is_there name) as (λ b. first_missing (absent b what ++ absent_of is_there what names ++ rest) ≡ cond (b && list_all is_there names) (first_missing rest) (Some (UnknownThing what))) [
      | true ↦ all_first is_there what names rest
      | false ↦ refl
    ]

pub all_last : (is_there : Bytes → Bool) (what : Thing) (names : List Bytes) → first_missing (absent_of is_there what names) ≡ cond (list_all is_there names) None (Some (UnknownThing what))
all_last is_there what [] = refl
all_last is_there what (name ∷ names) =
    elim (is_there name) as (λ b. first_missing (absent b what ++ absent_of is_there what names) ≡ cond (b && list_all is_there names) None (Some (UnknownThing what))) [
      | true ↦ all_last is_there what names
      | false ↦ refl
    ]

pub given_last : (is_there : Bytes → Bool) (what : Thing) (name : Option Bytes) → first_missing (absent_if_given is_there what name) ≡ cond (is_there_if_given is_there name) None (Some (UnknownThing what))
given_last is_there what None = refl
given_last is_there what (Some name) = elim (is_there name) as (λ b. first_missing (absent b what) ≡ cond b None (Some (UnknownThing what))) [ true ↦ refl | false ↦ refl ]

-- ---- subscribers

first_three : (a b : Bool) (denial : Denial) (limit : Option Denial) → or_else (cond a None (Some denial)) (or_else (unless (not b) NameTaken) (or_else limit None)) ≡ cond a (cond b (Some NameTaken) limit) (Some denial)
first_three false b denial limit = refl
first_three true true denial limit = refl
first_three true false denial limit = or_none limit

pub new_judged : (h : History) (subscriber : Bytes) (format : Format) (products : List Bytes) (lag : ℕ) → judge_denial h (AddSubscriber subscriber format products lag)
    ≡ cond (list_all (is_product h) products) (cond (is_subscriber h subscriber) (Some NameTaken) (full thing.Subscriber (length (subscribers h)))) (Some (UnknownThing thing.Product))
new_judged h subscriber format products lag =
    ap (λ o. or_else o (or_else (unless (not (is_subscriber h subscriber)) NameTaken) (or_else (full thing.Subscriber (length (subscribers h))) None))) (all_last (is_product h) thing.Product products)
    ∙ first_three (list_all (is_product h) products) (is_subscriber h subscriber) (UnknownThing thing.Product) (full thing.Subscriber (length (subscribers h)))

pub other_judged : (h : History) (subscriber : Bytes) (active : Bool) (products off : List Bytes) (lag : Option ℕ) → judge_denial h (SetSubscriber subscriber active products off lag)
    ≡ cond (is_subscriber h subscriber) (cond (list_all (is_product h) products) (cond (list_all (is_filter h) off) None (Some (UnknownThing thing.Filter))) (Some (UnknownThing thing.Product))) (Some (UnknownThing thing.Subscriber))
other_judged h subscriber active products off lag =
    or_none (first_missing (absent (is_subscriber h subscriber) thing.Subscriber ++ absent_of (is_product h) thing.Product products ++ absent_of (is_filter h) thing.Filter off))
    ∙ ap first_missing (append_assoc (absent (is_subscriber h subscriber) thing.Subscriber) (absent_of (is_product h) thing.Product products) (absent_of (is_filter h) thing.Filter off))
    ∙ one_first (is_subscriber h subscriber) thing.Subscriber (absent_of (is_product h) thing.Product products ++ absent_of (is_filter h) thing.Filter off)
    ∙ ap (λ o. cond (is_subscriber h subscriber) o (Some (UnknownThing thing.Subscriber)))
    (all_first (is_product h) thing.Product products (absent_of (is_filter h) thing.Filter off)
    ∙ ap (λ o. cond (list_all (is_product h) products) o (Some (UnknownThing thing.Product))) (all_last (is_filter h) thing.Filter off))

-- The commands of a drill are within their limits.
use Rattle.std.proofs.Common.{ℕ, zero, suc, ◌+◌, ◌%◌, ◌<◌, ◌≤◌, ◌^◌, Bool, true, false, if◌then◌else◌, [], ◌∷◌, ◌++◌, length, map, Some, None, lit≤, arith}
use Rattle.std.specs.Prelude.{decimal, All}
use Rattle.std.specs.List.{flat_map, range_with_len}
use Rattle.std.proofs.lemmas.Fmt.{length-decimal-le}
use Rattle.std.proofs.lemmas.List.Elements.{All-nil, All-cons, All-append}
use Rattle.news_types.specs.declared.command.Command.TheVariants.{AddDesk, SetMember, AddCondition, AddFilter, AddProduct, Create, Flash, Lock, Publish}
use Rattle.news_types.specs.declared.words.Field.TheVariants.{Urgency}
use Rattle.news_types.specs.declared.words.Op.TheVariants.{Eq}
use Rattle.news_types.specs.declared.words.How.TheVariants.{Permitting}
use Rattle.news_types.specs.Names.{Bytes}
use Rattle.news_types.specs.Users.{admin}
use Rattle.news_types.specs.Fits.{IsMoment, FitsStory}
use Rattle.news_types.specs.FitsCommands.{FitsValues, FitsStatement, FitsStatements, FitsCommand}
use Rattle.drill_plan.specs.Setup.{desk, condition_name, filter_name, product_name, setup, product_steps, subscriber_step}
use Rattle.drill_plan.specs.Stories.{session, story_of, has_embargo, embargo_of, steps_of}

digits_few : (n : ℕ) → n < 2 ^ 32 → length (decimal n) ≤ 10
digits_few n small = length-decimal-le 10 n (omega arith) (omega arith) (omega arith)

rem_below : (n : ℕ) → n % 8 + 1 ≤ 9
rem_below n = grind arith

story_of-fits : (j r : ℕ) → j < 2 ^ 32 → FitsStory (story_of j r)
story_of-fits j r small = record {
  urgency = rem_below r;
  slugline = lit≤ tt;
  headline = omega (arith, digits_few j small);
  byline = lit≤ tt;
  language = lit≤ tt;
  category = lit≤ tt;
  body = omega (arith, digits_few j small);
  copyright = lit≤ tt;
}

embargo_of-IsMoment : (j r : ℕ) → j < 2 ^ 32 → IsMoment (embargo_of j r)
embargo_of-IsMoment j r small = grind arith

all_one : {A : Type 0} (P : A → Type 0) (x : A) → P x → All P (x ∷ [])
all_one P x px = All-cons P x [] px (All-nil P)

all_three : {A : Type 0} (P : A → Type 0) (x y z : A) → P x → P y → P z → All P (x ∷ y ∷ z ∷ [])
all_three P x y z px py pz = All-cons P x (y ∷ z ∷ []) px (All-cons P y (z ∷ []) py (all_one P z pz))

steps_fit : (b : Bool) (j r : ℕ) → j < 2 ^ 32 → All FitsCommand (if b then Create desk (story_of j r) ∷ Lock j session ∷ Publish j session None (Some (embargo_of j r)) [] ∷ [] else Flash (story_of j r) [] ∷ [])
steps_fit true j r small = all_three FitsCommand (Create desk (story_of j r)) (Lock j session) (Publish j session None (Some (embargo_of j r)) []) (story_of-fits j r small) tt (tt, embargo_of-IsMoment j r small, lit≤ tt)
steps_fit false j r small = all_one FitsCommand (Flash (story_of j r) []) (story_of-fits j r small, lit≤ tt)

pub steps_of-fits : (j r : ℕ) → j < 2 ^ 32 → All FitsCommand (steps_of j r)
steps_of-fits j r small = steps_fit (has_embargo r) j r small

value_short : (i : ℕ) → i < 8 → length (decimal (i + 1)) ≤ 500
value_short i small = let few = digits_few (i + 1) (omega arith) in omega (arith, few)

values_fit : (i : ℕ) → i < 8 → FitsValues (decimal (i + 1) ∷ [])
values_fit i small = record { few = lit≤ tt; short = all_one (λ v. length v ≤ 500) (decimal (i + 1)) (value_short i small) }

statement_fits : (name : Bytes) → FitsStatement (record { conditions = name ∷ []; filters = [] })
statement_fits name = record { conditions = lit≤ tt; filters = lit≤ tt }

statements_fit : (name : Bytes) → FitsStatements (record { conditions = name ∷ []; filters = [] } ∷ [])
statements_fit name = record { few = lit≤ tt; each = all_one FitsStatement (record { conditions = name ∷ []; filters = [] }) (statement_fits name) }

product_steps-fits : (i : ℕ) → i < 8 → All FitsCommand (product_steps i)
product_steps-fits i small =
    all_three FitsCommand
    (AddCondition (condition_name i) Urgency Eq (decimal (i + 1) ∷ []))
    (AddFilter (filter_name i) (record { conditions = condition_name i ∷ []; filters = [] } ∷ []))
    (AddProduct (product_name i) Permitting (Some (filter_name i)))
    (values_fit i small) (statements_fit (condition_name i)) tt

products_fit : (a n : ℕ) → a + n ≤ 8 → All FitsCommand (flat_map product_steps (range_with_len a n))
products_fit a zero small = All-nil FitsCommand
products_fit a (suc n) small = All-append FitsCommand (product_steps a) (flat_map product_steps (range_with_len (a + 1) n)) (product_steps-fits a (omega arith)) (products_fit (a + 1) n (omega arith))

subscribers_fit : (a n : ℕ) → All FitsCommand (map subscriber_step (range_with_len a n))
subscribers_fit a zero = All-nil FitsCommand
subscribers_fit a (suc n) = All-cons FitsCommand (subscriber_step a) (map subscriber_step (range_with_len (a + 1) n)) (lit≤ tt, lit≤ tt) (subscribers_fit (a + 1) n)

pub setup-fits : All FitsCommand setup
setup-fits =
    All-append FitsCommand (AddDesk desk ∷ SetMember desk admin true ∷ [] ++ flat_map product_steps (range_with_len 0 8)) (map subscriber_step (range_with_len 0 8))
    (All-append FitsCommand (AddDesk desk ∷ SetMember desk admin true ∷ []) (flat_map product_steps (range_with_len 0 8))
    (All-cons FitsCommand (AddDesk desk) (SetMember desk admin true ∷ []) tt (All-cons FitsCommand (SetMember desk admin true) [] tt (All-nil FitsCommand)))
    (products_fit 0 8 (lit≤ tt)))
    (subscribers_fit 0 8)

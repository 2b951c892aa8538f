-- What the reasons say is what is.
use Rattle.std.specs.Prelude.{◌≡◌, ℕ, ◌+◌, ◌<◌, Bool, true, false, List, ◌∷◌, ◌++◌, Some, None, slice_get, nat_le}
use Rattle.news_types.specs.declared.story.Story.{Story}
use Rattle.news_types.specs.declared.words.How.{How}
use Rattle.news_types.specs.declared.words.How.TheVariants.{Permitting, Blocking}
use Rattle.news_types.specs.Names.{Bytes}
use Rattle.news_types.specs.History.{History, moment}
use Rattle.news_types.specs.Members.{Each}
use Rattle.news_types.specs.Filters.{Filter, filters, matches}
use Rattle.news_types.specs.Products.{Product, product, Subscriber, subscriber, is_target, permitted}
use Rattle.news_types.specs.Due.{Pub, is_due}
use Rattle.news_types.specs.Publications.{pubs}
use Rattle.news_types.specs.Feeds.{Dispatch, feed, waiting}
use Rattle.news_types.specs.Delivery.{acked}
use Rattle.feed_reasons.specs.declared.verdict.Verdict.{Verdict}
use Rattle.feed_reasons.specs.declared.verdict.Verdict.TheVariants.{NoSubscriber, Inactive, NotTarget, Blocked, Permitted, Refused}
use Rattle.feed_reasons.specs.Verdicts.{verdict, says_permitted, stops, passes, refusals}
use Rattle.feed_reasons.specs.declared.course.Course.TheVariants.{NotDue, Waits, Sent}
use Rattle.feed_reasons.specs.Courses.{course, numbered}
use Rattle.feed_reasons.specs.Reasons.{Reasons, reasons, says_due}

-- ---- what is permitted

-- a story is permitted exactly where the verdict says so
abbrev pub PermittedIsSaid : Type 0
PermittedIsSaid = (h : History) (story : Story) (targets : List Bytes) (s : Bytes) → permitted h story targets s ≡ says_permitted (verdict h story targets s)

abbrev pub IsOf : History → Bytes → (Subscriber → Type 0) → Type 0
IsOf h s P = (it : Subscriber) × (subscriber h s ≡ Some it) × P it

-- one of the list
abbrev pub IsAmong : {A : Type 0} → List A → A → Type 0
IsAmong {A} xs x = (before : List A) × (after : List A) × (xs ≡ before ++ x ∷ after)

-- the first of the list that passes
abbrev pub IsFirst : {A : Type 0} → (A → Bool) → List A → A → Type 0
IsFirst {A} t xs x = (t x ≡ true) × (before : List A) × (after : List A) × (xs ≡ before ++ x ∷ after) × Each (λ y. t y ≡ false) before

abbrev pub blocks_by : How → Bool
blocks_by Permitting = false
blocks_by Blocking = true

-- the product does not permit the story: it has a filter, and that matches where the product blocks, and else does not
pub record IsRefused (h : History) (story : Story) (name : Bytes) : Type 0 where
  pub fails : passes h story name ≡ false
  pub why : (p : Product) → product h name ≡ Some p → (filter : Bytes) × (p.filter ≡ Some filter) × (matches h filter story ≡ blocks_by p.how)

-- the cause that the verdict gives is one: a block is the youngest that stops the story, a product the first that permits it
abbrev pub IsTrueVerdict : History → Story → List Bytes → Bytes → Verdict → Type 0
IsTrueVerdict h story targets s NoSubscriber = subscriber h s ≡ None
IsTrueVerdict h story targets s Inactive = IsOf h s (λ (it : Subscriber). it.active ≡ false)
IsTrueVerdict h story targets s NotTarget = IsOf h s (λ (it : Subscriber). (it.active ≡ true) × (is_target s targets ≡ false))
IsTrueVerdict h story targets s (Blocked name) = IsOf h s (λ (it : Subscriber). (it.active ≡ true) × (is_target s targets ≡ true) × (f : Filter) × (f.name ≡ name) × IsFirst (stops h story it.off) (filters h) f)
IsTrueVerdict h story targets s (Permitted name) = IsOf h s (λ (it : Subscriber). IsFirst (passes h story) it.products name)
IsTrueVerdict h story targets s (Refused those) = IsOf h s (λ (it : Subscriber). (those ≡ refusals h story it.products) × Each (IsRefused h story) it.products)

abbrev pub VerdictsAreTrue : Type 0
VerdictsAreTrue = (h : History) (story : Story) (targets : List Bytes) (s : Bytes) → IsTrueVerdict h story targets s (verdict h story targets s)

-- ---- what is due

-- a publication is due exactly where its reasons say so
abbrev pub DueIsSaid : Type 0
DueIsSaid = (h : History) (n : ℕ) (s : Bytes) (p : Pub) (r : Reasons) → numbered n (pubs h) ≡ Some p → reasons h n s ≡ Some r → is_due s p ≡ says_due r

-- its course is that it is not due exactly where it is not
pub record IsNotDue (h : History) (n : ℕ) (s : Bytes) (p : Pub) : Type 0 where
  pub only : course h n s ≡ NotDue → is_due s p ≡ false
  pub where_not : is_due s p ≡ false → course h n s ≡ NotDue

abbrev pub NotDueIsSaid : Type 0
NotDueIsSaid = (h : History) (n : ℕ) (s : Bytes) (p : Pub) → numbered n (pubs h) ≡ Some p → IsNotDue h n s p

-- ---- what is sent

-- entry k of the feed, counted from 1, is publication n
pub record IsEntry (h : History) (s : Bytes) (n k : ℕ) : Type 0 where
  pub before : ℕ
  pub dispatch : Dispatch
  pub place : k ≡ before + 1
  pub there : slice_get (feed h s) before ≡ Some dispatch
  pub number : dispatch.shown.number ≡ n

-- what is said to be sent is that entry, and is acknowledged as is said
abbrev pub SentIsEntry : Type 0
SentIsEntry = (h : History) (n : ℕ) (s : Bytes) (k : ℕ) (seen : Bool) → course h n s ≡ Sent k seen → IsEntry h s n k × (seen ≡ nat_le k (acked h s))

-- what is said to wait up to a moment has its release then, behind the last entry's moment
abbrev pub WaitsAsSaid : Type 0
WaitsAsSaid = (h : History) (n : ℕ) (s : Bytes) (time : ℕ) → course h n s ≡ Waits time → (moment h < time) × (d : Dispatch) × (d.shown.number ≡ n) × (d.release ≡ time) × IsAmong (waiting h s) d

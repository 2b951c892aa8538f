-- The verdict, cause by cause, and a refusal.
use Rattle.std.proofs.Common.{◌≡◌, Bool, true, false, cond, List, Option, Some, None, sym, ap, ◌∙◌}
use Rattle.news_types.specs.Names.{Bytes}
use Rattle.news_types.specs.History.{History}
use Rattle.news_types.specs.declared.story.Story.{Story}
use Rattle.news_types.specs.Products.{Subscriber, product, subscriber, is_target}
use Rattle.feed_reasons.specs.declared.verdict.Refusal.{Refusal}
use Rattle.feed_reasons.specs.declared.verdict.Verdict.{Verdict}
use Rattle.feed_reasons.specs.declared.verdict.Verdict.TheVariants.{NoSubscriber, Inactive, NotTarget}
use Rattle.feed_reasons.specs.Verdicts.{filter_of, matches_any, refusal, block, by_blocks, by_subscriber, verdict}

module _ (h : History) (story : Story) (targets : List Bytes) (s : Bytes) where
  pub told_none : subscriber h s ≡ None → NoSubscriber ≡ verdict h story targets s
  told_none none = sym (ap (by_subscriber h story targets s) none)

  module _ (it : Subscriber) (there : subscriber h s ≡ Some it) where
    abbrev of_it : Bool → Bool → Verdict
    of_it active target = cond active (cond target (by_blocks h story it.products (block h story it.off)) NotTarget) Inactive

    told_it : (active target : Bool) → it.active ≡ active → is_target s targets ≡ target → of_it active target ≡ verdict h story targets s
    told_it active target one two =
        sym (ap (by_subscriber h story targets s) there
        ∙ ap (λ (b : Bool). of_it b (is_target s targets)) one
        ∙ ap (λ (b : Bool). of_it active b) two)

    pub told_inactive : it.active ≡ false → Inactive ≡ verdict h story targets s
    told_inactive one = told_it false (is_target s targets) one (λ i. is_target s targets)

    pub told_not_target : it.active ≡ true → is_target s targets ≡ false → NotTarget ≡ verdict h story targets s
    told_not_target one two = told_it true false one two

    pub told_by_blocks : it.active ≡ true → is_target s targets ≡ true → by_blocks h story it.products (block h story it.off) ≡ verdict h story targets s
    told_by_blocks one two = told_it true true one two

pub told_refusal : (h : History) (story : Story) (name : Bytes) (filter : Option Bytes) (matching : Bool) → filter ≡ filter_of (product h name) → matching ≡ matches_any h story filter
    → record { product = name; filter = filter; matches = matching } ≡ refusal h story name
told_refusal h story name filter matching one two =
    ap (made filter) two ∙ ap (λ (f : Option Bytes). made f (matches_any h story f)) one
  where
    made : Option Bytes → Bool → Refusal
    made f m = record { product = name; filter = f; matches = m }

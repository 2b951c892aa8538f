-- What a deschedule does.
use Rattle.std.proofs.Common.{Global, ◌≡◌, ℕ, ◌<◌, ◌==◌, ◌&&◌, Bool, true, false, cond, not, List, [], ◌∷◌, Option, Some, None, refl, sym, ap, ◌∙◌, subst, arith}
use Rattle.std.specs.Prelude.{Vec, nat_le, is_some}
use Rattle.std.specs.Option.{option_map}
use Rattle.std.proofs.lemmas.Bool.Decides.{nat_tests, Decides-eqb}
use mathlib.Core.Bool.{true≢false}
use Rattle.news_types.specs.declared.entry.Act.TheVariants.{Request}
use Rattle.news_types.specs.declared.command.Command.TheVariants.{Deschedule}
use Rattle.news_types.specs.declared.words.State.{State}
use Rattle.news_types.specs.declared.words.State.TheVariants.{Scheduled, Published}
use Rattle.news_types.specs.Names.{Bytes}
use Rattle.news_types.specs.Members.{Each}
use Rattle.news_types.specs.History.{History, moment}
use Rattle.news_types.specs.Legal.{IsLegal}
use Rattle.news_types.specs.Outcome.{entry_of}
use Rattle.news_types.specs.Due.{Pub, is_first, is_first_of, standing_first, had, is_released, withdrawn}
use Rattle.news_types.specs.Items.{Item, state_at}
use Rattle.news_types.specs.Publications.{made, item, pubs, standing}
use Rattle.news_types.proofs.Members.{some_is, none_some, each_map, each_filter}
use Rattle.news_types.proofs.Firsts.{firsts}
use Rattle.news_types.proofs.Legal.{descheduled, missing_row, item_there}
use Rattle.news_types.proofs.Numbering.{Falls, standing_falls}
use Rattle.news_types.proofs.Withdrawal.{withdrawn_number, withdrawn_nothing}
use Rattle.publications.specs.declared.table.FirstFacts.{FirstFacts}
use Rattle.publications.specs.declared.change.PublicationChange.{PublicationChange}
use Rattle.publications.specs.declared.change.Step.TheVariants as pub_step
use Rattle.publications.specs.Keeps.{facts_of}
use Rattle.publications.specs.Steps.{IsFor as IsForPublications, Leads as LeadsPublications}
use Rattle.publish_queue.specs.declared.release.Span.{Span}
use Rattle.publish_queue.specs.Rows.{is_among}
use Rattle.story_tables.specs.Feeds.{FeedsFor, withdrawal_of, AreSpansOf}
use Rattle.story_tables.proofs.Spanned.{are_within, or_none}
use Rattle.story_tables.proofs.Later.{is_later, is_past, later_at, past_of, nothing_had, IsOfPast}

-- where the numbers fall, the publication of that number is this one
found_is : (P : Pub → Type 0) (i : ℕ) (ps : List Pub) (p : Pub) → Each P ps → standing_first i ps ≡ Some p → P p
found_is P i [] p all found = absurd (none_some p found)
found_is P i (q ∷ ps) p all found = by (is_first_of i q) found (found_is P i ps p all.1)
  where
    by : (b : Bool) → cond b (Some q) (standing_first i ps) ≡ Some p → (standing_first i ps ≡ Some p → P p) → P p
    by true found rest = subst P (some_is q p found) all.0
    by false found rest = rest found

only_first : (P : Pub → Type 0) (i : ℕ) (ps : List Pub) (p : Pub) → Falls ps → standing_first i ps ≡ Some p → P p → Each (λ (q : Pub). q.number ≡ p.number → P q) ps
only_first P i [] p falls found here = tt
only_first P i (q ∷ ps) p falls found here = by (is_first_of i q) found (only_first P i ps p falls.1)
  where
    lower : (o : Pub) → q ≡ p → o.number < q.number → o.number ≡ p.number → P o
    lower o is less alike = let n : q.number ≡ p.number = ap (λ (x : Pub). x.number) is in absurd (omega (arith, n, less, alike))

    by : (b : Bool) → cond b (Some q) (standing_first i ps) ≡ Some p → (standing_first i ps ≡ Some p → P p → Each (λ (o : Pub). o.number ≡ p.number → P o) ps) → Each (λ (o : Pub). o.number ≡ p.number → P o) (q ∷ ps)
    by true found rest =
        let is : q ≡ p = some_is q p found in
        (λ alike. subst P (sym is) here, each_map (λ (o : Pub). o.number < q.number) (λ (o : Pub). o.number ≡ p.number → P o) ps (λ o less. lower o is less) falls.0)
    by false found rest =
        let less : p.number < q.number = found_is (λ (o : Pub). o.number < q.number) i ps p falls.0 found in
        (λ alike. absurd (omega (arith, less, alike)), rest found here)

-- it is of the item
found_item : (i : ℕ) (ps : List Pub) (p : Pub) → standing_first i ps ≡ Some p → (p.item == i) ≡ true
found_item i [] p found = absurd (none_some p found)
found_item i (q ∷ ps) p found = by (is_first_of i q) refl found (found_item i ps p)
  where
    second : (a b : Bool) → (a && b) ≡ true → b ≡ true
    second true b is = is
    second false b is = absurd (true≢false (sym is))

    by : (b : Bool) → is_first_of i q ≡ b → cond b (Some q) (standing_first i ps) ≡ Some p → (standing_first i ps ≡ Some p → (p.item == i) ≡ true) → (p.item == i) ≡ true
    by true is found rest = ap (λ (x : Pub). x.item == i) (sym (some_is q p found)) ∙ second (is_first q.kind) (q.item == i) is
    by false is found rest = rest found

-- the one with its number is of the item
one_of_item : (i n : ℕ) (ps : List Pub) → Each (λ (q : Pub). q.number ≡ n → (q.item == i) ≡ true) ps → Each (λ (q : Pub). is_among q.number (n ∷ []) ≡ true → (q.item == i) ≡ true) ps
one_of_item i n ps all = each_map (λ (q : Pub). q.number ≡ n → (q.item == i) ≡ true) (λ (q : Pub). is_among q.number (n ∷ []) ≡ true → (q.item == i) ≡ true) ps
    (λ q of among. of ((Decides-eqb q.number n).0 (sym (or_none (q.number == n)) ∙ among))) all

firsts_gone : (i : ℕ) (ps : List Pub) → firsts i (withdrawn i ps) ≡ []
firsts_gone i [] = refl
firsts_gone i (p ∷ ps) = by (is_first_of i p) refl (firsts_gone i ps)
  where
    by : (b : Bool) → is_first_of i p ≡ b → firsts i (withdrawn i ps) ≡ [] → firsts i (cond (not b) (p ∷ withdrawn i ps) (withdrawn i ps)) ≡ []
    by true e rest = rest
    by false e rest = rw e rest

-- a scheduled item is not past, and its first publication is not released
scheduled_early : (m : ℕ) (first : Option Pub) (from : State) → state_at m first from ≡ Scheduled → is_later from ≡ false
scheduled_early m first from is = by (is_later from) refl
  where
    by : (b : Bool) → is_later from ≡ b → b ≡ false
    by true later = absurd (true≢false (sym (later_at m first from later) ∙ ap is_later is))
    by false later = refl

abbrev is_out : State → Bool
is_out Published = true
is_out _ = false

abbrev is_waiting : State → Bool
is_waiting Scheduled = true
is_waiting _ = false

scheduled_waits : (m : ℕ) (first : Option Pub) (from : State) → state_at m first from ≡ Scheduled → is_released m first ≡ false
scheduled_waits m first Scheduled is = by (is_released m first) is
  where
    by : (b : Bool) → cond b Published Scheduled ≡ Scheduled → b ≡ false
    by true is = absurd (true≢false (ap is_out is))
    by false is = refl
scheduled_waits m first Published is = absurd (true≢false (ap is_out is))
scheduled_waits m first from is = absurd (true≢false (sym (ap is_waiting is)))

module _ (h : History) (m number i : ℕ) (caller : Bytes) (legal : IsLegal (entry_of m (Request caller number (Deschedule i)) ∷ h)) where
  abbrev behind : History
  behind = entry_of m (Request caller number (Deschedule i)) ∷ h

  early_by : (o : Option Item) → item h i ≡ o → is_past o ≡ false
  early_by None is = refl
  early_by (Some it) is = scheduled_early m (standing_first i (standing h)) it.state (descheduled h caller number i m it legal.2.1 is)

  none_left : (s : Bytes) → had (withdrawn i (standing h)) i s ≡ false
  none_left s = nothing_had ((made h).items) (withdrawn i (standing h)) i s (each_filter (IsOfPast ((made h).items)) _ (standing h) (past_of h legal.0)) (early_by (item h i) refl) (firsts_gone i (standing h))

  pub deschedule_publications : (change : PublicationChange) → change.step ≡ pub_step.Withdraw i → IsForPublications change (pubs h) (standing h) (pubs behind) (standing behind)
  deschedule_publications change is = record {
    leads = subst (λ s. LeadsPublications s (pubs h) (standing h) (pubs behind) (standing behind)) (sym is) (record { all = refl; stands = refl; none = none_left });
  }

  early : is_released m (standing_first i (standing h)) ≡ false
  early = by (item h i) refl
    where
      by : (o : Option Item) → item h i ≡ o → is_released m (standing_first i (standing h)) ≡ false
      by None is = absurd (true≢false (sym (item_there (item h i) (missing_row h caller number (Deschedule i) m legal.2.1)) ∙ ap is_some is))
      by (Some it) is = scheduled_waits m (standing_first i (standing h)) it.state (descheduled h caller number i m it legal.2.1 is)

  feeds_by : (spans : Vec Span Global) (o : Option Pub) → AreSpansOf spans.items (standing h) i → standing_first i (standing h) ≡ o → is_released m o ≡ false → FeedsFor (withdrawal_of (option_map facts_of o) spans) h behind
  feeds_by spans None are found waits = record {
    subscribed = refl;
    stands = withdrawn_nothing h i found;
    sent = record { receipts = λ s. refl; attempts = λ s. refl; last = λ s. refl };
  }
  feeds_by spans (Some p) are found waits = record {
    subscribed = refl;
    sent = record { receipts = λ s. refl; attempts = λ s. refl; last = λ s. refl };
    stands = withdrawn_number h i p legal.0 found;
    waits = only_first (λ (q : Pub). moment h < q.release) i (standing h) p (standing_falls h) found (behind_moment p waits);
    has = only_first (λ (q : Pub). q.release ≡ p.release) i (standing h) p (standing_falls h) found refl;
    within = are_within (moment h) i (p.number ∷ []) spans.items (standing h)
        (one_of_item i p.number (standing h) (only_first (λ (q : Pub). (q.item == i) ≡ true) i (standing h) p (standing_falls h) found (found_item i (standing h) p found))) are;
  }
    where
      behind_moment : (p : Pub) → nat_le p.release m ≡ false → moment h < p.release
      behind_moment p waits = let late : m < p.release = grind (arith, nat_tests, waits) in omega (arith, late, legal.1)

  pub deschedule_feeds : (first : Option FirstFacts) (spans : Vec Span Global) → AreSpansOf spans.items (standing h) i → first ≡ option_map facts_of (standing_first i (standing h)) → FeedsFor (withdrawal_of first spans) h behind
  deschedule_feeds first spans are is = subst (λ o. FeedsFor (withdrawal_of o spans) h behind) (sym is) (feeds_by spans (standing_first i (standing h)) are refl early)

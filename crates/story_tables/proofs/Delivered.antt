-- What the queue tells is what the list says.
use Rattle.std.proofs.Common.{◌≡◌, ℕ, ◌+◌, ◌==◌, ◌&&◌, Bool, true, false, cond, [], ◌∷◌, length, Option, Some, None, refl, sym, ◌∙◌}
use Rattle.std.specs.Prelude.{MatchResult, Ok, Err, nat_lt, nat_le, filter_map}
use Rattle.std.specs.Option.{option_map}
use Rattle.std.proofs.lemmas.Bool.{false≢true}
use Rattle.news_types.specs.Names.{Bytes, is_in}
use Rattle.news_types.specs.History.{History}
use Rattle.news_types.specs.Products.{subscribers, is_subscriber}
use Rattle.news_types.specs.Feeds.{feed}
use Rattle.news_types.specs.Delivery.{candidate, earliest, acked, is_by, ready_at, is_ready, chosen, choice}
use Rattle.news_types.specs.declared.denial.Denial.TheVariants.{ReceiptAhead}
use Rattle.news_types.specs.Denial.{receipt_denial}
use Rattle.news_types.proofs.Subscribed.{listed_is}
use Rattle.story_tables.specs.Keeps.{facts_at}
use Rattle.story_tables.specs.Delivering.{is_now, judged}

module _ (h : History) where
  one_by : (s : Bytes) (k : ℕ) (there : Bool) (m : ℕ) (turn : Option ℕ)
      → is_now (chosen h (earliest (filter_map (λ (t : Bytes). cond (there && is_by m turn) (option_map (candidate s) turn) None) (s ∷ []))) (s ∷ [])) k ≡ ((there && is_by m turn) && k == acked h s + 1)
  one_by s k false m turn = refl
  one_by s k true m None = refl
  one_by s k true m (Some t) = elim (nat_le t m) as (λ (b : Bool). is_now (chosen h (earliest (filter_map (λ (u : Bytes). cond b (Some (candidate s t)) None) (s ∷ []))) (s ∷ [])) k ≡ (b && k == acked h s + 1)) [ true ↦ refl | false ↦ refl ]

  pub one_choice : (s : Bytes) (k m : ℕ) → is_now (choice h (s ∷ []) m) k ≡ (is_ready h s m && k == acked h s + 1)
  one_choice s k m = one_by s k (is_subscriber h s) m (ready_at h s)

  judged_by : (s : Bytes) (n : ℕ) (b : Bool) → is_subscriber h s ≡ b → MatchResult (judged (cond b (Some (facts_at h s)) None) n) (λ raises. (receipt_denial h s n ≡ None) × (raises ≡ nat_lt (acked h s) n)) (λ denial. receipt_denial h s n ≡ Some denial)
  judged_by s n false is = rw is refl
  judged_by s n true is =
      elim (nat_le n (length (feed h s))) as (λ (b : Bool). nat_le n (length (feed h s)) ≡ b → MatchResult (cond b (Ok (nat_lt (acked h s) n)) (Err (ReceiptAhead (length (feed h s)))))
      (λ raises. (receipt_denial h s n ≡ None) × (raises ≡ nat_lt (acked h s) n)) (λ denial. receipt_denial h s n ≡ Some denial)) [
        | true ↦ λ within. (rw (is, within) refl, refl)
        | false ↦ λ past. rw (is, past) refl
      ] refl

  pub receipt_judged : (s : Bytes) (n : ℕ) → MatchResult (judged (cond (is_in s (subscribers h)) (Some (facts_at h s)) None) n) (λ raises. (receipt_denial h s n ≡ None) × (raises ≡ nat_lt (acked h s) n)) (λ denial. receipt_denial h s n ≡ Some denial)
  receipt_judged s n = judged_by s n (is_in s (subscribers h)) (sym (listed_is h s))

pub ready_there : (h : History) (s : Bytes) (m : ℕ) → is_ready h s m ≡ true → (is_in s (subscribers h) ≡ true) × (is_by m (ready_at h s) ≡ true)
ready_there h s m ready =
    let parts = both (is_subscriber h s) (is_by m (ready_at h s)) ready in
    (listed_is h s ∙ parts.0, parts.1)
  where
    both : (a b : Bool) → (a && b) ≡ true → (a ≡ true) × (b ≡ true)
    both true b is = (refl, is)
    both false b is = absurd (false≢true is)

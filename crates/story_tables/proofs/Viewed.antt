-- What questions read of items and feeds.
use Rattle.std.proofs.Common.{◌≡◌, ℕ, suc, ◌+◌, ◌≤◌, ◌||◌, Bool, true, false, cond, List, [], ◌∷◌, length, Option, Some, None, refl, sym, ap, ◌∙◌, arith}
use Rattle.std.specs.Option.{option_map}
use Rattle.news_types.specs.declared.query.Due.{Due}
use Rattle.news_types.specs.Names.{Bytes, same, is_in}
use Rattle.news_types.specs.History.{History}
use Rattle.news_types.specs.Feeds.{feed}
use Rattle.news_types.specs.Frames.{numbered}
use Rattle.news_types.specs.Delivery.{next_entry, acked}
use Rattle.news_types.proofs.Members.{some_is, none_some}
use Rattle.publish_queue.specs.declared.ask.FeedFacts.{FeedFacts}
use Rattle.publish_queue.proofs.Entries.{slice_get_past}
use Rattle.publications.specs.Keeps.{subscribers_in}
use Rattle.story_tables.specs.Keeps.{facts_at}
use Rattle.story_tables.specs.Views.{release_in, is_due_among}

pub due_among : (s : Bytes) (due : List Due) → is_due_among s due ≡ is_in s (subscribers_in due)
due_among s [] = refl
due_among s (d ∷ due) = ap (λ (b : Bool). same s d.subscriber || b) (due_among s due)

-- ---- the first entry that is not acknowledged

abbrev oldest : History → Bytes → Bool → Option ℕ
oldest h s there = cond there (option_map release_in (next_entry h s)) None

-- where it is told how the feed stands, the subscriber is there
told_is : (h : History) (s : Bytes) (there : Bool) (f : FeedFacts) → Some f ≡ cond there (Some (facts_at h s)) None → (there ≡ true) × (f ≡ facts_at h s)
told_is h s true f is = (refl, some_is f (facts_at h s) is)
told_is h s false f is = absurd (none_some f (sym is))

pub oldest_untold : (h : History) (s : Bytes) (there : Bool) → None ≡ cond there (Some (facts_at h s)) None → None ≡ oldest h s there
oldest_untold h s true is = absurd (none_some (facts_at h s) is)
oldest_untold h s false is = refl

-- it is the one behind those that were acknowledged
pub oldest_next : (h : History) (s : Bytes) (there : Bool) (f : FeedFacts) (told : Option ℕ) → Some f ≡ cond there (Some (facts_at h s)) None
    → told ≡ cond there (option_map release_in (numbered (feed h s) (f.acked + 1))) None → told ≡ oldest h s there
oldest_next h s there f told is released =
    let found = told_is h s there f is in
    let next : f.acked + 1 ≡ suc (acked h s) = omega (arith, ap (λ (g : FeedFacts). g.acked) found.1) in
    released ∙ ap (λ (k : ℕ). cond there (option_map release_in (numbered (feed h s) k)) None) next

-- there is none where all were
pub oldest_past : (h : History) (s : Bytes) (there : Bool) (f : FeedFacts) → Some f ≡ cond there (Some (facts_at h s)) None → f.length ≤ f.acked → None ≡ oldest h s there
oldest_past h s there f is all =
    let found = told_is h s there f is in
    let past : length (feed h s) ≤ acked h s = omega (arith, all, ap (λ (g : FeedFacts). g.acked) found.1, ap (λ (g : FeedFacts). g.length) found.1) in
    sym (ap (λ (b : Bool). cond b (option_map release_in (next_entry h s)) None) found.0 ∙ ap (option_map release_in) (slice_get_past (feed h s) (acked h s) past))

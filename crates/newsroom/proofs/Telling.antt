-- Answers to questions.
use Rattle.std.proofs.Common.{◌≡◌, ℕ, ◌+◌, Bool, true, false, cond, Option, Some, None, List, length, take, drop, refl, sym, ap, ◌∙◌}
use Rattle.std.specs.Prelude.{is_some}
use Rattle.std.specs.Option.{option_map}
use Rattle.news_types.specs.declared.query.Answer.{Answer}
use Rattle.news_types.specs.declared.query.Answer.TheVariants as told
use Rattle.news_types.specs.declared.query.ItemRow.{ItemRow}
use Rattle.news_types.specs.declared.rules.Place.{Place}
use Rattle.news_types.specs.declared.query.Holder.{Holder}
use Rattle.news_types.specs.History.{History, moment}
use Rattle.news_types.specs.Due.{standing_first}
use Rattle.news_types.specs.Items.{Item, state_at}
use Rattle.news_types.specs.Publications.{item, pubs, standing}
use Rattle.news_types.specs.declared.query.FeedRow.{FeedRow}
use Rattle.news_types.specs.declared.words.Thing.TheVariants as thing
use Rattle.news_types.specs.Names.{Bytes, is_in}
use Rattle.news_types.specs.Products.{subscribers, is_subscriber}
use Rattle.news_types.specs.Feeds.{feed}
use Rattle.news_types.specs.Answers.{item_answer, of_subscriber, feed_answer, feed_rows}
use Rattle.news_types.proofs.Members.{some_is, none_some}
use Rattle.news_types.proofs.Subscribed.{listed_is}
use Rattle.publish_queue.specs.declared.ask.FeedFacts.{FeedFacts}
use Rattle.desk_rules.specs.Asked.{place_in, holder_in}
use Rattle.story_tables.specs.Asked.{row_in}
use Rattle.newsroom.specs.Asking.{item_told}

by_item : (h : History) (i : ℕ) (o : Option Item) → item_told (option_map (row_in h i (moment h) (place_in o) (holder_in o)) o) ≡ item_answer i o (option_map (λ (it : Item). state_at (moment h) (standing_first i (standing h)) it.state) o)
by_item h i None = refl
by_item h i (Some it) = refl

-- an item as it is told
pub told_item : (h : History) (i m : ℕ) (place : Option Place) (holder : Option Holder) (row : Option ItemRow) → m ≡ moment h → place ≡ place_in (item h i) → holder ≡ holder_in (item h i)
    → row ≡ option_map (row_in h i m place holder) (item h i) → item_told row ≡ item_answer i (item h i) (option_map (λ (it : Item). state_at (moment h) (standing_first i (standing h)) it.state) (item h i))
told_item h i m place holder row at place_is holder_is is =
    ap item_told is ∙ (λ j. item_told (option_map (row_in h i (at j) (place_is j) (holder_is j)) (item h i))) ∙ by_item h i (item h i)

abbrev check : ℕ → ℕ → ℕ → Answer
check entries at publications = told.Check entries at publications

pub told_check : (h : History) (entries at publications : ℕ) → entries ≡ length h → at ≡ moment h → publications ≡ length (pubs h) → told.Check entries at publications ≡ told.Check (length h) (moment h) (length (pubs h))
told_check h entries at publications one two three = λ j. check (one j) (two j) (three j)

-- a subscriber is there where its feed has facts
has_feed : (h : History) (s : Bytes) (o : Option FeedFacts) (f : FeedFacts) → o ≡ cond (is_in s (subscribers h)) (Some f) None → is_some o ≡ is_subscriber h s
has_feed h s o f is = ap is_some is ∙ elim (is_in s (subscribers h)) as (λ b. is_some (cond b (Some f) None) ≡ b) [ true ↦ refl | false ↦ refl ] ∙ listed_is h s

pub feed_absent : (h : History) (s : Bytes) (o : Option FeedFacts) (f : FeedFacts) → o ≡ cond (is_in s (subscribers h)) (Some f) None → o ≡ None → is_subscriber h s ≡ false
feed_absent h s o f is none = sym (has_feed h s o f is) ∙ ap is_some none

-- the facts of a feed that is there
pub feed_there : (h : History) (s : Bytes) (o : Option FeedFacts) (f g : FeedFacts) → o ≡ cond (is_in s (subscribers h)) (Some f) None → o ≡ Some g → (is_in s (subscribers h) ≡ true) × (g ≡ f)
feed_there h s o f g is some = by (is_in s (subscribers h)) (sym some ∙ is)
  where
    by : (b : Bool) → Some g ≡ cond b (Some f) None → (b ≡ true) × (g ≡ f)
    by true same = (refl, some_is g f same)
    by false same = absurd (none_some g (sym same))

-- the answer to a question for a feed, by whether it is there
pub feed_unknown : (h : History) (s : Bytes) (after : ℕ) → is_subscriber h s ≡ false → told.Unknown thing.Subscriber ≡ of_subscriber h s (feed_answer h s after)
feed_unknown h s after absent = ap (λ (b : Bool). cond b (feed_answer h s after) (told.Unknown thing.Subscriber)) (sym absent)

pub feed_told : (h : History) (s : Bytes) (after n : ℕ) (rows : List FeedRow) → is_subscriber h s ≡ true → n ≡ length (feed h s) → rows ≡ feed_rows (after + 1) (take 100 (drop after (feed h s)))
    → told.Feed s n rows ≡ of_subscriber h s (feed_answer h s after)
feed_told h s after n rows there long is =
    ap (λ (k : ℕ). told.Feed s k rows) long ∙ ap (λ (rs : List FeedRow). told.Feed s (length (feed h s)) rs) is ∙ ap (λ (b : Bool). cond b (feed_answer h s after) (told.Unknown thing.Subscriber)) (sym there)

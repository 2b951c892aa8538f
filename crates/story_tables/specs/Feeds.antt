-- What an entry does to the feeds.
use Rattle.std.specs.Prelude.{◌≡◌, ◌≤◌, ◌<◌, ◌==◌, ◌&&◌, not, nat_le, ℕ, true, false, List, [], ◌∷◌, map, unwrap_or, Vec, Option, Some, None, if◌then◌else◌}
use Rattle.std.specs.Global.{Global}
use Rattle.std.specs.List.{filter}
use Rattle.std.specs.HashMap.{HashMap, get}
use Rattle.news_types.specs.declared.query.Due.{Due}
use Rattle.news_types.specs.Names.{Bytes, same, is_in}
use Rattle.news_types.specs.Members.{Each}
use Rattle.news_types.specs.declared.command.Command.{Command}
use Rattle.news_types.specs.declared.command.Command.TheVariants as command
use Rattle.news_types.specs.declared.words.Kind.{Kind}
use Rattle.news_types.specs.declared.words.Kind.TheVariants as kind
use Rattle.news_types.specs.History.{History, moment}
use Rattle.news_types.specs.Products.{subscribers}
use Rattle.news_types.specs.Due.{Pub, release_to, is_due, had_by, latest, taken_back}
use Rattle.news_types.specs.Publications.{standing}
use Rattle.news_types.specs.Delivery.{acked, tries, tried}
use Rattle.publish_queue.specs.declared.queue.Queue.{Queue}
use Rattle.publish_queue.specs.Keeps.{Keeps, HasRoom, HasSpare, IsFair, facts}
use Rattle.publish_queue.specs.declared.release.Span.{Span}
use Rattle.publish_queue.specs.Withdrawn.{AreOfItem, HasRelease, AreWithin}
use Rattle.publish_queue.specs.Order.{Differ}
use Rattle.publish_queue.specs.Many.{names_in, is_within}
use Rattle.publications.specs.declared.table.FirstFacts.{FirstFacts}
use Rattle.story_tables.specs.declared.feeds.FeedStep.{FeedStep}
use Rattle.story_tables.specs.declared.feeds.FeedStep.TheVariants.{Subscriber, Resume, Publish, TakeBack, Withdraw, Nothing}

-- the queue keeps the feeds of the list at a moment
abbrev pub KeepsQueue : Queue → History → ℕ → Type 0
KeepsQueue q h m = Keeps q (record (facts h) { moment = m })

-- what was sent and acknowledged stays, behind h as behind g
pub record SameDelivery (h g : History) : Type 0 where
  pub receipts : (s : Bytes) → acked g s ≡ acked h s
  pub attempts : (s : Bytes) → tries g s ≡ tries h s
  pub last : (s : Bytes) → tried g s ≡ tried h s

pub record Adds (name : Bytes) (h g : History) : Type 0 where
  pub subscribed : subscribers g ≡ name ∷ subscribers h
  pub stands : standing g ≡ standing h
  pub sent : SameDelivery h g
  pub new : is_in name (subscribers h) ≡ false

pub record Resumes (name : Bytes) (h g : History) : Type 0 where
  pub subscribed : subscribers g ≡ subscribers h
  pub stands : standing g ≡ standing h
  pub receipts : (s : Bytes) → acked g s ≡ acked h s
  pub attempts : (s : Bytes) → tries g s ≡ (if same name s then 0 else tries h s)
  pub last : (s : Bytes) → tried g s ≡ tried h s
  pub there : is_in name (subscribers h) ≡ true

-- to whom it is due, and when it is released to each
pub record Issues (number release : ℕ) (due : List Due) (h g : History) : Type 0 where
  pub subscribed : subscribers g ≡ subscribers h
  pub sent : SameDelivery h g
  pub p : Pub
  pub stands : standing g ≡ p ∷ standing h
  pub is_number : p.number ≡ number
  pub is_release : p.release ≡ release
  pub is_due_to : (s : Bytes) → release_to s p.due ≡ release_to s due
  pub later : moment h ≤ release
  pub fair : IsFair p
  pub known : (s : Bytes) → is_due s p ≡ true → is_in s (subscribers h) ≡ true

-- ---- when what stands of an item is released

-- the map has the release for each subscriber
abbrev pub AreReleases : {S : Type 0} → HashMap Bytes ℕ S → List Due → Type 0
AreReleases releases due = (s : Bytes) → get same releases s ≡ release_to s due

abbrev pub last_release : List Due → Bytes → ℕ
last_release newest s = unwrap_or (release_to s newest) 0

abbrev pub span_by : List Due → Due → Span
span_by newest d = record { subscriber = d.subscriber; first = d.release; last = last_release newest d.subscriber }

-- from the first release for each subscriber to the newest
abbrev pub spans_of : List Due → List Due → List Span
spans_of soonest newest = map (span_by newest) soonest

-- for each subscriber from the first release of what stands of the item to the latest
abbrev pub AreSpansOf : List Span → List Pub → ℕ → Type 0
AreSpansOf spans st i = (s : Bytes) (moment : ℕ) → is_within s moment spans ≡ (had_by moment st i s && nat_le moment (latest st i s))

-- ---- what is withdrawn

-- what waits of an item, and is released within the spans, is taken back at the moment of the entry, at which one more is due to
-- these
pub record Retracts (numbers : List ℕ) (spans : List Span) (number : ℕ) (due : List Due) (h g : History) : Type 0 where
  pub subscribed : subscribers g ≡ subscribers h
  pub sent : SameDelivery h g
  pub p : Pub
  pub stands : standing g ≡ p ∷ taken_back (moment g) p.item (standing h)
  pub are : AreOfItem (moment g) p.item numbers (standing h)
  pub within : AreWithin (moment g) numbers spans (standing h)
  pub is_number : p.number ≡ number
  pub is_release : p.release ≡ moment g
  pub is_due_to : (s : Bytes) → release_to s p.due ≡ release_to s due
  pub fair : IsFair p
  pub known : (s : Bytes) → is_due s p ≡ true → is_in s (subscribers h) ≡ true

-- the publication of that number, which waits for its release, and is released to each within the spans, is withdrawn
pub record Takes (number release : ℕ) (spans : List Span) (h g : History) : Type 0 where
  pub subscribed : subscribers g ≡ subscribers h
  pub sent : SameDelivery h g
  pub stands : standing g ≡ filter (λ (p : Pub). not (p.number == number)) (standing h)
  pub waits : Each (λ (p : Pub). p.number ≡ number → moment h < p.release) (standing h)
  pub has : HasRelease number release (standing h)
  pub within : AreWithin (moment h) (number ∷ []) spans (standing h)

pub record Stays (h g : History) : Type 0 where
  pub subscribed : subscribers g ≡ subscribers h
  pub stands : standing g ≡ standing h
  pub sent : SameDelivery h g

-- the step leads from the feeds of h to those of g
abbrev pub FeedsFor : FeedStep → History → History → Type 0
FeedsFor (Subscriber name) h g = Adds name h g
FeedsFor (Resume name) h g = Resumes name h g
FeedsFor (Publish number release due) h g = Issues number release due.items h g
FeedsFor (TakeBack numbers spans number due) h g = Retracts numbers.items spans.items number due.items h g
FeedsFor (Withdraw number release spans) h g = Takes number release spans.items h g
FeedsFor Nothing h g = Stays h g

-- the queue has the memory for the step of an entry at the moment
abbrev pub HasFeedRoom : Queue → ℕ → FeedStep → Type 0
HasFeedRoom q m (Subscriber name) = HasSpare q
HasFeedRoom q m (Publish number release due) = HasRoom q number release due.items × Differ (names_in due.items)
HasFeedRoom q m (TakeBack numbers spans number due) = HasRoom q number m due.items × Differ (names_in due.items)
HasFeedRoom q m _ = Unit {0}

-- when a publication of that kind is released itself, behind an entry at the moment: what takes back is at once
abbrev pub own_release : Kind → ℕ → ℕ → ℕ
own_release kind.First release m = release
own_release kind.Correct release m = release
own_release kind.Kill release m = m
own_release kind.Recall release m = m

-- what a command that publishes and withdraws nothing does to the feeds
abbrev pub feeds_of : Command → FeedStep
feeds_of (command.AddSubscriber subscriber format products lag) = Subscriber subscriber
feeds_of (command.Resume subscriber) = Resume subscriber
feeds_of _ = Nothing

-- what the feeds lose with an item's first publication, if one stands, which is released to each within its span
abbrev pub withdrawal_of : Option FirstFacts → Vec Span Global → FeedStep
withdrawal_of None spans = Nothing
withdrawal_of (Some first) spans = Withdraw first.number first.release spans

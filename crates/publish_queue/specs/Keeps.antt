-- Which subscribers, publications, moment and delivery a queue keeps.
use Rattle.std.specs.Prelude.{◌≡◌, ℕ, ◌<◌, ◌≤◌, false, List, [], ◌∷◌, map, slice_get, vec_len, vec_capacity, if◌then◌else◌, Option}
use Rattle.std.specs.VecDeque.{deque_len, deque_capacity}
use Rattle.std.specs.List.{All, filter, insert, list_any}
use Rattle.news_types.specs.declared.query.Due.{Due}
use Rattle.news_types.specs.Names.{Bytes, same, is_in}
use Rattle.news_types.specs.History.{History, moment}
use Rattle.news_types.specs.Members.{Each}
use Rattle.news_types.specs.Products.{subscribers}
use Rattle.news_types.specs.Due.{Pub, is_by}
use Rattle.news_types.specs.Publications.{standing}
use Rattle.news_types.specs.Feeds.{Dispatch, inserted, dispatch, is_waiting, due_to, feed_of, waiting_of}
use Rattle.news_types.specs.Delivery.{ready_from, acked, tries, tried}
use Rattle.news_types.specs.Legal.{is_coming}
use Rattle.publish_queue.specs.declared.release.Release.{Release}
use Rattle.publish_queue.specs.declared.feed.Delivery.{Delivery}
use Rattle.publish_queue.specs.declared.feed.Feed.{Feed}
use Rattle.publish_queue.specs.declared.queue.Feeds.{Feeds}
use Rattle.publish_queue.specs.declared.queue.Queue.{Queue}
use Rattle.publish_queue.specs.Rows.{live}
use Rattle.publish_queue.specs.Steps.{HasEntries, IsEmptyFeed}
use Rattle.publish_queue.specs.Places.{FitsPlaces}
use Rattle.publish_queue.specs.Many.{IsRoomy, IsOrdered, names_in}

-- ---- publications

-- a subscriber has one release of each that is due to it
abbrev pub Agree : List Due → Type 0
Agree due = (release : Bytes → ℕ) × Each (λ (d : Due). d.release ≡ release d.subscriber) due

-- so it is with the publication, and none of its releases is before its own
pub record IsFair (p : Pub) : Type 0 where
  pub agree : Agree p.due
  pub from : Each (λ (d : Due). p.release ≤ d.release) p.due

-- publications (newest first) in order of their own release and then number, whoever they are due to
abbrev pub own : List Pub → List Dispatch
own [] = []
own (p ∷ ps) = inserted (dispatch p p.release) (own ps)

-- those whose own release is still to come
abbrev pub own_waiting : List Pub → ℕ → List Dispatch
own_waiting ps m = filter (is_waiting m) (own ps)

-- ---- what is kept of them

abbrev pub number_of : Dispatch → ℕ
number_of d = d.shown.number

abbrev pub moment_of : Dispatch → ℕ
moment_of d = d.release

abbrev pub release_of : Dispatch → Release
release_of d = record { moment = d.release; number = d.shown.number }

-- the row and what waits are those that the publications make for the subscriber at the moment
pub record IsRow (ps : List Pub) (m : ℕ) (f : Feed) : Type 0 where
  pub row : HasEntries f.row (map number_of (feed_of ps m f.name)) (map moment_of (feed_of ps m f.name))
  pub waiting : live f.waiting.releases.items ≡ map release_of (waiting_of ps m f.name)

-- what is known of some feeds at a moment
pub record Facts : Type 0 where
  -- the subscribers
  pub names : List Bytes
  -- newest first, each with those for whom it stands
  pub publications : List Pub
  pub moment : ℕ
  -- how much of each subscriber's feed was acknowledged, the tries since, and the moment of the last one
  pub acked : Bytes → ℕ
  pub tries : Bytes → ℕ
  pub tried : Bytes → ℕ

-- the facts of a list of entries
abbrev pub facts : History → Facts
facts h = record {
  names = subscribers h;
  publications = standing h;
  moment = moment h;
  acked = acked h;
  tries = tries h;
  tried = tried h;
}

-- nothing is there yet
abbrev pub nothing : Facts
nothing = record {
  names = [];
  publications = [];
  moment = 0;
  acked = λ s. 0;
  tries = λ s. 0;
  tried = λ s. 0;
}

-- the delivery stands so
pub record Stands (known : Facts) (f : Feed) : Type 0 where
  pub receipt : f.delivery.acked ≡ known.acked f.name
  pub attempts : f.delivery.tries ≡ known.tries f.name
  pub last : f.delivery.tried ≡ known.tried f.name

-- when the feed of a subscriber may be pushed
abbrev pub turn_of : Facts → Bytes → Option ℕ
turn_of known s = ready_from (slice_get (feed_of known.publications known.moment s) (known.acked s)) (known.tries s) (known.tried s)

pub record IsFeed (known : Facts) (f : Feed) : Type 0 where
  pub rows : IsRow known.publications known.moment f
  pub stands : Stands known f
  pub turn : f.turn ≡ turn_of known f.name

-- the facts where the delivery to one subscriber stands so
abbrev pub delivered : Delivery → Bytes → Facts → Facts
delivered delivery to f = record f {
  acked = λ s. if same to s then delivery.acked else f.acked s;
  tries = λ s. if same to s then delivery.tries else f.tries s;
  tried = λ s. if same to s then delivery.tried else f.tried s;
}

-- nothing was due or sent to it
pub record IsUntouched (known : Facts) (s : Bytes) : Type 0 where
  pub due : due_to s known.publications ≡ []
  pub receipt : known.acked s ≡ 0
  pub attempts : known.tries s ≡ 0
  pub last : known.tried s ≡ 0

-- the first moment behind m at which one of the publications is released, or is to somebody, if there is one
abbrev pub IsNext : List Pub → ℕ → Option ℕ → Type 0
IsNext ps m next = (n : ℕ) → is_by n next ≡ list_any (is_coming m n) ps

-- the turns are those of the feeds
abbrev pub AreInTurn : Feeds → Type 0
AreInTurn fs = IsOrdered fs.feeds.items fs.turns

-- one more feed is among them, with nothing in it
pub record IsWithFeed (name : Bytes) (old new : Feeds) : Type 0 where
  pub at : ℕ
  pub feed : Feed
  pub empty : IsEmptyFeed name feed
  pub names : new.names.items ≡ insert old.names.items at name
  pub feeds : new.feeds.items ≡ insert old.feeds.items at feed
  pub ordered : AreInTurn old → AreInTurn new

-- the queue keeps the feeds of which this is known, and what its publications leave to wait for
pub record Keeps (q : Queue) (f : Facts) : Type 0 where
  pub at : q.moment ≡ f.moment
  pub subscribed : (s : Bytes) → is_in s q.feeds.names.items ≡ is_in s f.names
  pub feeds : All (IsFeed f) q.feeds.feeds.items
  pub others : (s : Bytes) → is_in s f.names ≡ false → IsUntouched f s
  pub waits : live q.waiting.releases.items ≡ map release_of (own_waiting f.publications f.moment)
  pub next : IsNext f.publications f.moment q.next
  pub fair : Each IsFair f.publications
  pub ordered : AreInTurn q.feeds

-- the queue keeps the facts of this list of entries
abbrev pub KeepsFactsOf : Queue → History → Type 0
KeepsFactsOf q h = Keeps q (facts h)

-- ---- memory

-- one more publication of that number, with its own release and those to whom it is due, fits
pub record HasRoom (q : Queue) (number release : ℕ) (due : List Due) : Type 0 where
  pub fits : FitsPlaces number release due
  pub roomy : All (IsRoomy (names_in due)) q.feeds.feeds.items
  pub waiting : deque_len q.waiting.releases < deque_capacity q.waiting.releases

-- one more subscriber fits
pub record HasPlace (fs : Feeds) : Type 0 where
  pub names : vec_len fs.names < vec_capacity fs.names
  pub feeds : vec_len fs.feeds < vec_capacity fs.feeds
  pub turns : vec_len fs.feeds < vec_capacity fs.turns.turns

abbrev pub HasSpare : Queue → Type 0
HasSpare q = HasPlace q.feeds

-- What a call does to one feed.
use Rattle.std.specs.Prelude.{◌≡◌, ℕ, Bool, ◌+◌, ◌<◌, ◌≤◌, List, [], ◌∷◌, ◌++◌, None, vec_len}
use Rattle.std.specs.VecDeque.{deque_len, deque_capacity}
use Rattle.news_types.specs.Names.{Bytes}
use Rattle.publish_queue.specs.declared.release.Release.{Release}
use Rattle.publish_queue.specs.declared.row.Row.{Row}
use Rattle.publish_queue.specs.declared.feed.Delivery.{Delivery}
use Rattle.publish_queue.specs.declared.feed.Feed.{Feed}
use Rattle.publish_queue.specs.Rows.{placed, moved, left, without, number_in, moment_in, live}
use Rattle.publish_queue.specs.Places.{HasPlaces}

-- one more publication fits
pub record FitsOneMore (f : Feed) : Type 0 where
  pub row : HasPlaces (deque_len f.waiting.releases + 1) f.row
  pub waiting : deque_len f.waiting.releases < deque_capacity f.waiting.releases
  pub few : vec_len f.row.numbers + deque_len f.waiting.releases < 4294967295

-- the entries are these
pub record HasEntries (row : Row) (ns rs : List ℕ) : Type 0 where
  pub numbers : row.numbers.items ≡ ns
  pub releases : row.releases.items ≡ rs

-- the same entries
abbrev pub SameEntries : Row → Row → Type 0
SameEntries old new = HasEntries new old.numbers.items old.releases.items

-- nothing is in it
pub record IsEmptyFeed (s : Bytes) (f : Feed) : Type 0 where
  pub name : f.name ≡ s
  pub row : HasEntries f.row [] []
  pub waiting : live f.waiting.releases.items ≡ []
  pub acked : f.delivery.acked ≡ 0
  pub tries : f.delivery.tries ≡ 0
  pub tried : f.delivery.tried ≡ 0
  pub turn : f.turn ≡ None

-- the delivery stands as it did
pub record SameDelivery (old new : Feed) : Type 0 where
  pub name : new.name ≡ old.name
  pub delivery : new.delivery ≡ old.delivery

-- the same feed
pub record IsAlike (old new : Feed) : Type 0 where
  pub delivery : SameDelivery old new
  pub row : SameEntries old.row new.row
  pub waiting : live new.waiting.releases.items ≡ live old.waiting.releases.items

-- those whose release has come are in the row
pub record IsAdvanced (moment : ℕ) (old new : Feed) : Type 0 where
  pub delivery : SameDelivery old new
  pub row : HasEntries new.row (moved number_in moment old.row.numbers.items (live old.waiting.releases.items)) (moved moment_in moment old.row.releases.items (live old.waiting.releases.items))
  pub waiting : live new.waiting.releases.items ≡ left moment (live old.waiting.releases.items)
  pub fits : FitsOneMore old → FitsOneMore new

-- the releases that pass the test do not wait any more
pub record IsWithdrawn (gone : Release → Bool) (old new : Feed) : Type 0 where
  pub delivery : SameDelivery old new
  pub row : SameEntries old.row new.row
  pub waiting : live new.waiting.releases.items ≡ without gone (live old.waiting.releases.items)
  pub turn : new.turn ≡ old.turn
  pub fits : FitsOneMore old → FitsOneMore new

-- the publication is in the row, or it waits
pub record IsAdded (release : Release) (moment : ℕ) (old new : Feed) : Type 0 where
  pub delivery : SameDelivery old new
  pub out : release.moment ≤ moment
      → HasEntries new.row (old.row.numbers.items ++ release.number ∷ []) (old.row.releases.items ++ release.moment ∷ []) × (live new.waiting.releases.items ≡ live old.waiting.releases.items)
  pub later : moment < release.moment → SameEntries old.row new.row × (live new.waiting.releases.items ≡ placed release (live old.waiting.releases.items))

-- its delivery stands otherwise
pub record IsDelivered (delivery : Delivery) (old new : Feed) : Type 0 where
  pub name : new.name ≡ old.name
  pub row : SameEntries old.row new.row
  pub waiting : live new.waiting.releases.items ≡ live old.waiting.releases.items
  pub stands : new.delivery ≡ delivery
  pub fits : FitsOneMore old → FitsOneMore new

-- What a call does to several feeds.
use Rattle.std.specs.Prelude.{◌≡◌, ℕ, ◌+◌, ◌<◌, ◌≤◌, Bool, true, false, ◌&&◌, nat_le, List, [], ◌∷◌, length, map, slice_index_or, if◌then◌else◌, Option, Some, None, vec_len, vec_capacity}
use Rattle.std.specs.List.{list_any}
use Rattle.news_types.specs.declared.query.Due.{Due}
use Rattle.news_types.specs.Names.{Bytes, same, is_in}
use Rattle.news_types.specs.Due.{release_to}
use Rattle.publish_queue.specs.declared.feed.Delivery.{Delivery}
use Rattle.publish_queue.specs.declared.feed.Feed.{Feed}
use Rattle.publish_queue.specs.declared.release.Release.{Release}
use Rattle.publish_queue.specs.declared.release.Span.{Span}
use Rattle.publish_queue.specs.declared.turns.Turns.{Turns}
use Rattle.publish_queue.specs.Rows.{is_among}
use Rattle.publish_queue.specs.Steps.{IsAlike, IsAdded, IsAdvanced, IsWithdrawn, IsDelivered, FitsOneMore}
use Rattle.publish_queue.specs.Ready.{row_turn}
use Rattle.publish_queue.specs.Turns.{HoldsTurns, one}

abbrev pub name_of : Feed → Bytes
name_of f = f.name

-- one more publication that is due to these fits the feed
abbrev pub IsRoomy : List Bytes → Feed → Type 0
IsRoomy due f = is_in f.name due ≡ true → FitsOneMore f

-- the feed at a place is changed, and no other
pub record Sets (R : Feed → Feed → Type 0) (i : ℕ) (olds news : List Feed) : Type 0 where
  pub long : length news ≡ length olds
  pub here : (d : Feed) → R (slice_index_or olds i d) (slice_index_or news i d)
  pub there : (k : ℕ) (d : Feed) → (k ≡ i → ⊥) → slice_index_or news k d ≡ slice_index_or olds k d

-- each feed is changed
pub record EachGoes (R : Feed → Feed → Type 0) (olds news : List Feed) : Type 0 where
  pub long : length news ≡ length olds
  pub each : (k : ℕ) (d : Feed) → k < length olds → R (slice_index_or olds k d) (slice_index_or news k d)

-- the feed of one subscriber is changed, and no other
pub record OneGoes (R : Feed → Feed → Type 0) (s : Bytes) (olds news : List Feed) : Type 0 where
  pub long : length news ≡ length olds
  pub changed : (k : ℕ) (d : Feed) → k < length olds → same (slice_index_or olds k d).name s ≡ true → R (slice_index_or olds k d) (slice_index_or news k d)
  pub kept : (k : ℕ) (d : Feed) → k < length olds → same (slice_index_or olds k d).name s ≡ false → slice_index_or news k d ≡ slice_index_or olds k d

-- those to whom something is due
abbrev pub subscriber_in : Due → Bytes
subscriber_in d = d.subscriber

abbrev pub names_in : List Due → List Bytes
names_in due = map subscriber_in due

abbrev pub release_by : ℕ → ℕ → Release
release_by number moment = record { moment = moment; number = number }

-- the feeds of those to whom something is due are changed, each by its release, and no others
pub record Spread (R : ℕ → Feed → Feed → Type 0) (due : List Due) (olds news : List Feed) : Type 0 where
  pub long : length news ≡ length olds
  pub changed : (k : ℕ) (d : Feed) (r : ℕ) → k < length olds → release_to (slice_index_or olds k d).name due ≡ Some r → R r (slice_index_or olds k d) (slice_index_or news k d)
  pub kept : (k : ℕ) (d : Feed) → k < length olds → release_to (slice_index_or olds k d).name due ≡ None → slice_index_or news k d ≡ slice_index_or olds k d

-- ---- in the order in which they may be pushed

-- the turn of a subscriber's feed
abbrev pub turn_in : List Feed → Bytes → Option ℕ
turn_in [] s = None
turn_in (f ∷ fs) s = if same f.name s then f.turn else turn_in fs s

-- how many have a turn
abbrev pub turn_count : List Feed → ℕ
turn_count [] = 0
turn_count (f ∷ fs) = one f.turn + turn_count fs

-- the turns are those of the feeds, and there is room for one of each
pub record IsOrdered (fs : List Feed) (turns : Turns) : Type 0 where
  pub holds : HoldsTurns turns (turn_in fs)
  pub count : vec_len turns.turns ≡ turn_count fs
  pub room : length fs ≤ vec_capacity turns.turns

-- the feed stands where it belongs among those that may be pushed
pub record IsSettled (old new : Feed) : Type 0 where
  pub alike : IsAlike old new
  pub turn : new.turn ≡ row_turn new
  pub fits : FitsOneMore old → FitsOneMore new

-- the publication of that number, which has that release for the subscriber, is in the row, or it waits, and the feed stands
-- where it belongs
pub record IsAddedTo (number moment release : ℕ) (old new : Feed) : Type 0 where
  pub name : new.name ≡ old.name
  pub added : IsAdded (release_by number release) moment old new
  pub turn : new.turn ≡ row_turn new

-- what is released is in the row, and the feed stands where it belongs
pub record IsAdvancedTo (moment : ℕ) (old new : Feed) : Type 0 where
  pub advanced : IsAdvanced moment old new
  pub turn : old.turn ≡ row_turn old → new.turn ≡ row_turn new

-- its delivery stands otherwise, and the feed stands where it belongs
pub record IsDeliveredTo (delivery : Delivery) (old new : Feed) : Type 0 where
  pub delivered : IsDelivered delivery old new
  pub turn : new.turn ≡ row_turn new

-- the same feed, as far as it counts
pub record IsSame (old new : Feed) : Type 0 where
  pub alike : IsAlike old new
  pub turn : new.turn ≡ old.turn

-- ---- withdrawals

-- one of these spans is the subscriber's, and the moment is in it
abbrev pub is_within : Bytes → ℕ → List Span → Bool
is_within s moment spans = list_any (λ (span : Span). same s span.subscriber && (nat_le span.first moment && nat_le moment span.last)) spans

-- it has one of these numbers, and it is in a span of the subscriber's
abbrev pub is_spanned : List ℕ → List Span → Bytes → Release → Bool
is_spanned numbers spans s r = is_among r.number numbers && is_within s r.moment spans

-- the releases with these numbers that are in a span of its subscriber's do not wait any more
abbrev pub IsWithdrawnBy : List ℕ → List Span → Feed → Feed → Type 0
IsWithdrawnBy numbers spans old new = IsWithdrawn (is_spanned numbers spans old.name) old new

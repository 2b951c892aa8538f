-- Answers about a feed by the feed and its format.
use Rattle.std.proofs.Common.{ℕ, ◌+◌, Bool, nat_lt, nat_le, ◌&&◌, if◌then◌else◌, List, length, take, drop, Option, sym, ap, ◌∙◌}
use Rattle.std.specs.Option.{option_map}
use Rattle.news_types.specs.declared.query.Answer.{Answer}
use Rattle.news_types.specs.declared.query.Answer.TheVariants as told
use Rattle.news_types.specs.declared.words.Format.{Format}
use Rattle.news_types.specs.declared.words.Thing.TheVariants as thing
use Rattle.news_types.specs.Answers.{feed_rows, feed_answer, frame_answer}
use Rattle.news_types.specs.Feeds.{Dispatch, feed}
use Rattle.news_types.specs.Frames.{Writer, numbered, format, framed, bytes_of, frame_bytes_at}
use Rattle.news_types.specs.Names.{Bytes}
use Rattle.feed_views.specs.Views.{FeedsAreViews}

-- the answers, by the feed and the format alone
abbrev rows_of : Bytes → ℕ → List Dispatch → Answer
rows_of s n entries = told.Feed s (length entries) (feed_rows (n + 1) (take 100 (drop n entries)))

abbrev frame_of : Writer → Bytes → ℕ → Option Format → List Dispatch → Answer
frame_of write s k f entries = if nat_lt 0 k && nat_le k (length entries) then told.Frame (bytes_of (option_map (framed write f s k) (numbered entries k))) else told.NoFrame (length entries)

-- an answer about a subscriber that is there
abbrev known : Answer → Bool → Answer
known a b = if b then a else told.Unknown thing.Subscriber

pub views : FeedsAreViews
views = λ write h g s n a. (
  ap (known (feed_answer g s n)) a.known_too ∙ ap (rows_of s n) a.feeds ∙ sym (ap (known (feed_answer h s n)) a.known),
  ap (known (frame_answer (frame_bytes_at write g) g s n)) a.known_too
      ∙ ap (λ (f : Option Format). frame_of write s n f (feed g s)) a.formats
      ∙ ap (frame_of write s n (format h s)) a.feeds
      ∙ sym (ap (known (frame_answer (frame_bytes_at write h) h s n)) a.known),
)

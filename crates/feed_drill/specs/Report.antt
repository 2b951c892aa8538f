-- What a drill prints.
use Rattle.std.specs.Prelude.{ℕ, List, [], ◌∷◌, ◌++◌, length, codes, decimal, Option, Some, None}
use Rattle.std.specs.List.{flat_map}
use Rattle.news_types.specs.declared.query.QueueRow.{QueueRow}
use Rattle.news_types.specs.Names.{Bytes}
use Rattle.news_types.specs.History.{History}
use Rattle.news_types.specs.Products.{subscribers}
use Rattle.news_types.specs.Answers.{in_order}
use Rattle.news_types.specs.Feeds.{feed}
use Rattle.news_types.specs.Delivery.{acked}
use Rattle.feed_reports.specs.Line.{line}
use Rattle.feed_receiver.specs.Holds.{Received}
use Rattle.publish_workers.specs.InMemory.{received_by}

-- the list's subscribers, in byte order
abbrev pub subscribers_of : History → List Bytes
subscribers_of h = in_order (subscribers h)

abbrev pub frame_count : Option Received → ℕ
frame_count None = 0
frame_count (Some receiver) = length receiver.frames

-- how many entries the list has
abbrev pub entries_line : ℕ → Bytes
entries_line entries = line (codes "entries" ∷ decimal entries ∷ [])

-- of a subscriber: how long its feed is, how many of its entries are acknowledged, and how many frames its receiver holds
abbrev pub feed_line : Bytes → ℕ → ℕ → ℕ → Bytes
feed_line s entries acknowledged frames = line (s ∷ codes "length" ∷ decimal entries ∷ codes "acked" ∷ decimal acknowledged ∷ codes "receiver" ∷ decimal frames ∷ [])

-- a line for each of these rows, where the receivers of these names hold these
abbrev pub row_line : List Bytes → List Received → QueueRow → Bytes
row_line names held row = feed_line row.subscriber row.length row.acked (frame_count (received_by names held row.subscriber))

abbrev pub row_lines : List Bytes → List Received → List QueueRow → Bytes
row_lines names held rows = flat_map (row_line names held) rows

-- a line for each of these subscribers, where the receivers of these names hold these
abbrev pub feed_lines : History → List Bytes → List Received → List Bytes → Bytes
feed_lines h names held subscribers = flat_map (λ (s : Bytes). feed_line s (length (feed h s)) (acked h s) (frame_count (received_by names held s))) subscribers

-- all of it, where the receivers of the subscribers hold these
abbrev pub drill_report : History → List Received → Bytes
drill_report h held = entries_line (length h) ++ feed_lines h (subscribers_of h) held (subscribers_of h)

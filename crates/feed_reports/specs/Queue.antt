-- The report on all feeds.
use Rattle.std.specs.Prelude.{ℕ, List, [], ◌∷◌, ◌++◌, codes, decimal}
use Rattle.std.specs.List.{flat_map}
use Rattle.news_types.specs.declared.query.FeedState.{FeedState}
use Rattle.news_types.specs.declared.query.FeedState.TheVariants.{Paused, Retrying, Pending, Waiting, Success}
use Rattle.news_types.specs.declared.query.QueueRow.{QueueRow}
use Rattle.news_types.specs.Names.{Bytes}
use Rattle.feed_reports.specs.Line.{line}

abbrev pub state_word : FeedState → Bytes
state_word Paused = codes "paused"
state_word Retrying = codes "retrying"
state_word Pending = codes "pending"
state_word Waiting = codes "waiting"
state_word Success = codes "success"

abbrev pub queue_line : QueueRow → Bytes
queue_line row = line (row.subscriber ∷ codes "length" ∷ decimal row.length ∷ codes "acked" ∷ decimal row.acked ∷ codes "tries" ∷ decimal row.tries ∷ state_word row.state ∷ [])

-- a line for each feed
abbrev pub queue_report : List QueueRow → Bytes
queue_report rows = flat_map queue_line rows

-- how many entries the list has, and then the feeds
abbrev pub summary_report : ℕ → List QueueRow → Bytes
summary_report entries rows = line (codes "entries" ∷ decimal entries ∷ []) ++ queue_report rows

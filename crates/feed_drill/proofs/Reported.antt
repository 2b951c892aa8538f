-- The list of a drill, and its report.
use Rattle.std.proofs.Common.{◌≡◌, List, [], ◌∷◌, ◌++◌, length, map, refl, ap, ◌∙◌}
use Rattle.news_types.specs.declared.entry.Act.{Act}
use Rattle.news_types.specs.declared.entry.Act.TheVariants.{Advance, Attempt, Receipt, Halt, Ingest, Request}
use Rattle.news_types.specs.declared.entry.Entry.{Entry}
use Rattle.news_types.specs.declared.query.QueueRow.{QueueRow}
use Rattle.news_types.specs.Names.{Bytes}
use Rattle.news_types.specs.Members.{Each}
use Rattle.news_types.specs.History.{History, by_command}
use Rattle.news_types.specs.Books.{followed_by}
use Rattle.news_types.specs.Answers.{queue_rows}
use Rattle.news_types.specs.Feeds.{feed}
use Rattle.news_types.specs.Delivery.{acked}
use Rattle.news_types.specs.Products.{subscribers, subscribers_after}
use Rattle.feed_receiver.specs.Holds.{Received}
use Rattle.publish_workers.specs.Completeness.{Delivers}
use Rattle.publish_workers.specs.InMemory.{received_by}
use Rattle.feed_drill.specs.Report.{feed_line, row_lines, feed_lines, frame_count}

-- the delivery adds no subscriber
adds_none : (act : Act) (before : List Bytes) → Delivers act → by_command subscribers_after act before ≡ before
adds_none Advance before only = refl
adds_none (Attempt s k) before only = refl
adds_none (Receipt s n) before only = refl
adds_none Halt before only = absurd only
adds_none (Ingest provider come) before only = absurd only
adds_none (Request caller number command) before only = absurd only

pub same_subscribers : (more : List Entry) (h : History) → Each (λ (e : Entry). Delivers e.act) more → subscribers (followed_by more h) ≡ subscribers h
same_subscribers [] h only = refl
same_subscribers (e ∷ more) h only = same_subscribers more (e ∷ h) only.1 ∙ adds_none e.act (subscribers h) only.0

-- the rows of a queue have its subscribers
pub rows_are : (h : History) (names : List Bytes) → map (λ (row : QueueRow). row.subscriber) (queue_rows h names) ≡ names
rows_are h [] = refl
rows_are h (s ∷ names) = ap (λ (l : List Bytes). s ∷ l) (rows_are h names)

-- and their lines are those of the list
pub lines_are : (h : History) (names : List Bytes) (held : List Received) (subscribers : List Bytes) → row_lines names held (queue_rows h subscribers) ≡ feed_lines h names held subscribers
lines_are h names held [] = refl
lines_are h names held (s ∷ subscribers) = ap (λ (l : Bytes). feed_line s (length (feed h s)) (acked h s) (frame_count (received_by names held s)) ++ l) (lines_are h names held subscribers)

-- The rows of the queue report, by which the readers of a package are found.
use Rattle.std.specs.Prelude.{List, map}
use Rattle.news_types.specs.declared.query.QueueRow.{QueueRow}
use Rattle.news_types.specs.Names.{Bytes}

-- the subscribers of these rows
abbrev pub names_of : List QueueRow → List Bytes
names_of rows = map (λ (row : QueueRow). row.subscriber) rows

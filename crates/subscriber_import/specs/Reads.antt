-- How fields are read.
use Rattle.std.specs.Prelude.{ℕ, List, [], Option, Some, None, unwrap_or, map}
use Rattle.std.specs.Borrow.{Bor}
use Rattle.csv.specs.Records.{field_at, fields_of}
use Rattle.csv.specs.declared.record.ByteRecord.{ByteRecord}
use Rattle.news_types.specs.Names.{Bytes}
use Rattle.subscriber_import.specs.Fields.{parts_of}
use Rattle.subscriber_import.specs.Table.{Row}

-- a field of a record, empty where it has none there
abbrev pub field_of : Row → ℕ → Bytes
field_of row at = unwrap_or (field_at row at) []

-- the parts behind a `;`, if there is one
abbrev pub parts_behind : Option (Bor Bytes) → List Bytes
parts_behind None = []
parts_behind (Some rest) = parts_of rest.now

-- these records, if there are some, as their fields
abbrev pub rows_in : Option (Bor (List ByteRecord)) → Option (List Row)
rows_in None = None
rows_in (Some rows) = Some (map fields_of rows.now)

-- What a table of subscribers adds to a list, and what becomes of each of its records.
use Rattle.std.specs.Prelude.{ℕ, ◌+◌, List, [], ◌∷◌, ◌++◌, if◌then◌else◌, Option, Some, None}
use Rattle.news_types.specs.declared.entry.Entry.{Entry}
use Rattle.news_types.specs.Names.{Bytes}
use Rattle.news_types.specs.History.{History, last_number}
use Rattle.news_types.specs.Products.{is_subscriber}
use Rattle.news_types.specs.Outcome.{Outcome, Answered, Done, Repeat, Denied, request}
use Rattle.news_types.specs.Calls.{more}
use Rattle.news_room.specs.Steps.{entries}
use Rattle.subscriber_import.specs.declared.line.Line.{Line}
use Rattle.subscriber_import.specs.Fields.{Wanted, wanted_of, command_of}
use Rattle.subscriber_import.specs.Table.{Row}

-- ---- one record

-- the request to add a subscriber, under the caller's next number
abbrev pub asked : History → Bytes → ℕ → Wanted → Outcome Answered
asked h caller now w = request h caller (last_number h caller + 1) (command_of w) now

-- the entry that a record adds: none where it is not of its form, or the subscriber is there
abbrev pub added_by : History → Bytes → ℕ → Option Wanted → Option Entry
added_by h caller now None = None
added_by h caller now (Some w) = if is_subscriber h w.subscriber then None else (asked h caller now w).more

-- what a request is told as
abbrev pub told_as : Answered → Line
told_as (Done reply) = Line.Added
told_as (Repeat reply) = Line.Added
told_as (Denied denial) = Line.Denied denial

-- what becomes of a record
abbrev pub line_by : History → Bytes → ℕ → Option Wanted → Line
line_by h caller now None = Line.Bad
line_by h caller now (Some w) = if is_subscriber h w.subscriber then Line.There else told_as (asked h caller now w).answer

-- the list behind a record
abbrev pub behind : History → Bytes → ℕ → Row → History
behind h caller now row = more (added_by h caller now (wanted_of row)) h

-- ---- one record after another

-- the list behind these records: with one `add_subscriber` for each that is of its form, is unknown at its turn and is not denied
abbrev pub imported : History → Bytes → ℕ → List Row → History
imported h caller now [] = h
imported h caller now (row ∷ rows) = imported (behind h caller now row) caller now rows

-- what becomes of each
abbrev pub lines : History → Bytes → ℕ → List Row → List Line
lines h caller now [] = []
lines h caller now (row ∷ rows) = line_by h caller now (wanted_of row) ∷ lines (behind h caller now row) caller now rows

-- the entries that these records add, oldest first
abbrev pub added : History → Bytes → ℕ → List Row → List Entry
added h caller now [] = []
added h caller now (row ∷ rows) = entries (added_by h caller now (wanted_of row)) ++ added (behind h caller now row) caller now rows

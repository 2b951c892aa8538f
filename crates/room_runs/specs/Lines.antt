-- What a line of a batch is answered at a list and a reading of the clock, and which entry it adds.
use Rattle.std.specs.Prelude.{ℕ, ◌+◌, Bool, true, false, nat_lt, if◌then◌else◌, List, [], ◌∷◌, Some, None, Result, Ok, Err}
use Rattle.news_types.specs.declared.entry.Entry.{Entry}
use Rattle.news_types.specs.declared.denial.Denial.TheVariants.{UnknownThing}
use Rattle.news_types.specs.declared.query.Query.{Query}
use Rattle.news_types.specs.declared.query.Query.TheVariants as query
use Rattle.news_types.specs.Names.{Bytes}
use Rattle.news_types.specs.History.{History, moment_at}
use Rattle.news_types.specs.Calls.{ticked}
use Rattle.news_types.specs.Outcome.{Answered, Done, Repeat, Denied, request, receipt}
use Rattle.news_types.specs.Outcome as newsroom
use Rattle.news_types.specs.Answers.{query_answer}
use Rattle.input_lines.specs.Lines.{Line}
use Rattle.line_run.specs.Life.{Outcome, Meaning}
use Rattle.desk_lines.specs.declared.asked.Asked.{Asked}
use Rattle.desk_lines.specs.declared.asked.Asked.TheVariants as asked
use Rattle.desk_lines.specs.declared.property.LineProperty.{LineProperty}
use Rattle.desk_lines.specs.declared.property.LineProperty.TheVariants as property
use Rattle.desk_lines.specs.Lines.{line}
use Rattle.desk_answers.specs.Answers.{reply_bytes, denial_bytes, bad_bytes, answer_bytes}
use Rattle.archive_search.specs.declared.told.Told.{Told}
use Rattle.archive_search.specs.declared.told.Told.TheVariants as archive
use Rattle.archive_search.specs.Told.{archive_told}
use Rattle.desk_views.specs.declared.question.DeskQuestion.{DeskQuestion}
use Rattle.desk_questions.specs.declared.answer.DeskTold.{DeskTold}
use Rattle.desk_questions.specs.declared.answer.DeskTold.TheVariants as desk
use Rattle.desk_questions.specs.Told.{desk_told}
use Rattle.news_room.specs.Log.{sizes}
use Rattle.news_room.specs.Stands.{limit_of}
use Rattle.news_room.specs.Steps.{entries, tick_entries}

-- ---- lines

-- the longest line, in bytes without its end, and the most bytes of an input that are answered
abbrev pub LONGEST_LINE : ℕ
LONGEST_LINE = 4194304

abbrev pub LONGEST_INPUT : ℕ
LONGEST_INPUT = 4294967296

-- what a request or a receipt is answered
abbrev pub answered_bytes : Answered → Bytes
answered_bytes (Done reply) = reply_bytes reply false
answered_bytes (Repeat reply) = reply_bytes reply true
answered_bytes (Denied denial) = denial_bytes denial

-- whether the record of what would be added passes the limit of its act, in a log that had so many bytes before its first record
abbrev pub passes : ℕ → History → List Entry → Bool
passes before h [] = false
passes before h (e ∷ es) = nat_lt (limit_of e.act) (before + sizes (e ∷ h))

-- a bad line adds nothing, and takes no reading
abbrev pub bad : LineProperty → Outcome Entry
bad p = record { text = bad_bytes p; adds = []; passes = false; took = [] }

-- an answer that adds this entry, if one
abbrev pub adding : ℕ → History → ℕ → Bytes → List Entry → Outcome Entry
adding before h at text more = record { text = text; adds = more; passes = passes before h more; took = at ∷ [] }

-- no line asks for a frame
abbrev pub no_frames : Bytes → ℕ → Bytes
no_frames s k = []

-- a request or a receipt
abbrev pub of_outcome : ℕ → History → ℕ → newsroom.Outcome Answered → Outcome Entry
of_outcome before h at o = adding before h at (answered_bytes o.answer) (entries o.more)

-- a question stands behind a tick: what waits until the reading is released first
abbrev pub of_question : ℕ → History → ℕ → Query → Outcome Entry
of_question before h at query = adding before h at (answer_bytes (query_answer no_frames (ticked h (moment_at h at)) query)) (tick_entries h (moment_at h at))

abbrev pub told_bytes : Told → Bytes
told_bytes (archive.Found bytes) = bytes
told_bytes (archive.Refused bytes) = bytes

-- what a query finds in the archive of a list, or why it is none
abbrev pub archive_bytes : History → ℕ → Bytes → Bytes
archive_bytes h page query = told_bytes (archive_told h page query)

-- it is asked behind a tick, as a question
abbrev pub of_search : ℕ → History → ℕ → ℕ → Bytes → Outcome Entry
of_search before h at page query = adding before h at (archive_bytes (ticked h (moment_at h at)) page query) (tick_entries h (moment_at h at))

abbrev pub desk_told_bytes : DeskTold → Bytes
desk_told_bytes (desk.Found bytes) = bytes
desk_told_bytes (desk.Unknown thing) = denial_bytes (UnknownThing thing)

-- what a desk is told at a list, or that a thing that it names is not there
abbrev pub desk_bytes : History → DeskQuestion → Bytes
desk_bytes h question = desk_told_bytes (desk_told h question)

-- a desk asks behind a tick, as a question
abbrev pub of_desk : ℕ → History → ℕ → DeskQuestion → Outcome Entry
of_desk before h at question = adding before h at (desk_bytes (ticked h (moment_at h at)) question) (tick_entries h (moment_at h at))

-- the questions that a line may ask
abbrev pub has_answer : Query → Bool
has_answer (query.Feed s after) = true
has_answer (query.Item i) = true
has_answer query.Queue = true
has_answer query.Check = true
has_answer (query.Publication n) = true
has_answer _ = false

-- what a line asks for
abbrev pub of_asked : ℕ → Meaning Entry Asked
of_asked before h (asked.Request caller number command) at = of_outcome before h at (request h caller number command at)
of_asked before h (asked.Query query) at = if has_answer query then of_question before h at query else bad property.Ask
of_asked before h (asked.Receipt subscriber n) at = of_outcome before h at (receipt h subscriber n at)
of_asked before h (asked.Archive page query) at = of_search before h at page query
of_asked before h (asked.Desk question) at = of_desk before h at question

-- a line as it is read
abbrev pub of_read : ℕ → Meaning Entry (Result Asked LineProperty)
of_read before h (Ok said) at = of_asked before h said at
of_read before h (Err p) at = bad p

-- a line, or nothing where it is too long
abbrev pub of_line : ℕ → Meaning Entry Line
of_line before h None at = bad property.Line
of_line before h (Some bytes) at = of_read before h (line bytes) at

-- What a line is answered at a list that stays as it is.
use Rattle.std.specs.Prelude.{false, [], if◌then◌else◌, Some, None, Result, Ok, Err}
use Rattle.news_types.specs.declared.entry.Entry.{Entry}
use Rattle.news_types.specs.Names.{Bytes}
use Rattle.news_types.specs.History.{History}
use Rattle.news_types.specs.Answers.{query_answer}
use Rattle.input_lines.specs.Lines.{Line}
use Rattle.line_run.specs.Life.{Meaning}
use Rattle.desk_lines.specs.declared.asked.Asked.{Asked}
use Rattle.desk_lines.specs.declared.asked.Asked.TheVariants as asked
use Rattle.desk_lines.specs.declared.property.LineProperty.{LineProperty}
use Rattle.desk_lines.specs.declared.property.LineProperty.TheVariants as property
use Rattle.desk_lines.specs.Lines.{line}
use Rattle.desk_answers.specs.Answers.{answer_bytes, bad_bytes}
use Rattle.room_runs.specs.Lines.{has_answer, no_frames, desk_bytes}

-- what a line asks for: only a question is answered
abbrev pub asked_bytes : History → Asked → Bytes
asked_bytes h (asked.Query query) = if has_answer query then answer_bytes (query_answer no_frames h query) else bad_bytes property.Ask
asked_bytes h (asked.Desk question) = desk_bytes h question
asked_bytes h _ = bad_bytes property.Ask

-- a line as it is read
abbrev pub read_bytes : History → Result Asked LineProperty → Bytes
read_bytes h (Ok said) = asked_bytes h said
read_bytes h (Err p) = bad_bytes p

-- a line, or nothing where it is too long
abbrev pub line_bytes : History → Line → Bytes
line_bytes h None = bad_bytes property.Line
line_bytes h (Some bytes) = read_bytes h (line bytes)

-- it adds no entry, and takes no reading
abbrev pub of_past : Meaning Entry Line
of_past h said at = record { text = line_bytes h said; adds = []; passes = false; took = [] }

-- The lines in which an import is told.
use Rattle.std.specs.Prelude.{ℕ, ◌+◌, List, [], ◌∷◌, ◌++◌, codes, decimal}
use Rattle.news_types.specs.Names.{Bytes}
use Rattle.byte_formats.specs.Spelling.{◌&◌, byte}
use Rattle.desk_answers.specs.Words.{denial_word}
use Rattle.subscriber_import.specs.declared.line.Line.{Line}

-- what became of a record: of a request that was denied with the denial's own name
abbrev pub told_text : Line → Bytes
told_text Line.Added = codes "added"
told_text Line.There = codes "there"
told_text Line.Bad = codes "bad"
told_text (Line.Denied denial) = codes "denied " ++ denial_word denial

-- the record's number, a space, what became of it, and a line feed
abbrev pub line_text : ℕ → Line → Bytes
line_text number line = decimal number & byte 32 & told_text line & byte 10

-- a line for each record, the first of which has this number
abbrev pub lines_text : ℕ → List Line → Bytes
lines_text number [] = []
lines_text number (line ∷ lines) = line_text number line ++ lines_text (number + 1) lines

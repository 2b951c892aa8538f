use Rattle.std.proofs.Common.{◌≡◌, ◌+◌, length}
use Rattle.archive_query.specs.Tokens.{joined}
use Rattle.archive_query.specs.Readers.{state_of}
use Rattle.archive_query.specs.Reading.{run}
use Rattle.archive_query.specs.Parsing.{read_text}
use Rattle.archive_query.proofs.parsing.read_text.Given as goal

abbrev pub invariant-loop-token : goal.invariant-loop-token
invariant-loop-token l = record {
  reads : run 32 (state_of l.reader) l.tokens ≡ read_text l.text;
  place : l.at + length (joined l.tokens) ≡ length l.text;
}

abbrev pub decreases-loop-token : goal.decreases-loop-token
decreases-loop-token l = length l.tokens

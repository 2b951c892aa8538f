use Rattle.byte_formats.proofs.Whole.{one_spelling}
use Rattle.record_lines.specs.Spelling.{IsRecord}
use Rattle.record_lines.specs.Formats.{record_line}
use Rattle.record_lines.proofs.Written.{record_lawful, record_length}
use Rattle.record_lines.proofs.law.records_law.Goals as goal

pub returns : goal.returns
returns c = record { again = record_lawful; one = one_spelling record_line IsRecord record_lawful; short = record_length }

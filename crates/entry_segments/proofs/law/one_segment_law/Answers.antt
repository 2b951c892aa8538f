use Rattle.byte_formats.proofs.Alls.{one_spelling}
use Rattle.entry_segments.specs.Reading.{segment}
use Rattle.entry_segments.specs.Answers.{IsWhole}
use Rattle.entry_segments.proofs.SegmentLaws.{segment_sound}
use Rattle.entry_segments.proofs.law.one_segment_law.Goals as goal

pub returns : goal.returns
returns c = one_spelling segment IsWhole segment_sound

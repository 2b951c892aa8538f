use Rattle.byte_formats.proofs.Whole.{one_spelling}
use Rattle.feed_receiver.specs.Spelling.{IsFrame}
use Rattle.feed_receiver.specs.Formats.{frame}
use Rattle.feed_receiver.proofs.Written.{frame_lawful, frame_length}
use Rattle.feed_receiver.proofs.law.frames_law.Goals as goal

pub returns : goal.returns
returns c = record { again = frame_lawful; one = one_spelling frame IsFrame frame_lawful; short = frame_length }

use Rattle.feed_frames.proofs.Sizes.{frames_are_short}
use Rattle.feed_frames.proofs.laws.frame_sizes_law.Goals as goal

pub returns : goal.returns
returns c = frames_are_short

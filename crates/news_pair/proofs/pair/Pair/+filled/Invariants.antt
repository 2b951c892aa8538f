use Rattle.std.proofs.Common.{length}
use Rattle.news_pair.proofs.pair.Pair.+filled.Given as goal

abbrev pub decreases-filled : goal.decreases-filled
decreases-filled g l = length l.payloads.now

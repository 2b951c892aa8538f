use Rattle.std.proofs.Common.{length}
use Rattle.command_words.proofs.words.+names.Given as goal

abbrev pub decreases-names : goal.decreases-names
decreases-names l = length l.pairs.now

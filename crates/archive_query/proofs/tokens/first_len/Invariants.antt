use Rattle.archive_query.proofs.Cutting.{GoesTo}
use Rattle.archive_query.proofs.tokens.first_len.Given as goal

abbrev pub invariant-loop-i : goal.invariant-loop-i
invariant-loop-i l = GoesTo l.text l.i l.place

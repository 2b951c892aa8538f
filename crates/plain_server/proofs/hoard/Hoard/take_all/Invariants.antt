use Rattle.plain_server.proofs.hoard.Hoard.take_all.Given as goal

abbrev pub decreases-loop-size : goal.decreases-loop-size
decreases-loop-size l = l.size

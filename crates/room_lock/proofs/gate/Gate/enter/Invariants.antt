use Rattle.room_lock.proofs.gate.Gate.enter.Given as goal

abbrev pub invariant-loop-2 : goal.invariant-loop-2
invariant-loop-2 g l = (goal.iterator-loop-2 g).can_next l.iterator' × (goal.iterator-loop-2 g).is_finite l.iterator'

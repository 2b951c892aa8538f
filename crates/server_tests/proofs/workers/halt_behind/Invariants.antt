use Rattle.std.proofs.Common.{◌≡◌}
use Rattle.room_lock.specs.Locks.{lock_of}
use Rattle.server_tests.proofs.workers.halt_behind.Given as goal

abbrev pub invariant-loop : goal.invariant-loop
invariant-loop g l =
    (goal.iterator-loop g).can_next l.iterator' × (goal.iterator-loop g).is_finite l.iterator'
    × (lock_of l.pass ≡ lock_of l.initial.pass)

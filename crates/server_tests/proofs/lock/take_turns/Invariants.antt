use Rattle.std.proofs.Common.{◌≡◌}
use Rattle.room_lock.specs.Locks.{lock_of}
use Rattle.server_tests.proofs.lock.take_turns.Given as goal

abbrev pub invariant-loop : goal.invariant-loop
invariant-loop g l = lock_of l.pass ≡ lock_of l.initial.pass

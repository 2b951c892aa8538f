use Rattle.std.proofs.Common.{◌≡◌}
use mathlib.Core.List.{IsPrefix}
use Rattle.room_lock.specs.Locks.{front, lock_of, id_of}
use Rattle.server_roles.proofs.roles.close_at_last.Given as goal

abbrev pub invariant-loop : goal.invariant-loop
invariant-loop g l =
    (goal.iterator-loop g).can_next l.iterator' × (goal.iterator-loop g).is_finite l.iterator'
    × (lock_of l.pass ≡ id_of l.shared) × IsPrefix (front l.initial.pass) (front l.pass) × (l.shared ≡ l.initial.shared)

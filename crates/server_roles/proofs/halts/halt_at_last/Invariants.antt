use Rattle.std.proofs.Common.{◌≡◌, List}
use Rattle.news_types.specs.Members.{Each}
use Rattle.news_room.specs.Stands.{Stands}
use Rattle.publish_workers.specs.Links.{Reads}
use Rattle.room_lock.specs.Going.{Went}
use Rattle.room_lock.specs.Locks.{front, calls, lock_of, start_of}
use Rattle.server_roles.specs.Halts.{Halted, NotKept, halted_calls, halted_holds, halt_readings}
use Rattle.server_roles.proofs.halts.halt_at_last.Given as goal

abbrev pub invariant-loop : goal.invariant-loop
invariant-loop g l =
    (goal.iterator-loop g).can_next l.iterator' × (goal.iterator-loop g).is_finite l.iterator'
    × (lock_of l.pass ≡ lock_of l.initial.pass)
    × ((halts : List Halted) × Each NotKept halts
    × Went halted_calls halted_holds (Stands g.K.Keeper.keeper (start_of l.shared)) (front l.initial.pass) (calls l.initial.pass) (front l.pass) (calls l.pass) halts
    × (g.C.Clock.clock.tells l.initial.clock → Reads g.C.Clock.clock l.initial.clock l.clock (halt_readings halts)))

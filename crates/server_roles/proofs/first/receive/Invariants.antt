use Rattle.std.proofs.Common.{◌≡◌, List}
use Rattle.news_types.specs.Members.{Each}
use Rattle.news_room.specs.Stands.{Stands}
use Rattle.room_lock.specs.Locks.{front, calls, lock_of, start_of}
use Rattle.server_roles.specs.Conns.{Conn, GoesOn, Received}
use Rattle.server_roles.proofs.first.receive.Given as goal

abbrev pub invariant-loop : goal.invariant-loop
invariant-loop g l =
    (goal.iterator-loop g).can_next l.iterator' × (goal.iterator-loop g).is_finite l.iterator'
    × (lock_of l.pass ≡ lock_of l.initial.pass)
    × (g.G.Door.door.faults l.door ≡ g.G.Door.door.faults l.initial.door)
    × ((conns : List Conn) × Each GoesOn conns
    × Received g.G.Door.door g.C.Clock.clock (Stands g.K.Keeper.keeper (start_of l.shared)) l.initial.door l.door l.initial.clock l.clock (front l.initial.pass) (calls l.initial.pass) (front l.pass) (calls l.pass) conns)

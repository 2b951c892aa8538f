use Rattle.std.proofs.Common.{◌≡◌, List}
use Rattle.room_lock.specs.Locks.{front, calls, lock_of, start_of, base_of}
use Rattle.room_lock.specs.Going.{Went}
use Rattle.news_room.specs.Stands.{Stands}
use Rattle.publish_workers.specs.Links.{Passes, Reads}
use Rattle.shared_workers.specs.Rounds.{Round, round_calls, round_holds}
use Rattle.shared_workers.specs.Tallies.{all_readings, all_frames, all_replies, all_passed, GoOn, Counted}
use Rattle.shared_workers.proofs.tally.worker_loop.Given as goal

abbrev pub invariant-loop : goal.invariant-loop
invariant-loop g l =
    (goal.iterator-loop g).can_next l.iterator' × (goal.iterator-loop g).is_finite l.iterator'
    × (lock_of l.pass ≡ lock_of l.initial.pass)
    × (g.L.Link.link.serves l.link ≡ g.L.Link.link.serves l.initial.link)
    × ((rounds : List Round) × GoOn rounds × Counted rounds l.tally
    × Went round_calls (round_holds (base_of l.shared) (g.L.Link.link.serves l.initial.link)) (Stands g.K.Keeper.keeper (start_of l.shared)) (front l.initial.pass) (calls l.initial.pass) (front l.pass) (calls l.pass) rounds
    × (g.L.Link.link.tells l.initial.link → Passes g.L.Link.link l.initial.link l.link (all_frames rounds) (all_replies rounds) (all_passed rounds))
    × (g.C.Clock.clock.tells l.initial.clock → Reads g.C.Clock.clock l.initial.clock l.clock (all_readings rounds)))

use Rattle.std.proofs.Common.{[], ◌∷◌, ◌++◌, refl, ap, ◌∙◌}
use Rattle.room_lock.specs.Locks.{front, calls, start_of}
use Rattle.news_room.specs.Stands.{Stands}
use Rattle.server_doors.specs.Doors.{opened, closed}
use Rattle.server_roles.specs.Conns.{Conn, conn, GoesOn}
use Rattle.server_roles.proofs.Halting.{each_more}
use Rattle.server_roles.proofs.Connecting.{is_served, not_stopped}
use Rattle.server_roles.proofs.Receiving.{received_none, received_still, received_more}
use Rattle.server_roles.proofs.first.receive.Goals as goal

pub loop-init : goal.loop-init
loop-init g c = (
  tt,
  tt,
  refl,
  refl,
  ([], tt, received_none g.G.Door.door g.C.Clock.clock (Stands g.K.Keeper.keeper (start_of c.args.shared.now)) c.args.door.now c.args.clock.now (front c.args.pass) (calls c.args.pass)),
)

pub returns-in-Err-clause-received : goal.returns-in-Err-clause-received
returns-in-Err-clause-received g c =
    let i = c.loop.invariant.4 in (
      i.0,
      i.1,
      received_still g.G.Door.door g.C.Clock.clock (Stands g.K.Keeper.keeper (start_of c.args.shared.now)) c.args.door.now c.loop.door c.accept.new.self c.args.clock.now c.loop.clock
          (front c.args.pass) (calls c.args.pass) (front c.loop.pass) (calls c.loop.pass) i.0 i.2
          (λ told. let none = c.in-Err.ensures.none told in (c.accept.ensures.told told, none.given, none.returned)),
    )

pub returns-in-Stopped-clause-received : goal.returns-in-Stopped-clause-received
returns-in-Stopped-clause-received g c =
    let i = c.loop.invariant.4 in
    let door = g.G.Door.door in
    let clock = g.C.Clock.clock in
    let stands = Stands g.K.Keeper.keeper (start_of c.args.shared.now) in
    let source = g.G.In.Source.source in
    let sink = g.G.Out.Sink.sink in
    let s = c.serve_connection-ended.ensures.served in
    let ended = c.serve_connection-ended.result.0 in
    let end = c.serve_connection-ended.result.1 in
    let input = c.in-Ok.connection.0 in
    let output = c.in-Ok.connection.1 in
    let input' = c.serve_connection-ended.new.source in
    let output' = c.serve_connection-ended.new.sink in
    let d : Conn = conn (opened source sink input output) s.answered ended (closed source sink input' output') in (
      i.0 ++ d ∷ [],
      record { before = i.0; last = d; are = refl; go_on = i.1; stops = c.in-Stopped.is },
      received_more door clock stands c.args.door.now c.loop.door c.give_back.new.self c.args.clock.now c.loop.clock (front c.args.pass) (calls c.args.pass) (front c.loop.pass) (calls c.loop.pass) i.0 i.2
          c.serve_connection-ended.new.clock (front end) (calls end) d s.went
          (is_served source sink input input' output output' (door.tells c.args.door.now) stands clock (front c.loop.pass) (calls c.loop.pass) (front end) (calls end) c.loop.clock c.serve_connection-ended.new.clock ended
          (λ told. let gives = c.in-Ok.ensures.given (i.2.passed told).tells in (gives.source_tells, gives.sink_tells, gives.unwritten)) s c.serve_connection-ended.ensures.causes)
          (λ told.
          let gives = c.in-Ok.ensures.given told in
          let now = c.accept.ensures.told told in
          let back = c.give_back.ensures.returned now in
          (c.give_back.ensures.told now, back.given ∙ gives.given, back.returned ∙ ap (λ l. l ++ d.returned ∷ []) gives.returned))
          (λ all. s.clock_gave (all c.loop.clock)),
    )

pub loop-preserved : goal.loop-preserved
loop-preserved g c =
    let i = c.loop.invariant.4 in
    let door = g.G.Door.door in
    let clock = g.C.Clock.clock in
    let stands = Stands g.K.Keeper.keeper (start_of c.args.shared.now) in
    let source = g.G.In.Source.source in
    let sink = g.G.Out.Sink.sink in
    let s = c.serve_connection-ended.ensures.served in
    let ended = c.serve_connection-ended.result.0 in
    let end = c.serve_connection-ended.result.1 in
    let input = c.in-Ok.connection.0 in
    let output = c.in-Ok.connection.1 in
    let input' = c.serve_connection-ended.new.source in
    let output' = c.serve_connection-ended.new.sink in
    let d : Conn = conn (opened source sink input output) s.answered ended (closed source sink input' output') in (
      tt,
      tt,
      c.serve_connection-ended.ensures.lock ∙ c.loop.invariant.2,
      c.give_back.ensures.count ∙ (c.in-Ok.ensures.count.calm ∙ c.loop.invariant.3),
      (
        i.0 ++ d ∷ [],
        each_more GoesOn i.0 d i.1 (not_stopped ended c.in_default.not-Stopped),
        received_more door clock stands c.args.door.now c.loop.door c.give_back.new.self c.args.clock.now c.loop.clock (front c.args.pass) (calls c.args.pass) (front c.loop.pass) (calls c.loop.pass) i.0 i.2
            c.serve_connection-ended.new.clock (front end) (calls end) d s.went
            (is_served source sink input input' output output' (door.tells c.args.door.now) stands clock (front c.loop.pass) (calls c.loop.pass) (front end) (calls end) c.loop.clock c.serve_connection-ended.new.clock ended
            (λ told. let gives = c.in-Ok.ensures.given (i.2.passed told).tells in (gives.source_tells, gives.sink_tells, gives.unwritten)) s c.serve_connection-ended.ensures.causes)
            (λ told.
            let gives = c.in-Ok.ensures.given told in
            let now = c.accept.ensures.told told in
            let back = c.give_back.ensures.returned now in
            (c.give_back.ensures.told now, back.given ∙ gives.given, back.returned ∙ ap (λ l. l ++ d.returned ∷ []) gives.returned))
            (λ all. s.clock_gave (all c.loop.clock)),
      ),
    )

use Rattle.std.proofs.Common.{inl, inr, arith}
use Rattle.newsdesk_server.proofs.Running.{held_full, printed_full, ready_locks, ran_some, has_run}
use Rattle.newsdesk_server.proofs.serve.run_serve.Goals as goal

pub returns-in-Err-clause-full : goal.returns-in-Err-clause-full
returns-in-Err-clause-full g c = held_full g.K.Keeper.keeper c.args.setup c.in-Err.held c.in-Err.ensures.held

pub returns-in-Err-clause-served : goal.returns-in-Err-clause-served
returns-in-Err-clause-served g c = inr (record { held = c.in-Err.ensures.held; line = c.tell.ensures.told })

pub run_roles-room-requires-clause-lock : goal.run_roles-room-requires-clause-lock
run_roles-room-requires-clause-lock g c = λ κs lives. ready_locks g.K.Keeper.keeper g.C.Clock.clock g.G.Door.door g.L.Link.link c.args.setup c.in-Ok.ready c.in-Ok.ensures.ready

pub tell_summary-requires : goal.tell_summary-requires
tell_summary-requires g c =
    let ran = c.run_roles-room.ensures.roles in
    ran_some g.K.Keeper.keeper g.C.Clock.clock g.G.Door.door g.L.Link.link c.args.setup c.in-Ok.ready c.in-Ok.ensures.ready c.run_roles-room.result.0 c.run_roles-room.result.1 ran.0 ran.1 c.requires.stands

pub returns-clause-full : goal.returns-clause-full
returns-clause-full g c =
    let ran = c.run_roles-room.ensures.roles in
    let some = ran_some g.K.Keeper.keeper g.C.Clock.clock g.G.Door.door g.L.Link.link c.args.setup c.in-Ok.ready c.in-Ok.ensures.ready c.run_roles-room.result.0 c.run_roles-room.result.1 ran.0 ran.1 c.requires.stands in (
      λ is. absurd (printed_full g.O.Sink.sink _ c.run_roles-room.result.1.ending c.args.output.now c.tell_summary.new.output c.tell_summary.result (c.tell_summary.ensures some.0 some.1) is),
      λ big. absurd (omega (arith, big, c.in-Ok.ensures.ready.small)),
    )

pub returns-clause-served : goal.returns-clause-served
returns-clause-served g c =
    let ran = c.run_roles-room.ensures.roles in
    inl (has_run g.K.Keeper.keeper g.C.Clock.clock g.G.Door.door g.L.Link.link c.args.setup c.in-Ok.ready c.in-Ok.ensures.ready c.run_roles-room.result.0 c.run_roles-room.result.1 ran.0 ran.1
    g.O.Sink.sink c.args.output.now c.tell_summary.new.output c.tell_summary.result ran.2 ran.3 c.tell_summary.ensures)

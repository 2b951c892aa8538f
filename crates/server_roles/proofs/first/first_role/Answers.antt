use Rattle.std.proofs.Common.{[], List, ℕ, refl, sym, subst, append-nil}
use Rattle.news_io.specs.Clock.{Gave}
use Rattle.news_io.proofs.Readings.{gave_then}
use Rattle.publish_workers.specs.Links.{CountsFaults}
use Rattle.room_lock.specs.Locks.{front, calls, start_of}
use Rattle.room_lock.proofs.Going.{went_none}
use Rattle.news_room.specs.Stands.{Stands}
use Rattle.shared_workers.specs.Tallies.{gather}
use Rattle.server_roles.specs.Conns.{EndsWith, readings_in, is_door_fault}
use Rattle.server_roles.specs.Halts.{halted_calls, halted_holds, halt_readings}
use Rattle.server_roles.specs.declared.first.Ending.{Ending}
use Rattle.server_roles.proofs.first.first_role.Goals as goal

pub returns-in-Stopped-clause-first : goal.returns-in-Stopped-clause-first
returns-in-Stopped-clause-first g c =
    let r = c.receive-ending.ensures.received in
    let end = c.receive-ending.result.1 in
    let clock = g.C.Clock.clock in record {
      conns = r.0;
      halts = [];
      mid = front end;
      mid_calls = calls end;
      went = r.2.went;
      halted = went_none halted_calls halted_holds (Stands g.K.Keeper.keeper (start_of c.args.shared.now)) (front end) (calls end);
      served = r.2.served;
      passed = r.2.passed;
      ends = subst (λ (e : Ending). EndsWith e r.0) c.in-Stopped.is r.1;
      halts_for = refl;
      gave = λ all. (clock.ahead c.receive-ending.new.clock, subst (λ (l : List ℕ). Gave (clock.ahead c.args.clock) l (clock.ahead c.receive-ending.new.clock)) (sym (append-nil (gather readings_in r.0))) (r.2.gave all));
    }

pub returns-in-Stopped-clause-door_faults : goal.returns-in-Stopped-clause-door_faults
returns-in-Stopped-clause-door_faults g c =
    let door = g.G.Door.door in
    subst (λ (e : Ending). CountsFaults (is_door_fault e) (door.faults c.args.door) (door.faults c.receive-ending.new.door)) c.in-Stopped.is c.receive-ending.ensures.door_faults

pub returns-clause-first : goal.returns-clause-first
returns-clause-first g c =
    let r = c.receive-ending.ensures.received in
    let h = c.halt_at_last-pass.ensures.halted in
    let clock = g.C.Clock.clock in
    let mid = c.receive-ending.new.clock in record {
      conns = r.0;
      halts = h.0;
      mid = front c.receive-ending.result.1;
      mid_calls = calls c.receive-ending.result.1;
      went = r.2.went;
      halted = h.2;
      served = r.2.served;
      passed = r.2.passed;
      ends = subst (λ (e : Ending). EndsWith e r.0) c.in-DoorFault.is r.1;
      halts_for = h.1;
      gave = λ all. (clock.ahead c.halt_at_last-pass.new.clock, gave_then (clock.ahead c.args.clock) (gather readings_in r.0) (clock.ahead mid) (halt_readings h.0) (clock.ahead c.halt_at_last-pass.new.clock) (r.2.gave all) (h.3 (all mid)).gave);
    }

pub returns-clause-door_faults : goal.returns-clause-door_faults
returns-clause-door_faults g c =
    let door = g.G.Door.door in
    subst (λ (e : Ending). CountsFaults (is_door_fault e) (door.faults c.args.door) (door.faults c.receive-ending.new.door)) c.in-DoorFault.is c.receive-ending.ensures.door_faults

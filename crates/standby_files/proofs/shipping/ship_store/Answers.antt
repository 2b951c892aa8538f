use Rattle.std.proofs.Common.{inl, inr, ap, refl}
use Rattle.standby_files.proofs.Ships.{lines_fit, few_enough, has_shipped, shipped_served}
use Rattle.standby_files.proofs.shipping.ship_store.Goals as goal

pub ship-answer-requires-clause-served : goal.ship-answer-requires-clause-served
ship-answer-requires-clause-served g c = c.requires.served

pub ship-answer-requires-clause-sizes : goal.ship-answer-requires-clause-sizes
ship-answer-requires-clause-sizes g c = lines_fit g.D.Disk.disk c.args.log c.args.side c.in-Ok.field-0 c.in-Ok.ensures.listed c.as_slice.result.now c.as_slice.ensures

pub ship-answer-requires-clause-few : goal.ship-answer-requires-clause-few
ship-answer-requires-clause-few g c = few_enough g.D.Disk.disk c.args.log c.args.side c.in-Ok.field-0 c.in-Ok.ensures.listed c.as_slice.result.now c.as_slice.ensures

pub returns-in-Ok-clause-ships : goal.returns-in-Ok-clause-ships
returns-in-Ok-clause-ships g c =
    let done = c.ship-answer.ensures in
    inr (has_shipped g.D.Disk.disk c.args.log c.args.side c.in-Ok.field-0 c.in-Ok.ensures.listed c.as_slice.result.now c.as_slice.ensures
    g.O.Sink.sink g.L.Link.link c.args.name.now c.into_disks-log.result.0 c.into_disks-log.result.1 c.args.output.now c.tell_ship.new.output c.args.link.now c.ship-answer.new.link c.tell_ship.result c.ship-answer.result
    (ap (λ both. both.0) c.into_disks-log.ensures) (ap (λ both. both.1) c.into_disks-log.ensures) done.ships done.events done.faults c.tell_ship.ensures)

pub returns-in-Ok-clause-serves : goal.returns-in-Ok-clause-serves
returns-in-Ok-clause-serves g c told told' store h long opens =
    shipped_served g.D.Disk.disk g.O.Sink.sink g.L.Link.link c.args.name.now c.args.log c.into_disks-log.result.0 c.args.side c.into_disks-log.result.1 c.args.output.now c.tell_ship.new.output c.args.link.now c.ship-answer.new.link c.tell_ship.result
    told told' store h long opens (returns-in-Ok-clause-ships g c)

pub returns-in-Ok-clause-link : goal.returns-in-Ok-clause-link
returns-in-Ok-clause-link g c = c.ship-answer.ensures.serves

pub returns-in-Err-clause-ships : goal.returns-in-Err-clause-ships
returns-in-Err-clause-ships g c = inl (record { why = c.in-Err.trouble; refused = c.in-Err.ensures.refused; stopped = c.tell_trouble.ensures; link_same = refl })

pub returns-in-Err-clause-serves : goal.returns-in-Err-clause-serves
returns-in-Err-clause-serves g c told told' store h long opens =
    shipped_served g.D.Disk.disk g.O.Sink.sink g.L.Link.link c.args.name.now c.args.log c.in-Err.log c.args.side c.in-Err.side c.args.output.now c.tell_trouble.new.output c.args.link.now c.args.link.now c.tell_trouble.result
    told told' store h long opens (returns-in-Err-clause-ships g c)

pub returns-in-Err-clause-link : goal.returns-in-Err-clause-link
returns-in-Err-clause-link g c = refl

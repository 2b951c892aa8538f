use Rattle.std.proofs.Common.{◌∙◌, arith}
use Rattle.room_standby.proofs.Exchanging.{one_more, ended}
use Rattle.room_standby.proofs.Numbers.{of_number, sent_by}
use Rattle.room_standby.proofs.shipping.ship.Goals as goal

pub records-preserved : goal.records-preserved
records-preserved g c = record {
  so_far =
      one_more g.L.Link.link c.args.records.now c.args.name.now c.args.link.now c.records.link c.exchange.new.link c.records.kept c.in-Ok.count c.records.invariant.so_far c.in-Ok.ensures.exchanges;
  few = c.in-Ok.ensures.exchanges.1;
  none = λ empty. absurd (omega (arith, empty, c.records-test.true));
  serves = c.in-Ok.ensures.serves ∙ c.records.invariant.serves;
  calm = c.in-Ok.ensures.faults ∙ c.records.invariant.calm;
}

pub returns-in-Err-clause-ships : goal.returns-in-Err-clause-ships
returns-in-Err-clause-ships g c =
    ended g.L.Link.link c.args.records.now c.args.name.now c.args.link.now c.records.link c.exchange.new.link c.records.kept c.in-Err.answer c.records.invariant.so_far c.in-Err.ensures.exchanges

pub returns-in-Err-clause-events : goal.returns-in-Err-clause-events
returns-in-Err-clause-events g c = of_number c.args.records.now

pub returns-in-Err-clause-sends : goal.returns-in-Err-clause-sends
returns-in-Err-clause-sends g c = sent_by c.args.records.now (omega (arith, c.requires.few))

pub returns-clause-events : goal.returns-clause-events
returns-clause-events g c = of_number c.args.records.now

pub returns-clause-sends : goal.returns-clause-sends
returns-clause-sends g c = sent_by c.args.records.now (omega (arith, c.requires.few))

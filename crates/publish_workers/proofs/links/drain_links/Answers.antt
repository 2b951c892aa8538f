use Rattle.std.specs.Prelude.{IsTrue}
use Rattle.std.proofs.Common.{◌∙◌, sym, ap, subst}
use Rattle.run_status.specs.declared.status.Status.{Status}
use Rattle.run_status.specs.Output.{Told}
use Rattle.run_status.specs.Status.{number_of, line_of as status_line}
use Rattle.publish_workers.specs.declared.drain.Drained.{Drained}
use Rattle.publish_workers.specs.Links.{CountsFaults}
use Rattle.publish_workers.specs.Drains.{is_store_end, is_output_end}
use Rattle.publish_workers.specs.LinkDrains.{is_idle}
use Rattle.publish_workers.specs.Statuses.{drain_status}
use Rattle.publish_workers.proofs.links.drain_links.Goals as goal

pub returns-clause-drained : goal.returns-clause-drained
returns-clause-drained g c =
    let d = c.drain_each-drained.ensures.drains in
    let end = d.2 in
    let status = c.status_of.ensures ∙ ap drain_status end in
    record {
      drains = d.0;
      but_last = d.1;
      all = λ idle. d.3 (subst (λ (e : Drained). IsTrue (is_idle e)) (sym end) idle);
      links = d.4;
      more = d.5.0;
      room = d.5.1;
      readings = d.6;
      store_faults = subst (λ (e : Drained). CountsFaults (is_store_end e) (g.K.Keeper.keeper.faults c.args.room.now.keeper) (g.K.Keeper.keeper.faults c.drain_each-drained.new.room.keeper)) end c.drain_each-drained.ensures.store_faults;
      told = c.drain_each-drained.new.output;
      lines = d.7;
      output_faults = subst (λ (e : Drained). CountsFaults (is_output_end e) (g.O.Sink.sink.faults c.args.output.now) (g.O.Sink.sink.faults c.drain_each-drained.new.output)) end c.drain_each-drained.ensures.output_faults;
      status_is = c.tell_status.ensures.number ∙ ap number_of status;
      line = subst (λ (s : Status). Told g.O.Sink.sink c.drain_each-drained.new.output c.tell_status.new.output (status_line s)) status c.tell_status.ensures.told;
    }

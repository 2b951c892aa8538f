use Rattle.std.proofs.Common.{refl}
use Rattle.newsdesk_cli.proofs.command.drill.Goals as goal

pub returns-clause-drilled : goal.returns-clause-drilled
returns-clause-drilled g c = record {
  ended = c.run_drill-ended.result;
  drilled = c.run_drill-ended.new.output;
  did = c.run_drill-ended.ensures.drilled;
  read = c.run_drill-ended.ensures.read;
  status_is = c.tell_status-status.ensures.number;
  line = c.tell_status-status.ensures.told;
}

pub returns-clause-files : goal.returns-clause-files
returns-clause-files g c = (refl, refl)

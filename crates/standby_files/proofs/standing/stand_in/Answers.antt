use Rattle.std.proofs.Common.{rules, ◌∙◌, inl, inr, true, false, ap, refl, lit<}
use mathlib.Core.Bool.{false≢true}
use Rattle.news_pair.specs.Stands.{log_disk, side_disk}
use Rattle.standby_files.proofs.Lefts.{run_left}
use Rattle.standby_files.proofs.Stood.{rose_along, stand_served}
use Rattle.standby_files.proofs.standing.stand_in.Goals as goal

pub run_records-status-requires : goal.run_records-status-requires
run_records-status-requires g c = lit< tt

pub returns-in-Ok-clause-stands : goal.returns-in-Ok-clause-stands
returns-in-Ok-clause-stands g c =
    let d = g.D.Disk.disk in
    let opened = c.in-Ok.ensures.opened in
    let done = c.run_records-status.ensures in
    let same = ap (λ both. both.0) c.into_disks-log.ensures ∙ ap log_disk c.into_keeper.ensures in
    let same_side = ap (λ both. both.1) c.into_disks-log.ensures ∙ ap side_disk c.into_keeper.ensures in
    inr (record {
      standby = c.in-Ok.standby;
      opened = opened;
      after = c.run_records-status.new.standby;
      same = same;
      same_side = same_side;
      ran = λ told only. done.run (record { told = told; held = opened.held }) (opened.stands told only);
      left = λ told told'.
          run_left d c.args.store c.args.log c.args.side c.in-Ok.standby c.run_records-status.new.standby opened told told' g.S.Source.source g.O.Sink.sink c.args.input.now c.run_records-status.new.input c.args.output.now c.run_records-status.new.output c.run_records-status.result
          (done.run (record { told = true; held = opened.held }) (opened.stands true (λ is. (told, told'))));
      complete = λ given few records whole fits reads writes disks.
          done.complete (record { told = false; held = opened.held }) (opened.stands false (λ is. absurd (false≢true is))) given few records whole fits reads writes
          (λ rose. disks (rose_along d c.args.log c.args.side c.into_disks-log.result.0 c.into_disks-log.result.1 c.in-Ok.standby.keeper c.run_records-status.new.standby.keeper opened.calm same same_side rose));
    })

pub returns-in-Ok-clause-serves : goal.returns-in-Ok-clause-serves
returns-in-Ok-clause-serves g c told told' held gives =
    stand_served g.D.Disk.disk g.S.Source.source g.O.Sink.sink c.args.store (search rules) c.args.log c.into_disks-log.result.0 c.args.side c.into_disks-log.result.1 c.args.input.now c.run_records-status.new.input c.args.output.now c.run_records-status.new.output c.run_records-status.result told told' held gives
    (returns-in-Ok-clause-stands g c)

pub returns-in-Err-clause-stands : goal.returns-in-Err-clause-stands
returns-in-Err-clause-stands g c = inl (record { why = c.in-Err.trouble; refused = c.in-Err.ensures.refused; stopped = c.tell_trouble.ensures; input_same = refl })

pub returns-in-Err-clause-serves : goal.returns-in-Err-clause-serves
returns-in-Err-clause-serves g c told told' held gives =
    stand_served g.D.Disk.disk g.S.Source.source g.O.Sink.sink c.args.store (search rules) c.args.log c.in-Err.log c.args.side c.in-Err.side c.args.input.now c.args.input.now c.args.output.now c.tell_trouble.new.output c.tell_trouble.result told told' held gives
    (returns-in-Err-clause-stands g c)

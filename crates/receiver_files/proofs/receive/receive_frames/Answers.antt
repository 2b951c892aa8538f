use Rattle.std.proofs.Common.{◌∙◌, inl, inr, true, ap, refl, lit<, subst}
use Rattle.run_status.specs.Output.{Told}
use Rattle.run_status.specs.Status.{number_of, line_of}
use Rattle.run_status.specs.declared.status.Status.{Status}
use Rattle.news_journal.specs.Stands.{disk_of}
use Rattle.receiver_files.specs.Refusals.{status_of}
use Rattle.receiver_files.proofs.Lefts.{run_left}
use Rattle.receiver_files.proofs.Serving.{rose_along, some_frames, served}
use Rattle.receiver_files.proofs.receive.receive_frames.Goals as goal

pub run_frames-status-requires : goal.run_frames-status-requires
run_frames-status-requires g c = lit< tt

pub returns-in-Ok-clause-received : goal.returns-in-Ok-clause-received
returns-in-Ok-clause-received g c =
    let d = g.D.Disk.disk in
    let opened = c.in-Ok.ensures.opened in
    let done = c.run_frames-status.ensures in
    let same = c.into_disk.ensures ∙ ap disk_of c.into_keeper.ensures in
    inr (record {
      receiver = c.in-Ok.receiver;
      opened = opened;
      after = c.run_frames-status.new.receiver;
      same = same;
      ran = λ told only. done.run (record { name = c.args.name; told = told; frames = opened.frames }) (opened.holds told only);
      left = λ tells.
          run_left d c.args.name c.args.log c.in-Ok.receiver c.run_frames-status.new.receiver opened tells g.S.Source.source g.O.Sink.sink c.args.input.now c.run_frames-status.new.input c.args.output.now c.run_frames-status.new.output c.run_frames-status.result
          (done.run (record { name = c.args.name; told = true; frames = opened.frames }) (opened.holds true (λ is. tells)));
      complete = λ given few frames whole reads writes disks.
          let b = some_frames d c.args.name c.args.log c.in-Ok.receiver opened in
          done.complete b.0 b.1 given few frames whole reads writes (λ rose. disks (rose_along d c.args.name c.args.log c.into_disk.result c.in-Ok.receiver c.run_frames-status.new.receiver opened same rose));
    })

pub returns-in-Ok-clause-serves : goal.returns-in-Ok-clause-serves
returns-in-Ok-clause-serves g c told frames gives =
    served g.D.Disk.disk g.S.Source.source g.O.Sink.sink c.args.name c.args.log c.into_disk.result c.args.input.now c.run_frames-status.new.input c.args.output.now c.run_frames-status.new.output c.run_frames-status.result told frames gives
    (returns-in-Ok-clause-received g c)

pub returns-in-Err-clause-received : goal.returns-in-Err-clause-received
returns-in-Err-clause-received g c =
    let line : Told g.O.Sink.sink c.args.output.now c.tell_status.new.output (line_of (status_of c.in-Err.refusal)) =
    subst (λ (s : Status). Told g.O.Sink.sink c.args.output.now c.tell_status.new.output (line_of s)) c.from.ensures c.tell_status.ensures.told in
    inl (record {
      why = c.in-Err.refusal;
      refused = c.in-Err.ensures.refused;
      stopped = record { status_is = c.tell_status.ensures.number ∙ ap number_of c.from.ensures; line = line };
      input_same = refl;
    })

pub returns-in-Err-clause-serves : goal.returns-in-Err-clause-serves
returns-in-Err-clause-serves g c told frames gives =
    served g.D.Disk.disk g.S.Source.source g.O.Sink.sink c.args.name c.args.log c.in-Err.log c.args.input.now c.args.input.now c.args.output.now c.tell_status.new.output c.tell_status.result told frames gives
    (returns-in-Err-clause-received g c)

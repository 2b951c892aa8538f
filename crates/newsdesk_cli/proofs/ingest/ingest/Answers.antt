use Rattle.std.proofs.Common.{◌∙◌, inl, inr, true, ap, refl}
use Rattle.news_pair.specs.Stands.{log_disk, side_disk}
use Rattle.newsdesk_cli.proofs.Commands.{some_book, rose_along}
use Rattle.newsdesk_cli.proofs.FilesLeft.{ingest_left}
use Rattle.newsdesk_cli.proofs.ingest.ingest.Goals as goal

pub take_in-status-requires : goal.take_in-status-requires
take_in-status-requires g c =
    let d = g.D.Disk.disk in
    record { holds = some_book d c.args.log c.args.side c.in-Ok.room c.in-Ok.ensures.opened }

pub returns-in-Ok : goal.returns-in-Ok
returns-in-Ok g c =
    let d = g.D.Disk.disk in
    let done = c.take_in-status.ensures in
    let same = ap (λ both. both.0) c.into_disks-log.ensures ∙ ap log_disk c.into_keeper.ensures in
    let same_side = ap (λ both. both.1) c.into_disks-log.ensures ∙ ap side_disk c.into_keeper.ensures in
    inr (record {
      went = record {
        room = c.in-Ok.room;
        opened = c.in-Ok.ensures.opened;
        after = c.take_in-status.new.room;
        same = same;
        same_side = same_side;
        files = λ told told'.
            let opened = c.in-Ok.ensures.opened in
            ingest_left d g.C.Clock.clock g.S.Source.source g.O.Sink.sink c.args.log c.args.side c.in-Ok.room c.take_in-status.new.room _ _ _ _ _ _ c.take_in-status.result opened told told' c.args.provider c.args.format (done.answered (record { store = opened.store; told = true; list = opened.history }) 65 (opened.holds true (λ is. (told, told'))));
      };
      answered = λ told only. done.answered (record { store = c.in-Ok.ensures.opened.store; told = told; list = c.in-Ok.ensures.opened.history }) 65 (c.in-Ok.ensures.opened.holds told only);
      complete = λ given few reads writes disks. done.complete given few reads writes (λ rose. disks (rose_along d c.args.log c.args.side c.into_disks-log.result.0 c.into_disks-log.result.1 c.in-Ok.room.keeper c.take_in-status.new.room.keeper c.in-Ok.ensures.opened.calm same same_side rose));
    })

pub returns-in-Err : goal.returns-in-Err
returns-in-Err g c = inl (record {
  why = record { why = c.in-Err.trouble; refused = c.in-Err.ensures.refused; stopped = c.tell_trouble.ensures };
  input_same = refl;
  clock_same = refl;
})

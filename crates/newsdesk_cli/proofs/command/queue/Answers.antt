use Rattle.std.proofs.Common.{◌∙◌, inl, inr, ap, refl}
use Rattle.news_pair.specs.Stands.{log_disk, side_disk}
use Rattle.room_reports.specs.Texts.{queue_report_at}
use Rattle.newsdesk_cli.proofs.Commands.{some_book}
use Rattle.newsdesk_cli.proofs.Reporting.{report_left}
use Rattle.newsdesk_cli.proofs.command.queue.Goals as goal

pub tell_queue-status-requires : goal.tell_queue-status-requires
tell_queue-status-requires g c =
    let d = g.D.Disk.disk in
    let found = some_book d c.args.log c.args.side c.in-Ok.room c.in-Ok.ensures.opened in
    (found.0, found.1.1.stands)

pub returns-in-Ok : goal.returns-in-Ok
returns-in-Ok g c =
    let d = g.D.Disk.disk in
    let opened = c.in-Ok.ensures.opened in
    let done = c.tell_queue-status.ensures in
    inr (record {
      went = record {
        room = c.in-Ok.room;
        opened = opened;
        after = c.tell_queue-status.new.room;
        same = ap (λ both. both.0) c.into_disks-log.ensures ∙ ap log_disk c.into_keeper.ensures;
        same_side = ap (λ both. both.1) c.into_disks-log.ensures ∙ ap side_disk c.into_keeper.ensures;
        files = λ told told'. report_left d g.C.Clock.clock g.O.Sink.sink queue_report_at c.args.log c.args.side c.in-Ok.room c.tell_queue-status.new.room _ _ _ _ c.tell_queue-status.result opened told told' done;
      };
      reported = done;
    })

pub returns-in-Err : goal.returns-in-Err
returns-in-Err g c = inl (record {
  why = record { why = c.in-Err.trouble; refused = c.in-Err.ensures.refused; stopped = c.tell_trouble.ensures };
  clock_same = refl;
})

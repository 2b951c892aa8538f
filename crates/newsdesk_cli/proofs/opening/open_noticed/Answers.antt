use Rattle.newsdesk_cli.proofs.Commands.{some_book}
use Rattle.newsdesk_cli.proofs.opening.open_noticed.Goals as goal

pub notice_room-requires : goal.notice_room-requires
notice_room-requires g c =
    let found = some_book g.D.Disk.disk c.args.log c.args.side c.in-Ok.room c.in-Ok.ensures.opened in
    (found.0, found.1.1.stands)

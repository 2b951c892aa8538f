use Rattle.std.proofs.Common.{◌∙◌, inl, inr, ℕ, false, sym, ap, subst}
use mathlib.Core.Bool.{false≢true}
use Rattle.news_pair.specs.Stands.{log_disk, side_disk}
use Rattle.list_marks.specs.Limits.{limits_lines}
use Rattle.room_reports.specs.Written.{IsWrittenOut}
use Rattle.store_files.specs.Files.{FilesHold}
use Rattle.store_files.proofs.Holding.{room_holds}
use Rattle.newsdesk_cli.proofs.Commands.{some_book}
use Rattle.newsdesk_cli.proofs.limits.list_limits.Goals as goal

pub tell_limits-status-requires : goal.tell_limits-status-requires
tell_limits-status-requires g c =
    let d = g.D.Disk.disk in
    let found = some_book d c.args.log c.args.side c.in-Ok.room c.in-Ok.ensures.opened in
    (found.0, found.1.1.stands)

pub returns-in-Ok : goal.returns-in-Ok
returns-in-Ok g c =
    let d = g.D.Disk.disk in
    let room = c.in-Ok.ensures.opened in
    let same = ap (λ both. both.0) c.into_disks-log.ensures ∙ ap log_disk c.into_keeper.ensures in
    let same_side = ap (λ both. both.1) c.into_disks-log.ensures ∙ ap side_disk c.into_keeper.ensures in
    inr (record {
      room = c.in-Ok.room;
      opened = room;
      same = same;
      same_side = same_side;
      files = λ told told'.
          subst (λ x. FilesHold d x c.into_disks-log.result.1 room.store room.history) (sym same)
          (subst (λ x. FilesHold d (log_disk c.in-Ok.room.keeper) x room.store room.history) (sym same_side)
          (room_holds d c.args.log c.args.side c.in-Ok.room room told told'));
      told =
          let holds = room.holds false (λ is. absurd (false≢true is)) in
          subst (λ (n : ℕ). IsWrittenOut g.O.Sink.sink (limits_lines room.history n) c.args.output.now c.tell_limits-status.new.output c.tell_limits-status.result) holds.uses
          (c.tell_limits-status.ensures (record { store = room.store; told = false; list = room.history }) holds.stands);
    })

pub returns-in-Err : goal.returns-in-Err
returns-in-Err g c = inl (record { why = c.in-Err.trouble; refused = c.in-Err.ensures.refused; stopped = c.tell_trouble.ensures })

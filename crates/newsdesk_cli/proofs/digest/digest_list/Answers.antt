use Rattle.std.proofs.Common.{◌∙◌, inl, inr, List, sym, ap, subst}
use Rattle.news_io.specs.declared.record.Record.{Record}
use Rattle.list_runs.specs.Lists.{AreOf}
use Rattle.news_pair.specs.Stands.{log_disk, side_disk}
use Rattle.newsdesk_cli.proofs.Looking.{files_held}
use Rattle.newsdesk_cli.proofs.digest.digest_list.Goals as goal

pub tell_digest-status-requires : goal.tell_digest-status-requires
tell_digest-status-requires g c =
    let from = c.in-Ok.ensures.opened in
    (from.room.history, subst (λ (l : List Record). AreOf l from.room.history) (sym c.as_slice.ensures) from.opens)

pub returns-in-Ok : goal.returns-in-Ok
returns-in-Ok g c =
    let from = c.in-Ok.ensures.opened in
    let same = ap (λ both. both.0) c.into_disks-log.ensures ∙ ap log_disk c.into_keeper.ensures in
    let same_side = ap (λ both. both.1) c.into_disks-log.ensures ∙ ap side_disk c.into_keeper.ensures in
    inr (record {
      room = c.in-Ok.room;
      opened = from.room;
      same = same;
      same_side = same_side;
      files = files_held g.D.Disk.disk c.args.log c.args.side c.in-Ok.room from.room _ _ same same_side;
      told = c.tell_digest-status.ensures from.room.history (subst (λ (l : List Record). AreOf l from.room.history) (sym c.as_slice.ensures) from.opens);
    })

pub returns-in-Err : goal.returns-in-Err
returns-in-Err g c = inl (record { why = c.in-Err.trouble; refused = c.in-Err.ensures.refused; stopped = c.tell_trouble.ensures })

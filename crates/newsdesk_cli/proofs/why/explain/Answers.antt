use Rattle.std.proofs.Common.{◌∙◌, ◌<◌, inl, inr, false, List, length, sym, ap, subst}
use Rattle.std.specs.Prelude.{All}
use mathlib.Core.Bool.{false≢true}
use Rattle.news_io.specs.declared.record.Record.{Record}
use Rattle.list_runs.specs.Lists.{AreOf}
use Rattle.news_pair.specs.Stands.{log_disk, side_disk}
use Rattle.newsdesk_cli.proofs.Looking.{files_held}
use Rattle.newsdesk_cli.proofs.why.explain.Goals as goal

pub tell_why-status-requires : goal.tell_why-status-requires
tell_why-status-requires g c =
    let from = c.in-Ok.ensures.opened in
    let stands = (from.room.holds false (λ is. absurd (false≢true is))).stands in
    record {
      few = subst (λ (l : List Record). length l < 2147483648) (sym c.as_slice.ensures) from.few;
      places = subst (λ (l : List Record). All (λ (r : Record). r.at < 4294967296) l) (sym c.as_slice.ensures) from.places;
      stands = c.newsroom.ensures.stands (record { store = from.room.store; told = false; list = from.room.history }, stands);
    }

pub returns-in-Ok : goal.returns-in-Ok
returns-in-Ok g c =
    let from = c.in-Ok.ensures.opened in
    let stands = (from.room.holds false (λ is. absurd (false≢true is))).stands in
    let same = ap (λ both. both.0) c.into_disks-log.ensures ∙ ap log_disk c.into_keeper.ensures in
    let same_side = ap (λ both. both.1) c.into_disks-log.ensures ∙ ap side_disk c.into_keeper.ensures in
    inr (record {
      room = c.in-Ok.room;
      opened = from.room;
      same = same;
      same_side = same_side;
      files = files_held g.D.Disk.disk c.args.log c.args.side c.in-Ok.room from.room _ _ same same_side;
      told = c.tell_why-status.ensures from.room.history (c.newsroom.ensures.stands_for (record { store = from.room.store; told = false; list = from.room.history }) stands)
          (subst (λ (l : List Record). AreOf l from.room.history) (sym c.as_slice.ensures) from.opens);
    })

pub returns-in-Err : goal.returns-in-Err
returns-in-Err g c = inl (record { why = c.in-Err.trouble; refused = c.in-Err.ensures.refused; stopped = c.tell_trouble.ensures })

use Rattle.std.proofs.Common.{◌∙◌, inl, inr, length, sym, ap, refl}
use Rattle.news_pair.specs.Stands.{log_disk, side_disk}
use Rattle.newsdesk_cli.proofs.Commands.{some_book}
use Rattle.newsdesk_cli.proofs.Draining.{drain_left, of_vector}
use Rattle.newsdesk_cli.proofs.command.drain.Goals as goal

pub drain_links-status-requires : goal.drain_links-status-requires
drain_links-status-requires g c =
    let d = g.D.Disk.disk in
    let found = some_book d c.args.log c.args.side c.in-Ok.room c.in-Ok.ensures.opened in
    record { stands = (found.0, found.1.1.stands) }

pub returns-in-Ok : goal.returns-in-Ok
returns-in-Ok g c =
    let d = g.D.Disk.disk in
    let opened = c.in-Ok.ensures.opened in
    let done = of_vector _ _ _ _ _ _ _ _ _ _ _ c.args.links.now.len c.args.links.now.items c.as_mut_slice.result.now c.drain_links-status.new.links c.as_mut_slice.ensures.value (sym c.as_mut_slice.ensures.len ∙ ap length c.as_mut_slice.ensures.value) c.drain_links-status.ensures.serves c.drain_links-status.ensures.drained in
    inr (record {
      went = record {
        room = c.in-Ok.room;
        opened = opened;
        after = c.drain_links-status.new.room;
        same = ap (λ both. both.0) c.into_disks-log.ensures ∙ ap log_disk c.into_keeper.ensures;
        same_side = ap (λ both. both.1) c.into_disks-log.ensures ∙ ap side_disk c.into_keeper.ensures;
        files = λ told told'. drain_left d g.C.Clock.clock g.O.Sink.sink g.L.Link.link c.args.log c.args.side c.in-Ok.room c.drain_links-status.new.room _ _ _ _ _ _ c.drain_links-status.result opened told told' done;
      };
      drained = done;
    })

pub returns-in-Err : goal.returns-in-Err
returns-in-Err g c = inl (record {
  why = record { why = record { why = c.in-Err.trouble; refused = c.in-Err.ensures.refused; stopped = c.tell_trouble.ensures }; clock_same = refl };
  links_same = refl;
})

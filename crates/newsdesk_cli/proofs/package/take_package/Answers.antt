use Rattle.std.proofs.Common.{◌∙◌, inl, inr, ap, refl}
use Rattle.news_pair.specs.Stands.{log_disk, side_disk}
use Rattle.newsdesk_cli.proofs.Commands.{some_book}
use Rattle.newsdesk_cli.proofs.Packaging.{package_left, package_complete}
use Rattle.newsdesk_cli.proofs.package.take_package.Goals as goal

pub package_input-status-requires : goal.package_input-status-requires
package_input-status-requires g c =
    let d = g.D.Disk.disk in
    let found = some_book d c.args.log c.args.side c.in-Ok.room c.in-Ok.ensures.opened in
    (found.0, found.1.1.stands)

pub returns-in-Ok : goal.returns-in-Ok
returns-in-Ok g c =
    let d = g.D.Disk.disk in
    let opened = c.in-Ok.ensures.opened in
    let done = c.package_input-status.ensures in
    let same = ap (λ both. both.0) c.into_disks-log.ensures ∙ ap log_disk c.into_keeper.ensures in
    let same_side = ap (λ both. both.1) c.into_disks-log.ensures ∙ ap side_disk c.into_keeper.ensures in
    inr (record {
      went = record {
        room = c.in-Ok.room;
        opened = opened;
        after = c.package_input-status.new.room;
        same = same;
        same_side = same_side;
        files = λ told told'.
            package_left d g.C.Clock.clock g.S.Source.source g.O.Sink.sink c.args.caller c.args.number c.args.log c.args.side c.in-Ok.room c.package_input-status.new.room _ _ _ _ _ _ c.package_input-status.result opened told told' done;
      };
      published = done;
      complete = λ given few reads writes disks.
          package_complete d g.C.Clock.clock g.S.Source.source g.O.Sink.sink c.args.caller c.args.number c.args.log c.args.side c.in-Ok.room c.package_input-status.new.room _ _ _ _ _ _ c.package_input-status.result opened c.into_disks-log.result.0 c.into_disks-log.result.1 same same_side given few reads writes disks done;
    })

pub returns-in-Err : goal.returns-in-Err
returns-in-Err g c = inl (record {
  why = record { why = c.in-Err.trouble; refused = c.in-Err.ensures.refused; stopped = c.tell_trouble.ensures };
  input_same = refl;
  clock_same = refl;
})

use Rattle.std.proofs.Common.{◌≡◌, ◌∙◌, ap, subst}
use Rattle.news_pair.specs.Stands.{log_disk, side_disk}
use Rattle.store_files.specs.Store.{IsRefused}
use Rattle.standby_files.specs.Listing.{IsListOf, IsNoList, IsListed}
use Rattle.standby_files.proofs.Second.{if_ok, if_err, Reread, Unread, is_listed, not_listed, not_read}
use Rattle.standby_files.proofs.listing.read_again.Goals as goal

pub returns-in-Ok-clause-listed : goal.returns-in-Ok-clause-listed
returns-in-Ok-clause-listed g c log side o =
    let d = g.D.Disk.disk in
    let pair = c.in-Ok.ensures in
    let opened = c.in-Ok.opened in
    let mid = ap (λ both. both.0) c.into_disks-log.ensures ∙ ap log_disk c.into_keeper.ensures in
    let mid' = ap (λ both. both.1) c.into_disks-log.ensures ∙ ap side_disk c.into_keeper.ensures in
    let first : Reread d log side c.args.room o c.into_disks-log.result.0 c.into_disks-log.result.1 opened = record {
      opens = pair.opens;
      few = pair.few;
      label = pair.label;
      tells = pair.tells;
      list = pair.list;
      doubts = pair.doubts;
      quiet = pair.quiet;
      used = pair.used;
      gains = pair.crash;
      still = pair.still;
      calm = pair.calm;
    } in
    let a = subst (λ x. Reread d log side c.args.room o x (side_disk c.args.room.keeper) opened) mid (subst (λ x. Reread d log side c.args.room o c.into_disks-log.result.0 x opened) mid' first) in
    if_ok (IsListOf opened) (IsListed d log side) c.read_list.result (λ l of. is_listed d log side c.args.room o opened a l of) c.read_list.ensures.list

pub returns-in-Ok-clause-refused : goal.returns-in-Ok-clause-refused
returns-in-Ok-clause-refused g c log side o =
    let d = g.D.Disk.disk in
    let pair = c.in-Ok.ensures in
    let opened = c.in-Ok.opened in
    let mid = ap (λ both. both.0) c.into_disks-log.ensures ∙ ap log_disk c.into_keeper.ensures in
    let mid' = ap (λ both. both.1) c.into_disks-log.ensures ∙ ap side_disk c.into_keeper.ensures in
    let first : Reread d log side c.args.room o c.into_disks-log.result.0 c.into_disks-log.result.1 opened = record {
      opens = pair.opens;
      few = pair.few;
      label = pair.label;
      tells = pair.tells;
      list = pair.list;
      doubts = pair.doubts;
      quiet = pair.quiet;
      used = pair.used;
      gains = pair.crash;
      still = pair.still;
      calm = pair.calm;
    } in
    let a = subst (λ x. Reread d log side c.args.room o x (side_disk c.args.room.keeper) opened) mid (subst (λ x. Reread d log side c.args.room o c.into_disks-log.result.0 x opened) mid' first) in
    if_err (λ e. (e.0 ≡ log_disk opened.pair) × (e.1 ≡ side_disk opened.pair) × IsNoList opened.header opened.records e.2) (λ e. IsRefused d log side e.0 e.1 e.2) c.read_list.result
    (λ e bad. not_listed d log side c.args.room o opened a e.0 e.1 e.2 bad.0 bad.1 bad.2) c.read_list.ensures.none

pub returns-in-Err-clause-refused : goal.returns-in-Err-clause-refused
returns-in-Err-clause-refused g c log side o =
    let d = g.D.Disk.disk in
    let pair = c.in-Err.ensures in
    let mid = ap (λ both. both.0) c.into_disks-log.ensures ∙ ap log_disk c.into_keeper.ensures in
    let mid' = ap (λ both. both.1) c.into_disks-log.ensures ∙ ap side_disk c.into_keeper.ensures in
    let first : Unread d log side c.args.room o c.into_disks-log.result.0 c.into_disks-log.result.1 c.in-Err.log c.in-Err.side c.in-Err.fault = record { damage = pair.damage; count = pair.fault; still = pair.still_err; gains = pair.crash_err } in
    let u = subst (λ x. Unread d log side c.args.room o x (side_disk c.args.room.keeper) c.in-Err.log c.in-Err.side c.in-Err.fault) mid (subst (λ x. Unread d log side c.args.room o c.into_disks-log.result.0 x c.in-Err.log c.in-Err.side c.in-Err.fault) mid' first) in
    not_read d log side c.args.room o c.in-Err.log c.in-Err.side c.in-Err.fault c.from.result c.from.ensures u

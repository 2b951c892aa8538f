use Rattle.std.proofs.Common.{◌+◌, sym, subst}
use Rattle.store_files.specs.Store.{Cause, TroubleCounts}
use Rattle.store_files.proofs.Stores.{opened_room, err_cause, err_counts, err_crash, err_still, fault_cause, fault_counts}
use Rattle.store_files.proofs.store.open_pair.Goals as goal

pub room_of-requires : goal.room_of-requires
room_of-requires g c = record { few = c.in-Ok.ensures.few }

pub returns-in-Ok-clause-opened : goal.returns-in-Ok-clause-opened
returns-in-Ok-clause-opened g c =
    let d = g.D.Disk.disk in
    let pair = c.in-Ok.ensures in
    opened_room d
    c.args.log c.args.side c.in-Ok.opened pair.opens pair.whole pair.label pair.tells pair.list pair.doubts pair.quiet pair.used pair.crash pair.still pair.calm c.room_of.result
    c.room_of.ensures.room

pub returns-in-Ok-clause-cause : goal.returns-in-Ok-clause-cause
returns-in-Ok-clause-cause g c told told' other =
    let d = g.D.Disk.disk in
    let pair = c.in-Ok.ensures in
    err_cause d c.args.log c.args.side c.in-Ok.opened c.room_of.result (pair.records told told') (pair.opens told told') (pair.whole told told') other c.room_of.ensures.none

pub returns-in-Ok-clause-count : goal.returns-in-Ok-clause-count
returns-in-Ok-clause-count g c =
    let d = g.D.Disk.disk in
    err_counts d c.args.log c.args.side c.in-Ok.opened c.room_of.result c.in-Ok.ensures.calm c.room_of.ensures.none

pub returns-in-Ok-clause-crash : goal.returns-in-Ok-clause-crash
returns-in-Ok-clause-crash g c told told' =
    let d = g.D.Disk.disk in
    err_crash d c.args.log c.args.side c.in-Ok.opened c.room_of.result (c.in-Ok.ensures.crash told told') c.room_of.ensures.none

pub returns-in-Ok-clause-still : goal.returns-in-Ok-clause-still
returns-in-Ok-clause-still g c told' =
    let d = g.D.Disk.disk in
    err_still d c.args.log c.args.side c.in-Ok.opened c.room_of.result (c.in-Ok.ensures.still told') c.room_of.ensures.none

pub returns-in-Err-clause-cause : goal.returns-in-Err-clause-cause
returns-in-Err-clause-cause g c told told' other =
    let d = g.D.Disk.disk in
    subst (Cause (d.seen c.args.log) (d.seen c.args.side)) (sym c.from.ensures) (fault_cause (d.seen c.args.log) (d.seen c.args.side) c.in-Err.fault (c.in-Err.ensures.damage told told') other)

pub returns-in-Err-clause-count : goal.returns-in-Err-clause-count
returns-in-Err-clause-count g c =
    let d = g.D.Disk.disk in
    let before = d.faults c.args.log + d.faults c.args.side in
    let now = d.faults c.in-Err.log + d.faults c.in-Err.side in
    subst (TroubleCounts before now) (sym c.from.ensures) (fault_counts before now c.in-Err.fault c.in-Err.ensures.fault)

pub returns-in-Err-clause-crash : goal.returns-in-Err-clause-crash
returns-in-Err-clause-crash g c told told' = c.in-Err.ensures.crash_err told told'

pub returns-in-Err-clause-still : goal.returns-in-Err-clause-still
returns-in-Err-clause-still g c told' = c.in-Err.ensures.still_err told'

use Rattle.std.proofs.Common.{◌+◌, inl, ap, subst, arith}
use Rattle.std.proofs.lemmas.Result.{err_from_is_err_and}
use Rattle.store_files.specs.Kinds.{IsKind}
use Rattle.store_files.specs.declared.trouble.Trouble.TheVariants as trouble
use Rattle.store_files.proofs.Counts.{rose_left, side_calm, on_ok_then}
use Rattle.store_files.proofs.Headers.{not_known, not_other}
use Rattle.store_files.proofs.Stores.{still_same, kind_refused, side_refused}
use Rattle.store_files.proofs.store.refuse_other_kinds.Goals as goal

pub returns-in-Other-clause-refused : goal.returns-in-Other-clause-refused
returns-in-Other-clause-refused g c =
    let d = g.D.Disk.disk in
    let asked = c.in_ok-log_kind in
    let side = c.args.side.now in
    kind_refused d c.args.log.now side c.log_kind.new.log side trouble.WrongStore
    (λ told told'. inl (subst (IsKind (d.seen c.args.log.now)) c.in-Other.is (asked.ensures.kind told)))
    (ap (λ n. n + d.faults side) asked.ensures.count.calm)
    c.log_kind.ensures.still (still_same d side)

pub returns-in-Room-clause-refused : goal.returns-in-Room-clause-refused
returns-in-Room-clause-refused g c =
    let d = g.D.Disk.disk in
    let asked = c.in_ok-log_kind in
    side_refused d c.args.log.now c.args.side.now c.log_kind.new.log c.refuse_other_side.new.side c.in-Room.store
    asked.ensures.count.calm c.log_kind.ensures.still c.refuse_other_side.ensures.still
    (λ told. subst (IsKind (d.seen c.args.log.now)) c.in-Room.is (asked.ensures.kind told))
    c.refuse_other_side.result c.refuse_other_side.ensures.cause c.refuse_other_side.ensures.count

pub returns-in-Room-clause-own : goal.returns-in-Room-clause-own
returns-in-Room-clause-own g c told told' =
    let d = g.D.Disk.disk in
    let asked = c.in_ok-log_kind in
    on_ok_then (λ own. not_other (d.seen c.args.log.now) (d.seen c.args.side.now) c.in-Room.store
    (subst (IsKind (d.seen c.args.log.now)) c.in-Room.is (asked.ensures.kind told)) own)
    c.refuse_other_side.result (c.refuse_other_side.ensures.own told')

pub returns-in-Room-clause-calm : goal.returns-in-Room-clause-calm
returns-in-Room-clause-calm g c = side_calm _ _ _ _ c.in_ok-log_kind.ensures.count.calm c.refuse_other_side.result c.refuse_other_side.ensures.calm

pub returns-in-Unknown-clause-own : goal.returns-in-Unknown-clause-own
returns-in-Unknown-clause-own g c told told' =
    let d = g.D.Disk.disk in
    let asked = c.in_ok-log_kind in
    not_known (d.seen c.args.log.now) (d.seen c.args.side.now) (subst (IsKind (d.seen c.args.log.now)) c.in-Unknown.is (asked.ensures.kind told))

pub returns-in_err-log_kind-clause-refused : goal.returns-in_err-log_kind-clause-refused
returns-in_err-log_kind-clause-refused g c =
    let d = g.D.Disk.disk in
    let side = c.args.side.now in
    let p = err_from_is_err_and c.from_residual.result c.from_residual.ensures.1 in
    rw (p.1, p.2) (kind_refused d c.args.log.now side c.log_kind.new.log side trouble.Store
    (λ told told'. tt)
    (rose_left (d.faults c.args.log.now) (d.faults c.log_kind.new.log) (d.faults side) (d.faults side) (omega arith) c.in_err-log_kind.ensures.count.failed)
    c.log_kind.ensures.still (still_same d side))

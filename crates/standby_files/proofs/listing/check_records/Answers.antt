use Rattle.std.proofs.Common.{[]}
use Rattle.std.proofs.lemmas.Result.{err_from_is_err_and}
use Rattle.standby_files.proofs.RecordLists.{none_yet, are_more, are_all, bad_record}
use Rattle.standby_files.proofs.listing.check_records.Goals as goal

pub loop-here-init : goal.loop-here-init
loop-here-init c = ([], none_yet)

pub returns-in_err-check_record-clause-none : goal.returns-in_err-check_record-clause-none
returns-in_err-check_record-clause-none c =
    let inv = c.loop-here.invariant in
    let given = err_from_is_err_and c.from_residual.result c.from_residual.ensures.1 in
    rw (given.1, given.2) (bad_record c.args.records.now c.loop-here.here-index c.here-item.result c.loop-here-test.true c.here-item.is inv.0 inv.1 c.in_err-check_record.field-0.0 c.in_err-check_record.ensures.none)

pub loop-here-preserved : goal.loop-here-preserved
loop-here-preserved c =
    let inv = c.loop-here.invariant in
    are_more c.args.records.now c.loop-here.here-index c.here-item.result c.loop-here-test.true c.here-item.is inv.0 inv.1 c.in_ok-check_record.ensures.entry

pub returns-clause-list : goal.returns-clause-list
returns-clause-list c =
    let inv = c.loop-here.invariant in
    (inv.0, are_all c.args.records.now c.loop-here.here-index inv.0 c.loop-here-test.false inv.1)

use Rattle.std.proofs.lemmas.Result.{err_from_is_err_and}
use Rattle.entry_segments.specs.Spelled.{entry_in}
use Rattle.entry_segments.proofs.Spelled.{moment_read, moment_stops, tag_read, tag_stops}
use Rattle.entry_segments.proofs.payload_parts.read_parts.Goals as goal

pub returns-in_err-moment-clause-fault : goal.returns-in_err-moment-clause-fault
returns-in_err-moment-clause-fault c =
    let e = err_from_is_err_and c.from_residual.result c.from_residual.ensures.1 in
    rw (e.1, e.2) (moment_stops c.args.input.now c.requires _ c.in_err-moment.ensures)

pub returns-in_err-tag-clause-fault : goal.returns-in_err-tag-clause-fault
returns-in_err-tag-clause-fault c =
    let e = err_from_is_err_and c.from_residual-in_err-tag.result c.from_residual-in_err-tag.ensures.1 in
    let m = moment_read c.args.input.now c.requires _ _ c.in_ok-moment.ensures in
    rw (e.1, e.2) (tag_stops (entry_in c.args.input.now).act c.u64.new.self m.1 _ c.in_err-tag.ensures)

pub returns-in_err-told-clause-fault : goal.returns-in_err-told-clause-fault
returns-in_err-told-clause-fault c =
    let e = err_from_is_err_and c.from_residual-in_err-told.result c.from_residual-in_err-told.ensures.1 in
    let a = (entry_in c.args.input.now).act in
    let m = moment_read c.args.input.now c.requires _ _ c.in_ok-moment.ensures in
    let t = tag_read a c.u64.new.self m.1 _ _ c.in_ok-tag.ensures in
    rw (e.1, e.2) (c.in_err-told.ensures.fault a c.requires.is_entry.formed t.0 t.1)

pub returns-clause-moment : goal.returns-clause-moment
returns-clause-moment c = (moment_read c.args.input.now c.requires _ _ c.in_ok-moment.ensures).0

pub returns-clause-tells : goal.returns-clause-tells
returns-clause-tells c =
    let a = (entry_in c.args.input.now).act in
    let m = moment_read c.args.input.now c.requires _ _ c.in_ok-moment.ensures in
    let t = tag_read a c.u64.new.self m.1 _ _ c.in_ok-tag.ensures in
    c.in_ok-told.ensures.tells a c.requires.is_entry.formed t.0 t.1

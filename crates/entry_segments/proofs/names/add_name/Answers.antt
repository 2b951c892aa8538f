use Rattle.std.proofs.Common.{◌∙◌, ◌≤◌, ◌<◌, length, []}
use Rattle.entry_segments.proofs.NameOrder.{searchable, put_at, put_same}
use Rattle.entry_segments.proofs.names.add_name.Goals as goal

pub returns-in-Ok : goal.returns-in-Ok
returns-in-Ok c up =
    let items = c.args.names.now.items in
    let at = c.in-Ok.field-0 in
    let ok = rw c.deref.ensures.value at c.in-Ok.ensures.ok in
    let within : at < length items = rw c.deref.ensures.value at c.in-Ok.ensures.bound in
    put_same c.args.name.now items at up within (ok [])

pub returns-in_ok-insert-in-Err : goal.returns-in_ok-insert-in-Err
returns-in_ok-insert-in-Err c up =
    let items = c.args.names.now.items in
    let at = c.in-Err.at in
    let position = rw c.deref.ensures.value at c.in-Err.ensures.position in
    let within : at ≤ length items = rw c.deref.ensures.value at c.in-Err.ensures.bound in
    let point = position (searchable items c.args.name.now up) in
    c.in_ok-insert-in-Err.ensures.items ∙ put_at c.args.name.now items at within point.0 point.1

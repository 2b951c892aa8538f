use Rattle.std.proofs.Common.{[], sym}
use Rattle.entry_segments.proofs.NameOrder.{searchable, place_found, place_none}
use Rattle.entry_segments.proofs.names.place_of.Goals as goal

pub returns-in-Ok-clause-place : goal.returns-in-Ok-clause-place
returns-in-Ok-clause-place c = sym (place_found c.args.name.now c.args.names.now c.in-Ok.at c.requires c.in-Ok.ensures.bound (c.in-Ok.ensures.ok []))

pub returns-in-Err-clause-place : goal.returns-in-Err-clause-place
returns-in-Err-clause-place c =
    let point = c.in-Err.ensures.position (searchable c.args.names.now c.args.name.now c.requires) in
    sym (place_none c.args.name.now c.args.names.now c.in-Err.field-0 point.0 point.1)

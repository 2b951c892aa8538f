use Rattle.standby_files.proofs.Steps.{place_is, no_fault}
use Rattle.standby_files.proofs.answering.payload_place.Goals as goal

pub returns-in-Ok-clause-place : goal.returns-in-Ok-clause-place
returns-in-Ok-clause-place c r a =
    place_is c.args.line.now r c.in-Ok.record.number c.in-Ok.record.payload.now a c.in-Ok.ensures.«record» _ c.saturating_sub.ensures

pub returns-in-Err-clause-place : goal.returns-in-Err-clause-place
returns-in-Err-clause-place c r a = absurd (no_fault c.args.line.now r a _ c.in-Err.ensures.fault)

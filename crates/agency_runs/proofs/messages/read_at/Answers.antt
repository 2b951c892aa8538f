use Rattle.std.proofs.Common.{◌+◌, ◌≤◌, length, arith}
use Rattle.agency_runs.proofs.FaultPlaces.{fault_near}
use Rattle.agency_runs.proofs.messages.read_at.Goals as goal

pub message_fault-requires : goal.message_fault-requires
message_fault-requires c =
    let near : c.in-Err-Fault.within ≤ length c.args.bytes.now + 1 = fault_near c.args.now c.args.bytes.now c.in-Err-Fault.within c.in-Err-Fault.what (rw c.in-Err-Fault.field-0-is at c.in-Err-Fault.ensures.value) in
    omega (arith, near, c.requires)

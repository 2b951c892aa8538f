-- What a drain is told as at its end.
use Rattle.std.specs.Prelude.{true, false}
use Rattle.run_status.specs.declared.status.Status.{Status}
use Rattle.run_status.specs.declared.status.Status.TheVariants as status
use Rattle.publish_workers.specs.declared.drain.Drained as ends
use Rattle.publish_workers.specs.declared.drain.Drained.{Drained}

-- a failed link before a reply that is no receipt
abbrev pub drain_status : Drained → Status
drain_status (ends.Drained.Idle true no_receipt) = status.Link
drain_status (ends.Drained.Idle false true) = status.NoReceipt
drain_status (ends.Drained.Idle false false) = status.Done
drain_status ends.Drained.StoreFault = status.Store
drain_status ends.Drained.OutputFault = status.Output
drain_status (ends.Drained.Full size count) = status.Full
drain_status ends.Drained.Memory = status.Memory

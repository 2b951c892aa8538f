use Rattle.receiver_files.proofs.Logs.{serves_bytes}
use Rattle.receiver_files.proofs.law.opened_law.Goals as goal

pub returns : goal.returns
returns c = serves_bytes

use Rattle.standby_files.proofs.Replies.{sent_taken}
use Rattle.standby_files.proofs.law.sent_law.Goals as goal

pub returns : goal.returns
returns c = sent_taken

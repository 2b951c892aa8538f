use Rattle.standby_files.proofs.Replies.{replies_held}
use Rattle.standby_files.proofs.law.kept_law.Goals as goal

pub returns : goal.returns
returns c = replies_held

use Rattle.record_lines.proofs.Replies.{read_again}
use Rattle.record_lines.proofs.law.replies_law.Goals as goal

pub returns : goal.returns
returns c = read_again

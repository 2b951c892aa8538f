use Rattle.std.proofs.Common.{subst}
use Rattle.news_journal.specs.Log.{IsHead}
use Rattle.receiver_files.proofs.Logs.{compared_head, other_kind}
use Rattle.receiver_files.proofs.kinds.is_mine.Goals as goal

pub returns-in-Receiver : goal.returns-in-Receiver
returns-in-Receiver c = λ head is.
    compared_head c.in-Receiver.other c.args.name.now c.as_bytes.result.now head c.as_bytes.ensures.form c.requires c.as_bytes.ensures.bytes c.eq.result c.eq.ensures (subst (λ h. IsHead h head) c.in-Receiver.is is)

pub returns-in-Room : goal.returns-in-Room
returns-in-Room c = λ head is mine. other_kind c.args.name.now c.in-Room.store head (subst (λ h. IsHead h head) c.in-Room.is is) mine

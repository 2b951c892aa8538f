use Rattle.std.proofs.lemmas.Result.{IfOk-weaker}
use Rattle.newsroom.proofs.Recorded.{adds, stays}
use Rattle.newsroom.proofs.records.prepare_added.Goals as goal

pub returns-in-AddSubscriber-clause-change : goal.returns-in-AddSubscriber-clause-change
returns-in-AddSubscriber-clause-change c h m caller number silent legal =
    IfOk-weaker c.prepare_subscriber.result _ _ (λ change leads. leads h _ (rw c.in-AddSubscriber.is (adds h m caller number _ _ _ _ (rw c.in-AddSubscriber.is at legal)))) c.prepare_subscriber.ensures.change

pub returns-in_default-clause-change : goal.returns-in_default-clause-change
returns-in_default-clause-change c h m caller number silent legal =
    c.nothing.ensures.change h _ (stays h m caller number c.args.command.now silent c.in_default.not-AddSubscriber)

pub returns-in_default-clause-room : goal.returns-in_default-clause-room
returns-in_default-clause-room c = c.nothing.ensures.room _

use Rattle.std.proofs.Common.{ap, ◌∙◌}
use Rattle.story_tables.specs.Delivering.{judged}
use Rattle.story_tables.proofs.Delivered.{receipt_judged}
use Rattle.story_tables.proofs.stories.Stories.judge_receipt.Goals as goal

pub returns : goal.returns
returns c h keeps =
    let is = c.judge.ensures ∙ ap (λ o. judged o c.args.n) (c.feed_facts.ensures h keeps) in
    rw is (receipt_judged h c.args.subscriber.now c.args.n)

use Rattle.std.proofs.Common.{ap, ◌∙◌}
use Rattle.newsroom.specs.Acts.{raises_by}
use Rattle.newsroom.proofs.SmallActs.{raised}
use Rattle.newsroom.proofs.newsroom.Newsroom.may_follow.Goals as goal

pub returns-in-Receipt : goal.returns-in-Receipt
returns-in-Receipt c h stands =
    rw c.in-Receipt.is (c.raises_by.ensures ∙ ap (λ o. raises_by o c.in-Receipt.n) (c.feed_facts.ensures h stands.stories) ∙ raised h c.in-Receipt.subscriber c.in-Receipt.n stands.legal)

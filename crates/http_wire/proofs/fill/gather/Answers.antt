use Rattle.std.proofs.Common.{◌∙◌}
use Rattle.http_wire.proofs.fill.gather.Goals as goal

pub returns-in_err-fill-clause-more : goal.returns-in_err-fill-clause-more
returns-in_err-fill-clause-more g c = let m = c.loop-bytes.invariant.more in (m.0, c.in_err-fill.ensures.adds ∙ m.1)

pub returns-then-not-branch-clause-more : goal.returns-then-not-branch-clause-more
returns-then-not-branch-clause-more g c =
    let m = c.loop-bytes.invariant.more in
    let same = rw c.if-not-branch.true at c.in_ok-fill.ensures.adds in
    (m.0, same ∙ m.1)

pub returns-clause-more : goal.returns-clause-more
returns-clause-more g c = c.loop-bytes.invariant.more

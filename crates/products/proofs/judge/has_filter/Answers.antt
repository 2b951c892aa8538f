use Rattle.products.proofs.judge.has_filter.Goals as goal

pub returns-in-Some : goal.returns-in-Some
returns-in-Some c h keeps = rw c.in-Some.is (c.has.ensures h keeps)

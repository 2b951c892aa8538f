use Rattle.newsroom.proofs.incoming.prepare_place.Goals as goal

pub returns-in_ok-change-in-NewAt-clause-change : goal.returns-in_ok-change-in-NewAt-clause-change
returns-in_ok-change-in-NewAt-clause-change c h there = rw c.in-NewAt.is (c.in_ok-change-in-NewAt.ensures.change h (rw c.in-NewAt.is at there))

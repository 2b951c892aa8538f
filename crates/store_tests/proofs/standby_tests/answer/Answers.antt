use Rattle.store_tests.proofs.standby_tests.answer.Goals as goal

pub returns : goal.returns
returns c =
    let after = c.take.ensures.step c.requires.0 c.requires.1 in
    (after.0, after.1)

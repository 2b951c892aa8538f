use Rattle.store_tests.proofs.room_tests.halt.Goals as goal

pub returns : goal.returns
returns c =
    let e = c.halt.ensures in
    (_, (e.1 c.requires.0 c.requires.1).stands)

use Rattle.worker_tests.proofs.turn_tests.turn.Goals as goal

pub returns : goal.returns
returns g c =
    let e = c.deliver_turn.ensures.turn in
    (_, (e.2.3 c.requires.0 c.requires.1).stands)

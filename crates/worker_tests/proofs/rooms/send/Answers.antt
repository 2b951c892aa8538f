use Rattle.worker_tests.proofs.rooms.send.Goals as goal

pub returns : goal.returns
returns g c =
    let e = c.request.ensures in
    (_, (e.1 c.requires.0 c.requires.1).stands)

use Rattle.server_tests.proofs.devices.tick.Goals as goal

pub returns : goal.returns
returns g c =
    let e = c.tick.ensures in
    (_, (e.1 c.requires.0 c.requires.1).stands)

use Rattle.server_tests.proofs.devices.receive.Goals as goal

pub returns : goal.returns
returns g c =
    let e = c.receipt.ensures in
    (_, (e.1 c.requires.0 c.requires.1).stands)

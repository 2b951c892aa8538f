use Rattle.store_tests.proofs.room_tests.ingests.bring.Goals as goal

pub returns : goal.returns
returns g c =
    let e = c.ingest.ensures in
    (_, (e.1 c.requires.0 c.requires.1).stands)

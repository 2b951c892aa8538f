use Rattle.store_tests.proofs.room_tests.claims.claim_both.Goals as goal

pub returns : goal.returns
returns g c =
    let e = c.claim.ensures in
    (_, (e.1 c.requires.0 c.requires.1).stands)

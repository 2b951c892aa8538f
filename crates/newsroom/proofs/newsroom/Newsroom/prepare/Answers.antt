use Rattle.newsroom.proofs.newsroom.Newsroom.prepare.Goals as goal

pub returns-in-Request-clause-outcome : goal.returns-in-Request-clause-outcome
returns-in-Request-clause-outcome c h stands = rw c.in-Request.is (c.prepare_request.ensures.outcome h stands)

pub returns-in-Request-clause-change : goal.returns-in-Request-clause-change
returns-in-Request-clause-change c h stands later = rw c.in-Request.is (c.prepare_request.ensures.change h stands later)

pub returns-in-Ingest-clause-outcome : goal.returns-in-Ingest-clause-outcome
returns-in-Ingest-clause-outcome c h stands = rw c.in-Ingest.is (c.prepare_ingest.ensures.outcome h stands)

pub returns-in-Ingest-clause-change : goal.returns-in-Ingest-clause-change
returns-in-Ingest-clause-change c h stands later = rw c.in-Ingest.is (c.prepare_ingest.ensures.change h stands later)

use Rattle.news_room.proofs.Complete.{outcomes_complete, receipts_complete, ticks_complete, halts_complete, claims_complete}
use Rattle.news_room.proofs.laws.completeness_law.Goals as goal

pub returns-clause-outcomes : goal.returns-clause-outcomes
returns-clause-outcomes c = outcomes_complete

pub returns-clause-receipts : goal.returns-clause-receipts
returns-clause-receipts c = receipts_complete

pub returns-clause-ticks : goal.returns-clause-ticks
returns-clause-ticks c = ticks_complete

pub returns-clause-halts : goal.returns-clause-halts
returns-clause-halts c = halts_complete

pub returns-clause-claims : goal.returns-clause-claims
returns-clause-claims c = claims_complete

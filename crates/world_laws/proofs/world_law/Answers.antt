use Rattle.world_laws.proofs.Headline.{headline_holds}
use Rattle.world_laws.proofs.Heard.{receipts_hold}
use Rattle.world_laws.proofs.world_law.Goals as goal

pub returns-clause-headline : goal.returns-clause-headline
returns-clause-headline c = headline_holds

pub returns-clause-receipts : goal.returns-clause-receipts
returns-clause-receipts c = receipts_hold

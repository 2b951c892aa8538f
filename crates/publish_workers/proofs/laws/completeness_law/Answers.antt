use Rattle.publish_workers.proofs.Additions.{drains_only_deliver}
use Rattle.publish_workers.proofs.Complete.{idles_are_done, feeds_are_delivered, replies_are_receipts, drains_are_complete}
use Rattle.publish_workers.proofs.laws.completeness_law.Goals as goal

pub returns-clause-additions : goal.returns-clause-additions
returns-clause-additions g c = drains_only_deliver g.K.Keeper.keeper

pub returns-clause-idle : goal.returns-clause-idle
returns-clause-idle g c = idles_are_done g.K.Keeper.keeper

pub returns-clause-delivered : goal.returns-clause-delivered
returns-clause-delivered g c = feeds_are_delivered g.K.Keeper.keeper

pub returns-clause-receipts : goal.returns-clause-receipts
returns-clause-receipts g c = replies_are_receipts g.K.Keeper.keeper

pub returns-clause-complete : goal.returns-clause-complete
returns-clause-complete g c = drains_are_complete g.K.Keeper.keeper

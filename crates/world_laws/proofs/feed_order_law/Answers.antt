use Rattle.world_laws.proofs.Order.{feeds_in_order}
use Rattle.world_laws.proofs.feed_order_law.Goals as goal

pub returns : goal.returns
returns c = feeds_in_order

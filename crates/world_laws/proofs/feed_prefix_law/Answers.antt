use Rattle.news_types.proofs.Prefix.{feeds_grow}
use Rattle.world_laws.proofs.feed_prefix_law.Goals as goal

pub returns : goal.returns
returns c = feeds_grow

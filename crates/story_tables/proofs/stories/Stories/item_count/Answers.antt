use Rattle.std.proofs.Common.{arith}
use Rattle.news_types.proofs.Limits.{items_limited}
use Rattle.story_tables.proofs.stories.Stories.item_count.Goals as goal

pub overflow_cast-result : goal.overflow_cast-result
overflow_cast-result c = omega (arith, c.len.ensures _ c.requires.1.0.items, items_limited c.requires.0 c.requires.1.1)

pub returns : goal.returns
returns c h keeps = c.len.ensures _ keeps.items

use Rattle.std.proofs.Common.{arith}
use Rattle.news_types.proofs.Limits.{items_limited}
use Rattle.story_tables.proofs.stories.Stories.next_item.Goals as goal

pub overflow_cast-result : goal.overflow_cast-result
overflow_cast-result c =
    let h = c.requires.0 in
    omega (arith, c.len.ensures _ c.requires.1.0.items, items_limited h c.requires.1.1)

pub overflow_add-result : goal.overflow_add-result
overflow_add-result c =
    let h = c.requires.0 in
    omega (arith, c.len.ensures _ c.requires.1.0.items, items_limited h c.requires.1.1)

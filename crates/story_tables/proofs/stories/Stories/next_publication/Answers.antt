use Rattle.std.proofs.Common.{arith}
use Rattle.news_types.proofs.Limits.{pubs_limited}
use Rattle.story_tables.proofs.stories.Stories.next_publication.Goals as goal

pub overflow_cast-result : goal.overflow_cast-result
overflow_cast-result c = omega (arith, c.len.ensures _ _ c.requires.1.0.publications, pubs_limited c.requires.0 c.requires.1.1)

pub overflow_add-result : goal.overflow_add-result
overflow_add-result c = omega (arith, c.len.ensures _ _ c.requires.1.0.publications, pubs_limited c.requires.0 c.requires.1.1)

pub returns : goal.returns
returns c h keeps = omega (arith, c.len.ensures _ _ keeps.publications)

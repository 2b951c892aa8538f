use Rattle.news_types.specs.declared.entry.Act.TheVariants.{Halt}
use Rattle.newsroom.proofs.newsroom.Newsroom.halt.Goals as goal

pub returns-clause-stories : goal.returns-clause-stories
returns-clause-stories c h keeps later = c.advance.ensures h Halt keeps later tt

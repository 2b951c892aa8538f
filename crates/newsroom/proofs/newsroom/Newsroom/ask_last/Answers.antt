use Rattle.std.proofs.Common.{ap}
use Rattle.news_types.specs.declared.query.Answer.TheVariants as told
use Rattle.newsroom.proofs.newsroom.Newsroom.ask_last.Goals as goal

pub returns : goal.returns
returns c h frame stands = ap told.Number (c.last_of.ensures h stands.stories)

use Rattle.std.proofs.Common.{ap}
use Rattle.news_types.specs.declared.query.Answer.TheVariants as told
use Rattle.newsroom.proofs.newsroom.Newsroom.ask_queue.Goals as goal

pub returns : goal.returns
returns c h frame stands = ap told.Queue (c.in_ok-queue_report.ensures h stands.stories stands.legal)

use Rattle.std.proofs.Common.{◌∙◌}
use Rattle.news_io.specs.Devices.{memory_keeper}
use Rattle.feed_drill.proofs.Counted.{counted}
use Rattle.feed_drill.proofs.report.frames_held.Goals as goal

pub returns : goal.returns
returns c = λ held holds. c.unwrap_or.ensures ∙ counted memory_keeper c.args.link.now held c.args.subscriber.now c.count.result holds c.count.ensures

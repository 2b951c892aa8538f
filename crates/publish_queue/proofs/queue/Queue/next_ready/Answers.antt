use Rattle.std.proofs.Common.{◌∙◌}
use Rattle.publish_queue.specs.Keeps.{facts}
use Rattle.publish_queue.proofs.Chosen.{choice_is}
use Rattle.publish_queue.proofs.Choosing.{choice_some, choice_none}
use Rattle.publish_queue.proofs.queue.Queue.next_ready.Goals as goal

pub returns-in-Some : goal.returns-in-Some
returns-in-Some c h keeps = choice_some (facts h) c.args.names.now c.args.moment c.in-Some.ready (c.in-Some.ensures (facts h) keeps) ∙ choice_is h c.args.names.now c.args.moment

pub returns-in-None : goal.returns-in-None
returns-in-None c h keeps = choice_none (facts h) c.args.names.now c.args.moment c.next_moment.result (c.in-None.ensures (facts h) keeps) (c.next_moment.ensures (facts h) keeps) ∙ choice_is h c.args.names.now c.args.moment

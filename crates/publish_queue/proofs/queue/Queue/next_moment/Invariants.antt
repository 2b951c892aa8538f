use Rattle.std.proofs.Common.{◌≡◌, drop}
use Rattle.publish_queue.specs.Keeps.{Facts, Keeps}
use Rattle.publish_queue.specs.Choice.{soonest, later_moment_of}
use Rattle.publish_queue.specs.Coming.{sooner}
use Rattle.publish_queue.proofs.queue.Queue.next_moment.Given as goal

-- with the moments of the rest it is that of all
abbrev pub invariant-loop-name : goal.invariant-loop-name
invariant-loop-name l = (known : Facts) → Keeps l.self known → soonest (later_moment_of known) l.names ≡ sooner l.next (soonest (later_moment_of known) (drop l.name-index l.names))

use Rattle.told_entries.proofs.Behind.{pushed, plain_pushed}
use Rattle.told_entries.proofs.object.Listed.with.Goals as goal

pub invariant_of-result : goal.invariant_of-result
invariant_of-result c = record { plain = rw c.in_ok-push.ensures.items (plain_pushed c.args.self.values.items c.args.value c.args.self.plain c.requires) }

pub returns : goal.returns
returns c = rw c.in_ok-push.ensures.items (pushed c.args.self.values.items c.args.value)

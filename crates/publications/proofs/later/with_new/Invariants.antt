use Rattle.std.proofs.Common.{◌≡◌, drop}
use Rattle.publications.specs.Later.{Knows, with_new}
use Rattle.publications.proofs.later.with_new.Given as goal

abbrev pub invariant-loop-one : goal.invariant-loop-one
invariant-loop-one l = Knows l.known l.all.items × (with_new l.all.items (drop l.one-index l.due) ≡ with_new l.fn.before l.due)

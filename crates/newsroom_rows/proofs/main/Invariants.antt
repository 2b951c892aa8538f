use Rattle.newsroom_rows.specs.Lists.{SomeList}
use Rattle.newsroom_rows.proofs.main.Given as goal

abbrev pub invariant-loop-line : goal.invariant-loop-line
invariant-loop-line l = SomeList l.session.machine

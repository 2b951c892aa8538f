use Rattle.std.proofs.Common.{◌≡◌, drop}
use Rattle.std.specs.Prelude.{unwrap_or}
use Rattle.rule_tables.proofs.Releases.{given}
use Rattle.rule_tables.proofs.due.release_of.Given as goal

abbrev pub invariant-loop-one : goal.invariant-loop-one
invariant-loop-one l = given l.fn.subscriber (drop l.one-index l.due) ≡ given l.fn.subscriber l.due

use denote.Text.{Utf8}
use denote.Shadow.{shadow}
use Rattle.archive_query.specs.Near.{IsMended}
use Rattle.archive_query.proofs.near.mend.Given as goal

-- says that each `&str` the loop changes is text: keep it, and add clauses with ×
abbrev pub invariant-loop-rest : goal.invariant-loop-rest
invariant-loop-rest l = shadow (Utf8 l.rest) × IsMended l.text l.into l.rest

abbrev pub decreases-loop-rest : goal.decreases-loop-rest
decreases-loop-rest l = l.left

use Rattle.std.proofs.Common.{sym, subst}
use Rattle.desk_rules.specs.Facts.{facts}
use Rattle.desk_rules.specs.Steps.{Fits}
use Rattle.desk_rules.proofs.Allowed.{making_fits}
use Rattle.desk_rules.proofs.table.Desks.prepare_item.Goals as goal

pub returns-clause-change : goal.returns-clause-change
returns-clause-change c h there = record {
  step = c.make-step.ensures;
  fits = subst (λ s. Fits s (facts h)) (sym c.make-step.ensures) (making_fits (facts h) c.args.place there);
}

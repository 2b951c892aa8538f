use Rattle.std.proofs.Common.{sym, subst}
use Rattle.desk_rules.specs.Facts.{facts}
use Rattle.desk_rules.specs.Steps.{Fits}
use Rattle.desk_rules.proofs.Allowed.{fits}
use Rattle.desk_rules.proofs.table.Desks.prepare.Goals as goal

pub returns-clause-change : goal.returns-clause-change
returns-clause-change c h allowed =
    let caller = c.args.caller.now in
    let command = c.args.command.now in
    record {
      step = c.step_of-step.ensures;
      fits = subst (λ s. Fits s (facts h)) (sym c.step_of-step.ensures) (fits h caller command allowed);
    }

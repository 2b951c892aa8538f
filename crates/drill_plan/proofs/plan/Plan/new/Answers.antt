use Rattle.std.proofs.Common.{◌≡◌, length, sym, ap, subst, arith, All}
use Rattle.news_types.specs.FitsCommands.{FitsCommand}
use Rattle.drill_plan.proofs.Limits.{setup-fits}
use Rattle.drill_plan.proofs.Counts.{length-commands}
use Rattle.drill_plan.proofs.plan.Plan.new.Goals as goal

pub invariant_of-result : goal.invariant_of-result
invariant_of-result c =
    let due = c.in_ok-setup.field-0.items in
    let made : length due ≡ 34 = ap length c.in_ok-setup.ensures in
    let few = length-commands 1000 due c.args.stories 1 c.args.seed in
    let small = c.ranges.stories in
    record {
      agenda = record {
        fits = subst (All FitsCommand) (sym c.in_ok-setup.ensures) setup-fits;
        stories = omega (arith, small);
      };
      numbers = omega (arith, made, few, small);
    }

use Rattle.std.proofs.Common.{◌≡◌, ◌+◌, ◌<◌, [], ◌∙◌, sym, ap, subst, arith, All}
use Rattle.std.proofs.lemmas.Grind.{common_steps}
use Rattle.news_types.specs.FitsCommands.{FitsCommand}
use Rattle.drill_plan.specs.Stories.{steps_of}
use Rattle.drill_plan.proofs.Limits.{steps_of-fits}
use Rattle.drill_plan.proofs.Counts.{going_on}
use Rattle.drill_plan.proofs.agenda.go_on.Goals as goal

pub returns-clause-same : goal.returns-clause-same
returns-clause-same c =
    let a = c.args.agenda.now in
    let nothing : a.due.items ≡ [] = grind (arith, common_steps) in
    let some : 0 < a.left = omega (arith, c.if-agenda-eq0.false) in
    let steps = c.in_ok-agenda.ensures ∙ ap (λ r. steps_of (a.story + 1) r) c.draw.ensures in
    going_on a.due.items c.in_ok-agenda.field-0.items a.story a.left a.generator c.next-agenda.result nothing some steps c.next-agenda.ensures

pub returns-clause-limits : goal.returns-clause-limits
returns-clause-limits c =
    let a = c.args.agenda.now in
    let some : 0 < a.left = omega (arith, c.if-agenda-eq0.false) in
    record {
      fits = subst (All FitsCommand) (sym c.in_ok-agenda.ensures) (steps_of-fits (a.story + 1) c.draw.result (omega (arith, c.requires.stories)));
      stories = omega (arith, c.requires.stories);
    }

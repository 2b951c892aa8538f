use Rattle.std.proofs.Common.{◌≡◌, ◌+◌, ◌++◌, ◌∷◌, length, ap, arith}
use Rattle.std.proofs.lemmas.List.Elements.{All-rest}
use Rattle.news_types.specs.FitsCommands.{FitsCommand}
use Rattle.drill_plan.specs.Stories.{moment_of}
use Rattle.drill_plan.specs.Plan.{at, stories}
use Rattle.drill_plan.proofs.plan.Plan.next.Goals as goal

pub invariant_of-self-2 : goal.invariant_of-self-2
invariant_of-self-2 c =
    let now = c.go_on.new.agenda in
    let rest = c.pop_front.new.self.items in
    let later = stories now.left (now.story + 1) now.generator in
    let popped : now.due.items ≡ c.in-Some.command ∷ rest = c.in-Some.ensures.items in
    let same = ap length c.go_on.ensures.same in
    let fewer : length (at (moment_of now.story) now.due.items ++ later) ≡ length (at (moment_of now.story) (c.in-Some.command ∷ rest) ++ later) =
    ap (λ due. length (at (moment_of now.story) due ++ later)) popped in
    record {
      agenda = record {
        fits = All-rest FitsCommand c.in-Some.command rest now.due.items popped c.go_on.ensures.limits.fits;
        stories = c.go_on.ensures.limits.stories;
      };
      numbers = omega (arith, same, fewer, c.self.invariant.numbers);
    }

use Rattle.std.proofs.Common.{arith, refl}
use Rattle.ninjs_text.proofs.properties.moment_or_zero.Goals as goal

pub returns-in-Some-moment_of_text-clause-bound : goal.returns-in-Some-moment_of_text-clause-bound
returns-in-Some-moment_of_text-clause-bound c =
    let text = (c.in-Some-moment_of_text.ensures.exact c.in-Some-moment_of_text.moment).0 refl in
    let most = text.in_range in
    omega (arith, most)

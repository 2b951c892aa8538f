use Rattle.std.proofs.Common.{◌≡◌, true, false, arith, refl}
use Rattle.std.proofs.lemmas.Grind.{common_steps}
use Rattle.news_types.specs.Names.{same}
use Rattle.news_types.proofs.Members.{same_is}
use Rattle.name_rolls.specs.Rolls.{names_at}
use Rattle.name_rolls.proofs.change.reserve_stage.Goals as goal

pub returns-in_err-reserve-clause-alike : goal.returns-in_err-reserve-clause-alike
returns-in_err-reserve-clause-alike c other = elim (same c.args.desk.now other) as (λ b. same c.args.desk.now other ≡ b → names_at (c.get_mut.follows.lender c.reserve.new.self) other ≡ names_at c.args.stages.now other) [
  | true ↦ λ is. rw (← same_is c.args.desk.now other is) (grind (arith, common_steps))
  | false ↦ λ isnt. grind (arith, common_steps)
] refl

pub returns-in_ok-reserve-clause-alike : goal.returns-in_ok-reserve-clause-alike
returns-in_ok-reserve-clause-alike c other = elim (same c.args.desk.now other) as (λ b. same c.args.desk.now other ≡ b → names_at (c.get_mut.follows.lender c.reserve.new.self) other ≡ names_at c.args.stages.now other) [
  | true ↦ λ is. rw (← same_is c.args.desk.now other is) (grind (arith, common_steps))
  | false ↦ λ isnt. grind (arith, common_steps)
] refl

use Rattle.std.proofs.Common.{◌≡◌, true, [], ◌∷◌, ◌++◌, map}
use Rattle.std.specs.List.{flat_map, range_with_len}
use Rattle.news_types.specs.declared.command.Command.TheVariants.{AddDesk, SetMember}
use Rattle.news_types.specs.Users.{admin}
use Rattle.drill_plan.specs.Setup.{desk, product_steps, subscriber_step}
use Rattle.drill_plan.proofs.setup.setup.Given as goal

abbrev pub invariant-loop-i : goal.invariant-loop-i
invariant-loop-i l = l.commands.items ≡ AddDesk desk ∷ SetMember desk admin true ∷ [] ++ flat_map product_steps (range_with_len 0 l.i)

abbrev pub invariant-loop-i-2 : goal.invariant-loop-i-2
invariant-loop-i-2 l = l.commands.items ≡ AddDesk desk ∷ SetMember desk admin true ∷ [] ++ flat_map product_steps (range_with_len 0 8) ++ map subscriber_step (range_with_len 0 l.i)

use Rattle.std.proofs.Common.{true, [], ◌∷◌, ◌++◌, ◌∙◌, ap, sym, map, append_assoc, arith}
use Rattle.std.specs.List.{flat_map, range_with_len}
use Rattle.std.proofs.lemmas.List.FromFn.{map-range_with_len_more}
use Rattle.news_types.specs.declared.command.Command.TheVariants.{AddDesk, SetMember}
use Rattle.news_types.specs.Users.{admin}
use Rattle.drill_plan.specs.Setup.{desk, product_steps, subscriber_step}
use Rattle.drill_plan.proofs.Ranges.{flat_map-range_more}
use Rattle.drill_plan.proofs.setup.setup.Goals as goal

pub loop-i-preserved : goal.loop-i-preserved
loop-i-preserved c =
    let i = c.loop-i.i in
    let front = AddDesk desk ∷ SetMember desk admin true ∷ [] in
    c.in_ok-put_product.ensures ∙ ap (λ z. z ++ product_steps i) c.loop-i.invariant
    ∙ append_assoc front (flat_map product_steps (range_with_len 0 i)) (product_steps i)
    ∙ ap (λ z. front ++ z) (sym (flat_map-range_more product_steps i))

pub loop-i-2-preserved : goal.loop-i-2-preserved
loop-i-2-preserved c =
    let i = c.loop-i-2.i in
    let front = AddDesk desk ∷ SetMember desk admin true ∷ [] ++ flat_map product_steps (range_with_len 0 8) in
    c.in_ok-push_back-3.ensures.items ∙ ap (λ z. z ++ c.in_ok-subscriber.field-0 ∷ []) c.loop-i-2.invariant
    ∙ ap (λ command. front ++ map subscriber_step (range_with_len 0 i) ++ command ∷ []) c.in_ok-subscriber.ensures
    ∙ append_assoc front (map subscriber_step (range_with_len 0 i)) (subscriber_step i ∷ [])
    ∙ ap (λ z. front ++ z) (sym (map-range_with_len_more subscriber_step 0 i i (omega arith)))

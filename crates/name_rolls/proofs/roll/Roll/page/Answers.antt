use Rattle.std.proofs.Common.{◌≡◌, ◌-◌, length, take, drop, arith, ap, ◌∙◌, length-drop}
use Rattle.name_rolls.proofs.Order.{take_min, take_all}
use Rattle.name_rolls.proofs.roll.Roll.page.Goals as goal

pub returns : goal.returns
returns c names is =
    let items = c.deref.result.now in
    let from = c.first_behind.result in
    let whole : take (length items - from) (drop from items) ≡ drop from items = take_all (drop from items) (length items - from) (omega (arith, length-drop from items)) in
    ap (λ n. take n (take (length items - from) (drop from items))) c.min.ensures ∙ take_min (take (length items - from) (drop from items)) 100
    ∙ ap (take 100) (whole ∙ ap (drop from) c.deref.ensures.value ∙ c.first_behind.ensures.behind names is)

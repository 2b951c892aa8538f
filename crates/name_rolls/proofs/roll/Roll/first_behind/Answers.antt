use Rattle.std.proofs.Common.{◌≡◌, drop, Some, rules, sym, ap, ◌∙◌}
use Rattle.std.specs.List.{filter}
use Rattle.std.proofs.lemmas.List.Sorted.{IsPartitionPoint-from_clause}
use Rattle.news_types.specs.Answers.{in_order}
use Rattle.desk_views.specs.Things.{is_behind}
use Rattle.name_rolls.proofs.Order.{upto, Rise, rises, parted_upto, behind_at, all_behind}
use Rattle.name_rolls.proofs.roll.Roll.first_behind.Goals as goal

pub returns-in-Some-clause-behind : goal.returns-in-Some-clause-behind
returns-in-Some-clause-behind c names is =
    let after = c.in-Some.after in
    let items = c.deref.result.now in
    let are : items ≡ in_order names = c.deref.ensures.value ∙ is in
    let up : Rise items = rw are (rises names) in
    let point = IsPartitionPoint-from_clause (λ t. upto t after) items _ c.partition_point.ensures.partitioned (parted_upto items after up) (λ a r q k. search rules) in
    ap (drop c.partition_point.result) (sym c.deref.ensures.value)
    ∙ behind_at after items c.partition_point.result c.partition_point.ensures.bound point.0 point.1
    ∙ ap (filter (is_behind (Some after))) are ∙ ap (λ o. filter (is_behind o) (in_order names)) (sym c.in-Some.is)

pub returns-in-None-clause-behind : goal.returns-in-None-clause-behind
returns-in-None-clause-behind c names is =
    is ∙ sym (all_behind (in_order names)) ∙ ap (λ o. filter (is_behind o) (in_order names)) (sym c.in-None.is)

use Rattle.std.proofs.Common.{◌≡◌, true, rules, refl, sym, ap, ◌∙◌, is_ok}
use Rattle.std.specs.List.{insert}
use Rattle.std.proofs.lemmas.List.Sorted.{IsPartitionPoint-from_clause}
use Rattle.news_types.specs.Answers.{put_name, in_order}
use Rattle.name_rolls.proofs.Order.{before, Rise, rises, parted_before, put_at}
use Rattle.name_rolls.proofs.roll.Roll.put.Goals as goal

pub returns : goal.returns
returns c names is =
    let name = c.args.name in
    let items = c.deref.result.now in
    let are : items ≡ in_order names = c.deref.ensures.value ∙ is in
    let up : Rise items = rw are (rises names) in
    let point = IsPartitionPoint-from_clause (λ t. before t name) items _ c.partition_point-place.ensures.partitioned (parted_before items name up) (λ a r q k. search rules) in
    let done : is_ok c.insert.result ≡ true = c.insert.ensures.succeeds c.requires.fits in
    let grown : c.insert.new.self.items ≡ insert c.args.self.now.names.items c.partition_point-place.result name = c.insert.ensures.items ∙ rw done refl in
    grown ∙ ap (λ ns. insert ns c.partition_point-place.result name) (sym c.deref.ensures.value)
    ∙ put_at name items c.partition_point-place.result c.partition_point-place.ensures.bound point.0 point.1 ∙ ap (put_name name) are

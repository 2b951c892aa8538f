use Rattle.std.proofs.Common.{◌≡◌, ◌++◌, drop, All, IfOk}
use Rattle.serde_json.specs.View.{items_view}
use Rattle.news_types.specs.Fits.{FitsIncoming}
use Rattle.agency_items.specs.Items.{each}
use Rattle.agency_items.proofs.items.each.Given as goal

abbrev pub invariant-loop-value : goal.invariant-loop-value
invariant-loop-value l = record {
  rest : l.items.items ++ each (items_view (drop l.value-index l.list.items)) ≡ each (items_view l.list.items);
  fits : All (λ told. IfOk told FitsIncoming) l.items.items;
}

use Rattle.std.proofs.Common.{◌≡◌, drop}
use Rattle.serde_json.specs.View.{items_view}
use Rattle.agency_items.specs.Lists.{first_category}
use Rattle.agency_items.proofs.lists.first_category.Given as goal

abbrev pub invariant-loop-entry : goal.invariant-loop-entry
invariant-loop-entry l = first_category (items_view (drop l.entry-index l.list.items)) ≡ first_category (items_view l.list.items)

use Rattle.std.proofs.Common.{◌≡◌, drop}
use Rattle.std.specs.String.{string_bytes}
use Rattle.serde_json.specs.View.{items_view}
use Rattle.agency_items.specs.Lists.{names_of}
use Rattle.agency_items.proofs.Joined.{told_and}
use Rattle.agency_items.proofs.lists.names_of.Given as goal

abbrev pub invariant-loop-entry : goal.invariant-loop-entry
invariant-loop-entry l = told_and (string_bytes l.names) (names_of (items_view (drop l.entry-index l.list.items))) ≡ names_of (items_view l.list.items)

use Rattle.std.proofs.Common.{◌≡◌, drop, false}
use Rattle.serde_json.specs.View.{items_view}
use Rattle.serde_json.specs.Written.{items_have_float}
use Rattle.told_objects.specs.Members.{objects}
use Rattle.told_objects.proofs.Listed.{items_then}
use Rattle.told_objects.proofs.told.objects.Given as goal

abbrev pub invariant-loop-row : goal.invariant-loop-row
invariant-loop-row g l = record {
  rows : items_then (items_view l.list.items) (objects g.T.Shown.members (drop l.row-index l.rows)) ≡ objects g.T.Shown.members l.rows;
  plain : items_have_float (items_view l.list.items) ≡ false;
}

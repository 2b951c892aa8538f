use Rattle.std.proofs.Common.{◌≡◌, false}
use Rattle.serde_json.specs.View.{items_view}
use Rattle.serde_json.specs.Written.{items_have_float}
use Rattle.told_objects.specs.Members.{objects}
use Rattle.told_objects.specs.Seen.{seen}
use Rattle.told_objects.proofs.told.values.Given as goal

abbrev pub invariant-loop-row : goal.invariant-loop-row
invariant-loop-row l = record {
  rows : items_view l.list.items ≡ objects seen l.yielded;
  plain : items_have_float (items_view l.list.items) ≡ false;
}

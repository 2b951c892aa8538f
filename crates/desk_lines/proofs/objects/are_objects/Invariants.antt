use Rattle.std.proofs.Common.{◌≡◌, drop}
use Rattle.serde_json.specs.View.{items_view}
use Rattle.desk_lines.specs.Reading.{all_objects}
use Rattle.desk_lines.proofs.objects.are_objects.Given as goal

abbrev pub invariant-loop-value : goal.invariant-loop-value
invariant-loop-value l = all_objects (items_view (drop l.value-index l.list.items)) ≡ all_objects (items_view l.list.items)

use Rattle.std.proofs.Common.{◌≡◌, drop}
use Rattle.told_objects.specs.Members.{objects}
use Rattle.told_entries.specs.Seen.{seen_items, items_then}
use Rattle.told_entries.proofs.listed.objects_of.Given as goal

abbrev pub invariant-loop-row : goal.invariant-loop-row
invariant-loop-row g l = items_then (seen_items l.list) (objects g.T.Shown.members (drop l.row-index l.rows)) ≡ objects g.T.Shown.members l.rows

use Rattle.std.proofs.Common.{◌≡◌, drop}
use Rattle.told_entries.specs.Members.{strings}
use Rattle.told_entries.specs.Seen.{seen_items, items_then}
use Rattle.told_entries.proofs.listed.texts.Given as goal

abbrev pub invariant-loop-row : goal.invariant-loop-row
invariant-loop-row l = items_then (seen_items l.list) (strings (drop l.row-index l.rows)) ≡ strings l.rows

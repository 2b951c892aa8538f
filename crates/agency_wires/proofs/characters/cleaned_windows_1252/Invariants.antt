use Rattle.std.proofs.Common.{◌≡◌, ◌++◌, drop, map}
use Rattle.agency_wires.specs.Characters.{windows_1252, cleaned}
use Rattle.agency_wires.proofs.characters.cleaned_windows_1252.Given as goal

abbrev pub invariant-loop-i : goal.invariant-loop-i
invariant-loop-i l = l.kept.items ++ cleaned (map windows_1252 (drop l.i l.bytes)) ≡ cleaned (map windows_1252 l.bytes)

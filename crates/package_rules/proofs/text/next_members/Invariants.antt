use Rattle.std.proofs.Common.{◌-◌, length}
use Rattle.package_rules.proofs.Texts.{ReadSoFar}
use Rattle.package_rules.proofs.text.next_members.Given as goal

abbrev pub invariant-lines : goal.invariant-lines
invariant-lines l = ReadSoFar l.members.items l.input l.initial.input

abbrev pub decreases-lines : goal.decreases-lines
decreases-lines l = 64 - length l.members.items

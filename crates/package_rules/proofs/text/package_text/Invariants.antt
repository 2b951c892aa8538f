use Rattle.std.proofs.Common.{◌≡◌, ◌++◌, take}
use Rattle.std.specs.Prelude.{string_bytes}
use Rattle.std.specs.List.{flat_map}
use Rattle.package_rules.specs.Text.{head_line, member_line}
use Rattle.package_rules.proofs.Texts.{AreWritten}
use Rattle.package_rules.proofs.text.package_text.Given as goal

abbrev pub invariant-loop-member : goal.invariant-loop-member
invariant-loop-member l = AreWritten (string_bytes l.text) (take l.member-index l.members)

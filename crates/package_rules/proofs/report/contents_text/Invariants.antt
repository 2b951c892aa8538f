use Rattle.std.proofs.Common.{◌≡◌, take}
use Rattle.std.specs.Prelude.{string_bytes}
use Rattle.std.specs.List.{flat_map}
use Rattle.package_rules.specs.Report.{line_text}
use Rattle.package_rules.proofs.report.contents_text.Given as goal

abbrev pub invariant-loop-line : goal.invariant-loop-line
invariant-loop-line l = string_bytes l.text ≡ flat_map line_text (take l.line-index l.lines)

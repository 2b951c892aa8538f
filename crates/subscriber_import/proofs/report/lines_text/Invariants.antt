use Rattle.std.proofs.Common.{◌≡◌, ◌+◌, ◌++◌, drop, string_bytes}
use Rattle.subscriber_import.specs.Report.{lines_text}
use Rattle.subscriber_import.proofs.report.lines_text.Given as goal

-- the lines so far, and those of the records that are left
abbrev pub invariant-loop-index : goal.invariant-loop-index
invariant-loop-index l = string_bytes l.text ++ lines_text (l.index + 1) (drop l.index l.lines) ≡ lines_text 1 l.lines

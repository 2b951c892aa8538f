use Rattle.std.proofs.Common.{◌≡◌, take, string_bytes}
use Rattle.feed_reports.specs.Feed.{feed_report}
use Rattle.feed_reports.proofs.feed.feed_text.Given as goal

abbrev pub invariant-loop-row : goal.invariant-loop-row
invariant-loop-row l = string_bytes l.text ≡ feed_report (take l.row-index l.rows)

use Rattle.std.proofs.Common.{◌≡◌, ◌++◌, take, string_bytes}
use Rattle.feed_reports.specs.Queue.{queue_report}
use Rattle.feed_reports.proofs.queue.put_rows.Given as goal

abbrev pub invariant-loop-row : goal.invariant-loop-row
invariant-loop-row l = string_bytes l.text ≡ string_bytes l.fn.text ++ queue_report (take l.row-index l.rows)

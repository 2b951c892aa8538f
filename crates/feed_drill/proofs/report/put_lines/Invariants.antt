use Rattle.std.proofs.Common.{◌≡◌, ◌++◌, List, take, string_bytes}
use Rattle.news_io.specs.Devices.{memory_keeper}
use Rattle.feed_receiver.specs.Holds.{Received}
use Rattle.feed_links.specs.Links.{AllHold}
use Rattle.publish_workers.specs.InMemory.{names_of}
use Rattle.feed_drill.specs.Report.{row_lines}
use Rattle.feed_drill.proofs.report.put_lines.Given as goal

abbrev pub invariant-loop-row : goal.invariant-loop-row
invariant-loop-row l = (held : List Received) → AllHold memory_keeper l.link held → string_bytes l.text ≡ string_bytes l.fn.text ++ row_lines (names_of l.link) held (take l.row-index l.rows)

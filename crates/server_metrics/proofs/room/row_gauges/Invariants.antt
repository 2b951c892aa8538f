use Rattle.std.proofs.Common.{◌≡◌, take, map}
use Rattle.news_types.specs.History.{History}
use Rattle.story_tables.specs.Keeps.{KeepsStories}
use Rattle.server_metrics.specs.Rows.{row_gauge}
use Rattle.server_metrics.proofs.room.row_gauges.Given as goal

abbrev pub invariant-loop-row : goal.invariant-loop-row
invariant-loop-row l = (h : History) → KeepsStories l.stories h → l.feeds.items ≡ map (row_gauge h l.moment) (take l.row-index l.rows)

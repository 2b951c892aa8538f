use Rattle.std.proofs.Common.{◌≡◌, ◌++◌, drop}
use Rattle.news_types.specs.Names.{Bytes, is_in}
use Rattle.news_types.specs.History.{History}
use Rattle.news_types.specs.Products.{subscribers}
use Rattle.news_types.specs.Answers.{queue_rows}
use Rattle.story_tables.specs.Keeps.{KeepsStories}
use Rattle.story_tables.proofs.stories.Stories.report_on.Given as goal

-- the rows so far and those of the rest are all of them
abbrev pub invariant-loop-name : goal.invariant-loop-name
invariant-loop-name l =
    (h : History) → KeepsStories l.fn.self h → ((s : Bytes) → is_in s l.names ≡ is_in s (subscribers h)) → l.rows.items ++ queue_rows h (drop l.name-index l.names) ≡ queue_rows h l.names

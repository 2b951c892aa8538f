use Rattle.std.proofs.Common.{◌≡◌, ◌+◌, ◌-◌, ◌++◌, true, length, take, drop}
use Rattle.news_types.specs.Names.{is_in}
use Rattle.news_types.specs.History.{History}
use Rattle.news_types.specs.Products.{subscribers}
use Rattle.news_types.specs.Feeds.{feed}
use Rattle.news_types.specs.Answers.{feed_rows}
use Rattle.story_tables.specs.Keeps.{KeepsStories}
use Rattle.story_tables.proofs.stories.Stories.page.Given as goal

-- the rows so far and those of the rest of the page are all of its rows
abbrev pub invariant-loop-k : goal.invariant-loop-k
invariant-loop-k l =
    (h : History) → KeepsStories l.self h → is_in l.subscriber (subscribers h) ≡ true → l.count ≡ length (feed h l.subscriber)
    → l.rows.items ++ feed_rows (l.k + 1) (take (l.end - l.k) (drop l.k (feed h l.subscriber))) ≡ feed_rows (l.after + 1) (take (l.end - l.after) (drop l.after (feed h l.subscriber)))

-- What a drill prints.
use Rattle.std.specs.Prelude.{[], ◌∷◌, ◌++◌, length, codes, decimal}
use Rattle.std.specs.List.{flat_map}
use Rattle.news_types.specs.Names.{Bytes}
use Rattle.news_types.specs.History.{History}
use Rattle.news_types.specs.Products.{subscribers}
use Rattle.news_types.specs.Answers.{in_order}
use Rattle.news_types.specs.Feeds.{feed}
use Rattle.news_types.specs.Delivery.{acked}
use Rattle.feed_reports.specs.Line.{line}

-- of a subscriber: how long its feed is, how many of its entries are acknowledged, and how many frames its receiver holds,
-- which are as many as its feed has entries
abbrev pub feed_line : History → Bytes → Bytes
feed_line h s = line
    (s ∷ codes "length" ∷ decimal (length (feed h s)) ∷ codes "acked" ∷ decimal (acked h s) ∷ codes "receiver" ∷ decimal (length (feed h s)) ∷ [])

abbrev pub drill_report : History → Bytes
drill_report h = line (codes "entries" ∷ decimal (length h) ∷ []) ++ flat_map (feed_line h) (in_order (subscribers h))

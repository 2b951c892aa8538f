-- The tables behind an act that changes nothing but the moment.
use Rattle.std.proofs.Common.{ℕ, ◌∷◌}
use Rattle.news_types.specs.declared.entry.Act.{Act}
use Rattle.news_types.specs.declared.entry.Act.TheVariants.{Advance, Halt}
use Rattle.news_types.specs.History.{History}
use Rattle.news_types.specs.Outcome.{entry_of}
use Rattle.item_table.specs.Keeps.{KeepsFacts as KeepsItems}
use Rattle.publications.specs.Keeps.{KeepsFacts as KeepsPublications}
use Rattle.story_tables.specs.declared.stories.Stories.{Stories}
use Rattle.story_tables.specs.Feeds.{KeepsQueue}
use Rattle.story_tables.specs.Keeps.{KeepsStories}
use Rattle.story_tables.specs.Delivering.{IsQuiet}

pub quiet_kept : (t : Stories) (h : History) (act : Act) (m : ℕ) → IsQuiet act → KeepsItems t.items h → KeepsPublications t.publications h → KeepsQueue t.queue h m → KeepsStories t (entry_of m act ∷ h)
quiet_kept t h Advance m quiet items publications queue = record { items = items; publications = publications; queue = queue }
quiet_kept t h Halt m quiet items publications queue = record { items = items; publications = publications; queue = queue }
quiet_kept t h _ m quiet items publications queue = absurd quiet

-- The reasons to deny an ingest, and what it makes.
use Rattle.std.specs.Prelude.{Bool, true, Option, Some, None, if◌then◌else◌}
use Rattle.news_types.specs.declared.denial.Denial.{Denial}
use Rattle.news_types.specs.declared.rules.Place.{Place}
use Rattle.news_types.specs.History.{History}
use Rattle.news_types.specs.Items as items
use Rattle.news_types.specs.Denial.{or_else, items_full, pubs_full}
use Rattle.desk_rules.specs.Facts.{facts}
use Rattle.desk_rules.specs.Steps.{IsThere}
use Rattle.story_tables.specs.declared.ingest.Effect.{Effect}
use Rattle.story_tables.specs.declared.ingest.Effect.TheVariants.{NewAt}

-- of an item at a place, which is published or not
abbrev pub placed_denial : History → Bool → Option Denial
placed_denial h published = or_else (items_full h) (if published then pubs_full h else None)

-- the place where what comes in is published at once, if it is
abbrev pub published_at : Effect → Option Place
published_at (NewAt place true) = Some place
published_at _ = None

-- the place where it makes an item is there
abbrev pub IsThereIfMade : History → items.Effect → Type 0
IsThereIfMade h (items.NewAt place published) = IsThere (facts h) place
IsThereIfMade h _ = Unit {0}

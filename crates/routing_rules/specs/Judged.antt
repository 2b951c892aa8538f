-- What the filters of a list say of a story.
use Rattle.news_types.specs.declared.story.Story.{Story}
use Rattle.news_types.specs.History.{History}
use Rattle.news_types.specs.Conditions.{condition}
use Rattle.news_types.specs.Filters.{filters}
use Rattle.content_filters.specs.declared.table.Filters.{Filters}
use Rattle.content_filters.specs.declared.verdicts.Verdicts.{Verdicts}
use Rattle.content_filters.specs.Keeps.{AreVerdicts}
use Rattle.content_filters.specs.Reasons.{KeepsFacts}

-- the table has the filters of the list, and the verdicts are those on the story
abbrev pub AreVerdictsOf : Verdicts → Filters → History → Story → Type 0
AreVerdictsOf verdicts table h story = KeepsFacts table h × AreVerdicts verdicts table (condition h) (filters h) story

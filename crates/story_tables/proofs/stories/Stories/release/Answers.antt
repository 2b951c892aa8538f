use Rattle.std.proofs.Common.{sym, ◌∙◌}
use Rattle.story_tables.proofs.Carried.{release_told, release_untold}
use Rattle.story_tables.proofs.stories.Stories.release.Goals as goal

pub returns-in-Some : goal.returns-in-Some
returns-in-Some c h keeps = release_told _ c.in-Some.first (sym c.in-Some.is ∙ c.first.ensures _ _ keeps.publications)

pub returns-in-None : goal.returns-in-None
returns-in-None c h keeps = release_untold _ (sym c.in-None.is ∙ c.first.ensures _ _ keeps.publications)

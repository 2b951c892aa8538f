-- What a drill asks for in a story.
use Rattle.std.specs.Prelude.{ℕ, ◌+◌, ◌/◌, ◌%◌, ◌==◌, Bool, false, if◌then◌else◌, List, [], ◌∷◌, ◌++◌, Some, None, codes, decimal}
use Rattle.news_types.specs.declared.command.Command.{Command}
use Rattle.news_types.specs.declared.command.Command.TheVariants.{Create, Flash, Lock, Publish}
use Rattle.news_types.specs.declared.words.Media.TheVariants.{Text}
use Rattle.news_types.specs.declared.story.Story.{Story}
use Rattle.news_types.specs.Names.{Bytes}
use Rattle.drill_plan.specs.Setup.{desk}

abbrev pub session : Bytes
session = codes "s"

-- story j, of draw r
abbrev pub story_of : ℕ → ℕ → Story
story_of j r = record {
  kind = Text;
  urgency = r % 8 + 1;
  slugline = [];
  headline = codes "drill " ++ decimal j;
  byline = [];
  language = [];
  category = [];
  body = codes "body " ++ decimal j;
  html = false;
  copyright = [];
}

abbrev pub moment_of : ℕ → ℕ
moment_of j = 1000 + j

abbrev pub has_embargo : ℕ → Bool
has_embargo r = r / 8 % 4 == 3

abbrev pub embargo_of : ℕ → ℕ → ℕ
embargo_of j r = moment_of j + r / 32 % 100

-- A story with an embargo is made on the desk, locked and published, any other is flashed. Story j makes item j.
abbrev pub steps_of : ℕ → ℕ → List Command
steps_of j r =
    if has_embargo r
    then Create desk (story_of j r) ∷ Lock j session ∷ Publish j session None (Some (embargo_of j r)) [] ∷ []
    else Flash (story_of j r) [] ∷ []

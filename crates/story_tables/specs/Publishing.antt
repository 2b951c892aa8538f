-- To whom a publication is due, and when.
use Rattle.std.specs.Prelude.{◌≡◌, ℕ, List}
use Rattle.news_types.specs.declared.query.Due.{Due}
use Rattle.news_types.specs.declared.words.Kind.{Kind}
use Rattle.news_types.specs.declared.story.Story.{Story}
use Rattle.news_types.specs.Names.{Bytes}
use Rattle.news_types.specs.History.{History}
use Rattle.news_types.specs.Due.{Pub, release_to, due_list}

-- these are the subscribers to whom it is due, and its release for each
abbrev pub IsDueTo : List Due → History → List Pub → Kind → ℕ → Story → ℕ → List Bytes → Type 0
IsDueTo due h ps kind i story release targets = (s : Bytes) → release_to s due ≡ release_to s (due_list h ps kind i story release targets)

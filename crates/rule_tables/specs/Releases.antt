-- When a publication is released to whom.
use Rattle.std.specs.Prelude.{◌≡◌, ℕ, List, map, unwrap_or}
use Rattle.news_types.specs.declared.words.Kind.{Kind}
use Rattle.news_types.specs.declared.words.Kind.TheVariants.{Correct}
use Rattle.news_types.specs.declared.query.Due.{Due}
use Rattle.news_types.specs.Names.{Bytes}
use Rattle.news_types.specs.Due.{Pub, release_to, latest}

abbrev pub subscriber_in : Due → Bytes
subscriber_in d = d.subscriber

abbrev pub subscribers_in : List Due → List Bytes
subscribers_in due = map subscriber_in due

-- these are the latest releases of what a correction of the item follows
abbrev pub AreLatest : Kind → List Due → List Pub → ℕ → Type 0
AreLatest Correct due ps i = (s : Bytes) → unwrap_or (release_to s due) 0 ≡ latest ps i s
AreLatest _ due ps i = Unit {0}

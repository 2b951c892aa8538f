-- Which list of entries a newsroom stands for.
use Rattle.std.specs.Prelude.{◌≡◌, ◌<◌, ◌≤◌, ℕ, true, length}
use Rattle.news_types.specs.Names.{Bytes}
use Rattle.news_types.specs.History.{History, moment, last, last_stop}
use Rattle.news_types.specs.Products.{is_subscriber}
use Rattle.news_types.specs.Feeds.{feed}
use Rattle.news_types.specs.Legal.{IsLegal}
use Rattle.news_types.specs.Outcome.{last_reply}
use Rattle.rule_tables.specs.Keeps.{KeepsRules}
use Rattle.story_tables.specs.Keeps.{KeepsStories}
use Rattle.desk_records.specs.Dues.{KeepsDues}
use Rattle.desk_records.specs.Wires.{KeepsWires}
use Rattle.newsroom.specs.Callers.{Remembers}
use Rattle.newsroom.specs.declared.newsroom.Newsroom.{Newsroom}

-- its store, by its sixteen bytes
abbrev pub store_of : Newsroom → Bytes
store_of n = n.store

-- the newsroom stands for the list: each table has its facts
pub record StandsFor (n : Newsroom) (h : History) : Type 0 where
  pub legal : IsLegal h
  pub entries : n.entries ≡ length h
  pub at : n.moment ≡ moment h
  pub stop : n.last_stop ≡ last_stop h
  pub callers : Remembers n.callers (last h) (last_reply h)
  pub rules : KeepsRules n.rules h
  pub stories : KeepsStories n.stories h
  pub dues : KeepsDues n.dues h
  pub wires : KeepsWires n.wires h

-- it stands for some list, in which there is place for one more entry
abbrev pub Stands : Newsroom → Type 0
Stands n = (h : History) × (StandsFor n h × (length h < 4294967295))

-- it stands for some list, in which the feed of the subscriber has an entry k
abbrev pub HasEntry : Newsroom → Bytes → ℕ → Type 0
HasEntry n s k = (h : History) × (StandsFor n h × (is_subscriber h s ≡ true) × (0 < k) × (k ≤ length (feed h s)))

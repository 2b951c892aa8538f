-- Whom a publication would reach.
use Rattle.std.specs.Prelude.{ℕ, Bool, List, map, if◌then◌else◌, Option, Some, None}
use Rattle.std.specs.List.{list_all}
use Rattle.news_types.specs.declared.words.Thing.{Thing}
use Rattle.news_types.specs.declared.words.Thing.TheVariants as thing
use Rattle.news_types.specs.declared.story.Story.{Story}
use Rattle.news_types.specs.Names.{Bytes}
use Rattle.news_types.specs.History.{History}
use Rattle.news_types.specs.Products.{subscribers, is_subscriber}
use Rattle.news_types.specs.Due.{had}
use Rattle.news_types.specs.Items.{Item}
use Rattle.news_types.specs.Publications.{standing}
use Rattle.news_types.specs.Answers.{in_order}
use Rattle.feed_reasons.specs.declared.verdict.Verdict.{Verdict}
use Rattle.feed_reasons.specs.Verdicts.{verdict}

-- What holds of one subscriber: what the rules say of the story, and whether something of the item is due to it and stands for
-- it, so that a correction reaches it whatever they say.
pub record Reached : Type 0 where
  pub subscriber : Bytes
  pub verdict : Verdict
  pub had : Bool

abbrev pub reached : History → ℕ → Story → List Bytes → Bytes → Reached
reached h i story targets s = record { subscriber = s; verdict = verdict h story targets s; had = had (standing h) i s }

-- each subscriber, in byte order of the names
abbrev pub reach : History → ℕ → Story → List Bytes → List Reached
reach h i story targets = map (reached h i story targets) (in_order (subscribers h))

-- what is named and is not there: the item, then a target
abbrev pub unknown_target : History → List Bytes → Option Thing
unknown_target h targets = if list_all (is_subscriber h) targets then None else Some thing.Subscriber

abbrev pub unknown : History → List Bytes → Option Item → Option Thing
unknown h targets None = Some thing.Item
unknown h targets (Some it) = unknown_target h targets

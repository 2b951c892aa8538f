-- What is asked of an item and of a command.
use Rattle.std.specs.Prelude.{ℕ, ◌==◌, ◌&&◌, Bool, nat_lt, Option, None}
use Rattle.news_types.specs.declared.command.Command.{Command}
use Rattle.news_types.specs.declared.rules.Place.{Place}
use Rattle.news_types.specs.declared.query.Holder.{Holder}
use Rattle.news_types.specs.declared.query.ItemRow.{ItemRow}
use Rattle.news_types.specs.History.{History}
use Rattle.news_types.specs.Due.{Pub, standing_first}
use Rattle.news_types.specs.Items.{Item, state_at, state_after, version_after}
use Rattle.news_types.specs.Publications.{standing}
use Rattle.item_commands.specs.Given.{story_given}
use Rattle.publish_queue.specs.declared.ask.FeedFacts.{FeedFacts}
use Rattle.item_table.specs.declared.row.Setting.{Setting}

-- what a command sets its item to at the moment, where that was it, and the first publication is this one
abbrev pub set_by : Command → ℕ → Option Pub → Item → Setting
set_by command m first it = record {
  state = state_after command (state_at m first it.state);
  version = version_after command it.version;
  story = story_given command;
  created = None;
}

-- a feed that so stands is paused
abbrev pub pauses_at : FeedFacts → Bool
pauses_at f = nat_lt f.acked f.length && f.tries == 10

-- what is told of an item at a moment, beside a place and a holder
abbrev pub row_in : History → ℕ → ℕ → Option Place → Option Holder → Item → ItemRow
row_in h i m place holder it = record {
  item = i;
  state = state_at m (standing_first i (standing h)) it.state;
  version = it.version;
  story = it.story;
  place = place;
  holder = holder;
}

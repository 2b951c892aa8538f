-- What is asked of an item.
use Rattle.news_types.specs.declared.story.Story.{Story}
use Rattle.news_types.specs.Items.{Item, created_of}
use Rattle.item_table.specs.declared.table.ItemFacts.{ItemFacts}

abbrev pub facts_of : Item → ItemFacts
facts_of it = record { state = it.state; version = it.version; created = created_of it.origin }

abbrev pub story_of : Item → Story
story_of it = it.story

-- What a command gives its item.
use Rattle.std.specs.Prelude.{Option, Some, None}
use Rattle.news_types.specs.declared.command.Command.{Command}
use Rattle.news_types.specs.declared.command.Command.TheVariants as command
use Rattle.news_types.specs.declared.story.Story.{Story}

-- the story that a command gives its item, if it gives one
abbrev pub story_given : Command → Option Story
story_given (command.Edit i session story) = Some story
story_given (command.Correct i session story) = Some story
story_given _ = None

-- The questions of a desk, each with its properties in order.
use Rattle.std.specs.Prelude.{ℕ, List, [], unwrap_or}
use Rattle.news_types.specs.Names.{Bytes}
use Rattle.desk_views.specs.declared.question.DeskQuestion.{DeskQuestion}
use Rattle.desk_views.specs.declared.question.DeskQuestion.TheVariants.{Items, Things, Reach, Publications}
use Rattle.desk_lines.specs.declared.property.LineProperty.TheVariants as the
use Rattle.desk_lines.specs.Reading.{Says, ◌>>=◌, gives, needs, option}
use Rattle.desk_lines.specs.Forms.{whole, name, list, word}
use Rattle.desk_lines.specs.Words.{state_words, register_words}
use Rattle.desk_lines.specs.Commands.{an_item}

-- the number below which items are asked for, the greatest where it is missing or null
unfoldable pub below : Says ℕ
below = do number ← option the.Below (whole 4294967295); gives (unwrap_or number 4294967295)

-- the items on a desk, in a state and held by a user, where these are given
unfoldable pub items : Says DeskQuestion
items = do
  desk ← option the.Desk name
  number ← below
  state ← option the.State (word state_words)
  user ← option the.User name
  gives (Items desk number state user)

-- the things of a kind whose names stand behind this one, from the first on where it is missing or null
unfoldable pub things : Says DeskQuestion
things = do
  kind ← needs the.Of (word register_words)
  after ← option the.After name
  gives (Things kind after)

-- the targets that a publication would have, none where they are missing or null
unfoldable pub targets : Says (List Bytes)
targets = do names ← option the.Targets (list 256 name); gives (unwrap_or names [])

-- whom a publication of the item would reach
unfoldable pub reach : Says DeskQuestion
reach = do
  item ← an_item
  names ← targets
  gives (Reach item names)

-- the publications of the item whose numbers are above this one
unfoldable pub publications : Says DeskQuestion
publications = do
  item ← an_item
  after ← needs the.After (whole 4294967295)
  gives (Publications item after)

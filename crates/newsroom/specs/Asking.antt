-- Questions, and what is told.
use Rattle.std.specs.Prelude.{ℕ, Bool, true, false, Option, Some, None}
use Rattle.news_types.specs.declared.query.Query.{Query}
use Rattle.news_types.specs.declared.query.Query.TheVariants as query
use Rattle.news_types.specs.declared.query.Answer.{Answer}
use Rattle.news_types.specs.declared.query.Answer.TheVariants as told
use Rattle.news_types.specs.declared.query.ItemRow.{ItemRow}
use Rattle.news_types.specs.declared.query.Publication.{Publication}
use Rattle.news_types.specs.declared.words.Thing.TheVariants as thing

-- the question is one for a frame
abbrev pub asks_frame : Query → Bool
asks_frame (query.Frame s k) = true
asks_frame _ = false

-- what is answered of an item, if it is there
abbrev pub item_told : Option ItemRow → Answer
item_told None = told.Unknown thing.Item
item_told (Some row) = told.Item row

-- what is answered of a publication, if it is there, where there are so many
abbrev pub publication_told : ℕ → Option Publication → Answer
publication_told count None = told.NoPublication count
publication_told count (Some p) = told.Publication p

-- The commands: the word of each, and its properties in order.
use Rattle.std.specs.Prelude.{ℕ, true, false, List, [], ◌∷◌, Result, Err}
use Rattle.serde_json.specs.Data.{Data}
use Rattle.news_types.specs.declared.command.Command.{Command}
use Rattle.news_types.specs.declared.command.Command.TheVariants.{AddUser, SetUser, AddDesk, AddStage, SetMember, AddCondition, AddFilter, SetFilter, SetBlock, AddProduct, SetProduct, AddSubscriber, SetSubscriber, Resume, AddScheme, AddProvider, Create, Flash, Lock, Unlock, BreakLock, Edit, MoveTo, Spike, Unspike, Fetch, Publish, Correct, Kill, Recall, Deschedule, Stop}
use Rattle.news_types.specs.declared.words.How.TheVariants.{Permitting}
use Rattle.news_types.specs.declared.words.Privileges.{Privileges}
use Rattle.news_types.specs.declared.story.Story.{Story}
use Rattle.news_types.specs.Names.{Bytes}
use Rattle.desk_lines.specs.declared.property.LineProperty.{LineProperty}
use Rattle.desk_lines.specs.declared.property.LineProperty.TheVariants as the
use Rattle.desk_lines.specs.Reading.{Says, ◌>>=◌, gives, needs, may, option, inside, each}
use Rattle.desk_lines.specs.Forms.{whole, flag, moment, text, name, list, ◌means◌, word, bits}
use Rattle.desk_lines.specs.Rows.{Row, by_word}
use Rattle.desk_lines.specs.Words.{format_words, how_words, field_words, op_words, privilege_bits}
use Rattle.desk_lines.specs.Objects.{story, statement, rule}

-- the privileges of a list of their words
abbrev pub privileges : Says Privileges
privileges = do set ← may the.Privileges (bits privilege_bits) 0; gives (record { bits = set })

abbrev pub an_item : Says ℕ
an_item = needs the.Item (whole 4294967295)

abbrev pub a_story : Says Story
a_story = inside the.Story story

-- users, desks, conditions and filters
abbrev pub desk_rows : List (Row Command)
desk_rows =
    ("add_user" means do user ← needs the.User name; set ← privileges; gives (AddUser user set)) ∷
    ("set_user" means do user ← needs the.User name; set ← privileges; gives (SetUser user set)) ∷
    ("add_desk" means do desk ← needs the.Desk name; gives (AddDesk desk)) ∷
    ("add_stage" means do
      desk ← needs the.Desk name
      stage ← needs the.Stage name
      gives (AddStage desk stage)) ∷
    ("set_member" means do
      desk ← needs the.Desk name
      user ← needs the.User name
      member ← may the.Member flag false
      gives (SetMember desk user member)) ∷
    ("add_condition" means do
      condition ← needs the.Condition name
      field ← needs the.Field (word field_words)
      op ← needs the.Op (word op_words)
      values ← may the.Values (list 64 (text 500)) []
      gives (AddCondition condition field op values)) ∷
    ("add_filter" means do
      filter ← needs the.Filter name
      statements ← each the.Statements 16 statement
      gives (AddFilter filter statements)) ∷
    ("set_filter" means do
      filter ← needs the.Filter name
      statements ← each the.Statements 16 statement
      gives (SetFilter filter statements)) ∷
    ("set_block" means do
      filter ← needs the.Filter name
      on ← may the.On flag false
      gives (SetBlock filter on)) ∷ []

-- products, subscribers, schemes and providers
abbrev pub feed_rows : List (Row Command)
feed_rows =
    ("add_product" means do
      product ← needs the.Product name
      how ← may the.How (word how_words) Permitting
      filter ← option the.Filter name
      gives (AddProduct product how filter)) ∷
    ("set_product" means do
      product ← needs the.Product name
      how ← may the.How (word how_words) Permitting
      filter ← option the.Filter name
      gives (SetProduct product how filter)) ∷
    ("add_subscriber" means do
      subscriber ← needs the.Subscriber name
      format ← needs the.Format (word format_words)
      products ← may the.Products (list 64 name) []
      lag ← may the.Lag (whole 604800) 0
      gives (AddSubscriber subscriber format products lag)) ∷
    ("set_subscriber" means do
      subscriber ← needs the.Subscriber name
      active ← may the.Active flag true
      products ← may the.Products (list 64 name) []
      off ← may the.Off (list 64 name) []
      lag ← option the.Lag (whole 604800)
      gives (SetSubscriber subscriber active products off lag)) ∷
    ("resume" means do subscriber ← needs the.Subscriber name; gives (Resume subscriber)) ∷
    ("add_scheme" means do
      scheme ← needs the.Scheme name
      rules ← each the.Rules 64 rule
      gives (AddScheme scheme rules)) ∷
    ("add_provider" means do
      provider ← needs the.Provider name
      scheme ← option the.Scheme name
      gives (AddProvider provider scheme)) ∷ []

-- stories that are written and held
abbrev pub draft_rows : List (Row Command)
draft_rows =
    ("create" means do desk ← needs the.Desk name; story ← a_story; gives (Create desk story)) ∷
    ("flash" means do
      story ← a_story
      targets ← may the.Targets (list 256 name) []
      gives (Flash story targets)) ∷
    ("lock" means do item ← an_item; session ← needs the.Session name; gives (Lock item session)) ∷
    ("unlock" means do item ← an_item; session ← needs the.Session name; gives (Unlock item session)) ∷
    ("break_lock" means do item ← an_item; gives (BreakLock item)) ∷
    ("edit" means do
      item ← an_item
      session ← needs the.Session name
      story ← a_story
      gives (Edit item session story)) ∷
    ("move" means do
      item ← an_item
      desk ← needs the.Desk name
      stage ← needs the.Stage name
      gives (MoveTo item desk stage)) ∷
    ("spike" means do item ← an_item; gives (Spike item)) ∷ []

-- stories that are published
abbrev pub release_rows : List (Row Command)
release_rows =
    ("unspike" means do item ← an_item; desk ← needs the.Desk name; gives (Unspike item desk)) ∷
    ("fetch" means do item ← an_item; desk ← needs the.Desk name; gives (Fetch item desk)) ∷
    ("publish" means do
      item ← an_item
      session ← needs the.Session name
      schedule ← option the.Schedule moment
      embargo ← option the.Embargo moment
      targets ← may the.Targets (list 256 name) []
      gives (Publish item session schedule embargo targets)) ∷
    ("correct" means do
      item ← an_item
      session ← needs the.Session name
      story ← a_story
      gives (Correct item session story)) ∷
    ("kill" means do
      item ← an_item
      session ← needs the.Session name
      note ← needs the.Note (text 524288)
      gives (Kill item session note)) ∷
    ("recall" means do
      item ← an_item
      session ← needs the.Session name
      note ← needs the.Note (text 524288)
      gives (Recall item session note)) ∷
    ("deschedule" means do item ← an_item; gives (Deschedule item)) ∷
    ("stop" means gives Stop) ∷ []

-- A word that no row has is a bad `do`.
unfoldable pub release_command : Bytes → Data → Result Command LineProperty
release_command text d = by_word release_rows text d (Err the.Do)

unfoldable pub draft_command : Bytes → Data → Result Command LineProperty
draft_command text d = by_word draft_rows text d (release_command text d)

unfoldable pub feed_command : Bytes → Data → Result Command LineProperty
feed_command text d = by_word feed_rows text d (draft_command text d)

unfoldable pub command : Bytes → Data → Result Command LineProperty
command text d = by_word desk_rows text d (feed_command text d)

-- Stories, and the objects that stand in the lists of commands, each with its properties in order.
use Rattle.std.specs.Prelude.{false, []}
use Rattle.news_types.specs.declared.words.Media.TheVariants as media
use Rattle.news_types.specs.declared.story.Story.{Story}
use Rattle.news_types.specs.declared.rules.Statement.{Statement}
use Rattle.news_types.specs.declared.rules.Place.{Place}
use Rattle.news_types.specs.declared.rules.Rule.{Rule}
use Rattle.package_members.specs.declared.member.Member.{Member}
use Rattle.desk_lines.specs.declared.property.LineProperty.TheVariants as the
use Rattle.desk_lines.specs.Reading.{Says, ◌>>=◌, gives, needs, may, option, may_inside}
use Rattle.desk_lines.specs.Forms.{whole, flag, text, name, list, word, bits}
use Rattle.desk_lines.specs.Words.{media_words, day_bits}

unfoldable pub story : Says Story
story = do
  kind ← may the.Kind (word media_words) media.Text
  urgency ← may the.Urgency (whole 9) 0
  slugline ← may the.Slugline (text 500) []
  headline ← may the.Headline (text 500) []
  byline ← may the.Byline (text 500) []
  language ← may the.Language (text 35) []
  category ← may the.Category (text 3) []
  body ← may the.Body (text 524288) []
  html ← may the.Html flag false
  copyright ← may the.Copyright (text 500) []
  gives (record {
    kind = kind;
    urgency = urgency;
    slugline = slugline;
    headline = headline;
    byline = byline;
    language = language;
    category = category;
    body = body;
    html = html;
    copyright = copyright;
  })

unfoldable pub statement : Says Statement
statement = do
  conditions ← may the.Conditions (list 16 name) []
  filters ← may the.Filters (list 8 name) []
  gives (record { conditions = conditions; filters = filters })

unfoldable pub place : Says Place
place = do
  desk ← needs the.Desk name
  stage ← needs the.Stage name
  gives (record { desk = desk; stage = stage })

unfoldable pub rule : Says Rule
rule = do
  filter ← option the.Filter name
  days ← may the.Days (bits day_bits) 0
  from ← needs the.From (whole 4294967295)
  to ← needs the.To (whole 4294967295)
  zone ← needs the.Zone (text 64)
  fetch ← may_inside the.Fetch place
  publish ← may the.Publish flag false
  exit ← may the.Exit flag false
  gives (record {
    filter = filter;
    days = days;
    from = from;
    to = to;
    zone = zone;
    fetch = fetch;
    publish = publish;
    exit = exit;
  })

-- a member of a package
unfoldable pub member : Says Member
member = do
  role ← needs the.Role name
  item ← needs the.Item (whole 4294967295)
  gives (record { role = role; item = item })

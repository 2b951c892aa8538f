-- The formats of entries: how they are read from bytes.
use Rattle.std.specs.Prelude.{ℕ, zero, suc, List, [], Bool, Option, Result}
use Rattle.std.specs.Int.{w16, w32, w64}
use Rattle.news_types.specs.declared.words.Media.{Media}
use Rattle.news_types.specs.declared.words.Media.TheVariants as media_word
use Rattle.news_types.specs.declared.words.PubStatus.{PubStatus}
use Rattle.news_types.specs.declared.words.PubStatus.TheVariants as status_word
use Rattle.news_types.specs.declared.words.Field.{Field}
use Rattle.news_types.specs.declared.words.Field.TheVariants as field_word
use Rattle.news_types.specs.declared.words.Op.{Op}
use Rattle.news_types.specs.declared.words.Op.TheVariants as op_word
use Rattle.news_types.specs.declared.words.How.{How}
use Rattle.news_types.specs.declared.words.How.TheVariants as how_word
use Rattle.news_types.specs.declared.words.Format.{Format as FeedFormat}
use Rattle.news_types.specs.declared.words.Format.TheVariants as format_word
use Rattle.news_types.specs.declared.words.Privileges.{Privileges}
use Rattle.news_types.specs.declared.story.Story.{Story}
use Rattle.news_types.specs.declared.story.Incoming.{Incoming}
use Rattle.news_types.specs.declared.rules.Statement.{Statement}
use Rattle.news_types.specs.declared.rules.Place.{Place}
use Rattle.news_types.specs.declared.rules.Rule.{Rule}
use Rattle.byte_formats.specs.Spelling.{byte, u16}
use Rattle.byte_formats.specs.Format.{Format, pair, made, ranged, whole, upto}
use Rattle.byte_formats.specs.Fields.{name, text, option, list, flag}
use Rattle.byte_formats.specs.Except.{some_text}
use Rattle.entry_codec.specs.Spelling as spelled
use Rattle.entry_codec.specs.Spelling.{media_number, status_number, field_number, op_number, how_number, format_number}

-- ---- words

-- a word in a byte
abbrev pub worded : {A : Type 0} → ℕ → (ℕ → A) → (A → ℕ) → Format A
worded most by number = made (ranged 0 most) by (λ w. byte (number w))

abbrev pub media_by : ℕ → Media
media_by zero = media_word.Text
media_by (suc zero) = media_word.Audio
media_by (suc (suc zero)) = media_word.Video
media_by (suc (suc (suc zero))) = media_word.Picture
media_by (suc (suc (suc (suc zero)))) = media_word.Graphic
media_by (suc (suc (suc (suc (suc n))))) = media_word.Composite

unfoldable pub kind_at : List ℕ → Result (Media × List ℕ) ℕ
kind_at = (worded 5 media_by media_number).read

abbrev pub kind : Format Media
kind = record { spell = λ w. byte (media_number w); read = kind_at }

abbrev pub status_by : ℕ → PubStatus
status_by zero = status_word.Usable
status_by (suc zero) = status_word.Withheld
status_by (suc (suc n)) = status_word.Canceled

unfoldable pub status_at : List ℕ → Result (PubStatus × List ℕ) ℕ
status_at = (worded 2 status_by status_number).read

abbrev pub status : Format PubStatus
status = record { spell = λ w. byte (status_number w); read = status_at }

abbrev pub field_by : ℕ → Field
field_by zero = field_word.Slugline
field_by (suc zero) = field_word.Headline
field_by (suc (suc zero)) = field_word.Byline
field_by (suc (suc (suc zero))) = field_word.Language
field_by (suc (suc (suc (suc zero)))) = field_word.Category
field_by (suc (suc (suc (suc (suc zero))))) = field_word.Body
field_by (suc (suc (suc (suc (suc (suc zero)))))) = field_word.Urgency
field_by (suc (suc (suc (suc (suc (suc (suc n))))))) = field_word.Kind

unfoldable pub field_at : List ℕ → Result (Field × List ℕ) ℕ
field_at = (worded 7 field_by field_number).read

abbrev pub field : Format Field
field = record { spell = λ w. byte (field_number w); read = field_at }

abbrev pub op_by : ℕ → Op
op_by zero = op_word.Eq
op_by (suc zero) = op_word.Ne
op_by (suc (suc zero)) = op_word.Within
op_by (suc (suc (suc zero))) = op_word.Nin
op_by (suc (suc (suc (suc zero)))) = op_word.Like
op_by (suc (suc (suc (suc (suc zero))))) = op_word.NotLike
op_by (suc (suc (suc (suc (suc (suc zero)))))) = op_word.StartsWith
op_by (suc (suc (suc (suc (suc (suc (suc zero))))))) = op_word.EndsWith
op_by (suc (suc (suc (suc (suc (suc (suc (suc zero)))))))) = op_word.Lt
op_by (suc (suc (suc (suc (suc (suc (suc (suc (suc zero))))))))) = op_word.Lte
op_by (suc (suc (suc (suc (suc (suc (suc (suc (suc (suc zero)))))))))) = op_word.Gt
op_by (suc (suc (suc (suc (suc (suc (suc (suc (suc (suc (suc n))))))))))) = op_word.Gte

unfoldable pub op_at : List ℕ → Result (Op × List ℕ) ℕ
op_at = (worded 11 op_by op_number).read

abbrev pub op : Format Op
op = record { spell = λ w. byte (op_number w); read = op_at }

abbrev pub how_by : ℕ → How
how_by zero = how_word.Permitting
how_by (suc n) = how_word.Blocking

unfoldable pub how_at : List ℕ → Result (How × List ℕ) ℕ
how_at = (worded 1 how_by how_number).read

abbrev pub how : Format How
how = record { spell = λ w. byte (how_number w); read = how_at }

abbrev pub format_by : ℕ → FeedFormat
format_by zero = format_word.Ninjs
format_by (suc n) = format_word.Text7901

unfoldable pub feed_format_at : List ℕ → Result (FeedFormat × List ℕ) ℕ
feed_format_at = (worded 1 format_by format_number).read

abbrev pub feed_format : Format FeedFormat
feed_format = record { spell = λ w. byte (format_number w); read = feed_format_at }

-- ---- moments and privileges

abbrev pub moment : Format ℕ
moment = upto w64 253402300799

unfoldable pub privileges_at : List ℕ → Result (Privileges × List ℕ) ℕ
privileges_at = (made (upto w16 1023) (λ n. record { bits = n }) (λ (p : Privileges). u16 p.bits)).read

abbrev pub privileges : Format Privileges
privileges = record { spell = λ p. u16 p.bits; read = privileges_at }

-- ---- stories

-- language, category, body and html flag
abbrev pub StoryEnd : Type 0
StoryEnd = List ℕ × (List ℕ × (List ℕ × Bool))

abbrev pub StoryFields : Type 0
StoryFields = Media × (ℕ × (List ℕ × (List ℕ × (List ℕ × StoryEnd))))

abbrev pub story_fields : Format StoryFields
story_fields = pair kind (pair (ranged 0 9) (pair (text 500) (pair (text 500) (pair (text 500) (pair (text 35) (pair (text 3) (pair (text 524288) flag)))))))

-- a story without a copyright
abbrev pub story_of : StoryFields → Story
story_of p = record {
  kind = p.0;
  urgency = p.1.0;
  slugline = p.1.1.0;
  headline = p.1.1.1.0;
  byline = p.1.1.1.1.0;
  language = p.1.1.1.1.1.0;
  category = p.1.1.1.1.1.1.0;
  body = p.1.1.1.1.1.1.1.0;
  html = p.1.1.1.1.1.1.1.1;
  copyright = [];
}

unfoldable pub story_at : List ℕ → Result (Story × List ℕ) ℕ
story_at = (made story_fields story_of spelled.story).read

abbrev pub story : Format Story
story = record { spell = spelled.story; read = story_at }

-- one with a copyright
abbrev pub credited_fields : Format (Story × List ℕ)
credited_fields = pair story (some_text 500)

abbrev pub credited_of : Story × List ℕ → Story
credited_of p = record p.0 { copyright = p.1 }

unfoldable pub credited_at : List ℕ → Result (Story × List ℕ) ℕ
credited_at = (made credited_fields credited_of spelled.story).read

abbrev pub credited : Format Story
credited = record { spell = spelled.story; read = credited_at }

abbrev pub IncomingFields : Type 0
IncomingFields = List ℕ × (ℕ × (ℕ × (PubStatus × Story)))

-- what a provider sends, with a story of this format
abbrev pub incoming_fields : Format Story → Format IncomingFields
incoming_fields told = pair (text 256) (pair moment (pair moment (pair status told)))

abbrev pub incoming_of : IncomingFields → Incoming
incoming_of p = record { identity = p.0; created = p.1.0; embargo = p.1.1.0; status = p.1.1.1.0; story = p.1.1.1.1 }

unfoldable pub incoming_at : List ℕ → Result (Incoming × List ℕ) ℕ
incoming_at = (made (incoming_fields story) incoming_of spelled.incoming).read

abbrev pub incoming : Format Incoming
incoming = record { spell = spelled.incoming; read = incoming_at }

unfoldable pub credited_incoming_at : List ℕ → Result (Incoming × List ℕ) ℕ
credited_incoming_at = (made (incoming_fields credited) incoming_of spelled.incoming).read

abbrev pub credited_incoming : Format Incoming
credited_incoming = record { spell = spelled.incoming; read = credited_incoming_at }

-- ---- statements and rules

abbrev pub statement_fields : Format (List (List ℕ) × List (List ℕ))
statement_fields = pair (list 16 name) (list 8 name)

unfoldable pub statement_at : List ℕ → Result (Statement × List ℕ) ℕ
statement_at = (made statement_fields (λ p. record { conditions = p.0; filters = p.1 }) spelled.statement).read

abbrev pub statement : Format Statement
statement = record { spell = spelled.statement; read = statement_at }

unfoldable pub place_at : List ℕ → Result (Place × List ℕ) ℕ
place_at = (made (pair name name) (λ p. record { desk = p.0; stage = p.1 }) spelled.place).read

abbrev pub place : Format Place
place = record { spell = spelled.place; read = place_at }

abbrev pub RuleFields : Type 0
RuleFields = Option (List ℕ) × (ℕ × (ℕ × (ℕ × (List ℕ × (Option Place × (Bool × Bool))))))

abbrev pub rule_fields : Format RuleFields
rule_fields = pair (option name) (pair (ranged 0 127) (pair (whole w32) (pair (whole w32) (pair (text 64) (pair (option place) (pair flag flag))))))

abbrev pub rule_of : RuleFields → Rule
rule_of p = record { filter = p.0; days = p.1.0; from = p.1.1.0; to = p.1.1.1.0; zone = p.1.1.1.1.0; fetch = p.1.1.1.1.1.0; publish = p.1.1.1.1.1.1.0; exit = p.1.1.1.1.1.1.1 }

unfoldable pub rule_at : List ℕ → Result (Rule × List ℕ) ℕ
rule_at = (made rule_fields rule_of spelled.rule).read

abbrev pub rule : Format Rule
rule = record { spell = spelled.rule; read = rule_at }

-- What a ninjs item says: what came in, or the first fault.
use Rattle.std.specs.Prelude.{ℕ, ◌≤◌, Bool, false, List, [], length, nat_lt, ◌==◌, if◌then◌else◌, Option, Some, None, is_some, Result, Ok, Err}
use Rattle.serde_json.specs.Data.{Data, Members}
use Rattle.serde_json.specs.Find.{as_object}
use Rattle.news_types.specs.declared.words.Media.{Media}
use Rattle.news_types.specs.declared.story.Story.{Story}
use Rattle.news_types.specs.declared.story.Incoming.{Incoming}
use Rattle.news_types.specs.Names.{Bytes}
use Rattle.ninjs_text.specs.declared.fault.Property.{Property}
use Rattle.ninjs_text.specs.declared.fault.Property.TheVariants as property_is
use Rattle.ninjs_text.specs.declared.fault.NinjsFault.{NinjsFault}
use Rattle.ninjs_text.specs.declared.fault.NinjsFault.TheVariants.{NotJson, NotObject, NoUri}
use Rattle.ninjs_text.specs.declared.reading.Lines.{Lines}
use Rattle.ninjs_text.specs.declared.reading.Body.{Body}
use Rattle.ninjs_text.specs.Reading.{then_read, json_of}
use Rattle.ninjs_text.specs.Words.{media_of, status_of}
use Rattle.ninjs_text.specs.Properties.{property, word, short_text, moment_or_zero, urgency}

-- a uri that is empty is none
abbrev pub uri_in : Option Bytes → Result Bytes NinjsFault
uri_in None = Err NoUri
uri_in (Some bytes) = if length bytes == 0 then Err NoUri else Ok bytes

abbrev pub uri : Data → Result Bytes NinjsFault
uri d = then_read (short_text 256 property_is.Uri d) uri_in

abbrev pub or_empty : Option Bytes → Result Bytes NinjsFault
or_empty None = Ok []
or_empty (Some bytes) = Ok bytes

-- a text of at most so many bytes, empty where it is missing
abbrev pub text_or_empty : ℕ → Property → Data → Result Bytes NinjsFault
text_or_empty limit p d = then_read (short_text limit p d) or_empty

-- ---- the body

-- a body of this property
abbrev pub body_in : Property → Bool → Data → Result Body NinjsFault
body_in p html d = then_read (text_or_empty 524288 p d) (λ bytes. Ok (record { text = bytes; html = html }))

-- HTML is read only where there is no plain text
abbrev pub body : Data → Result Body NinjsFault
body d =
    if is_some (property property_is.BodyText d)
    then body_in property_is.BodyText false d
    else body_in property_is.BodyHtml (is_some (property property_is.BodyHtml d)) d

-- ---- the story

-- the short texts
abbrev pub lines : Data → Result Lines NinjsFault
lines d =
    then_read (text_or_empty 500 property_is.Headline d) (λ headline.
    then_read (text_or_empty 500 property_is.Byline d) (λ byline.
    then_read (text_or_empty 500 property_is.Slugline d) (λ slugline.
    then_read (text_or_empty 35 property_is.Language d) (λ language.
    then_read (text_or_empty 500 property_is.CopyrightHolder d) (λ copyright.
    Ok (record {
      headline = headline;
      byline = byline;
      slugline = slugline;
      language = language;
      copyright = copyright;
    }))))))

pub record FitsLines (short : Lines) : Type 0 where
  pub headline : length short.headline ≤ 500
  pub byline : length short.byline ≤ 500
  pub slugline : length short.slugline ≤ 500
  pub language : length short.language ≤ 35
  pub copyright : length short.copyright ≤ 500

abbrev pub story : Media → Data → Result Story NinjsFault
story kind d =
    then_read (urgency d) (λ level.
    then_read (lines d) (λ (short : Lines).
    then_read (body d) (λ (told : Body).
    Ok (record {
      kind = kind;
      urgency = level;
      slugline = short.slugline;
      headline = short.headline;
      byline = short.byline;
      language = short.language;
      category = [];
      body = told.text;
      html = told.html;
      copyright = short.copyright;
    }))))

-- ---- the item

abbrev pub item : Data → Result Incoming NinjsFault
item d =
    then_read (uri d) (λ identity.
    then_read (word property_is.MediaType d) (λ media.
    then_read (word property_is.PubStatus d) (λ status.
    then_read (moment_or_zero property_is.VersionCreated d) (λ created.
    then_read (moment_or_zero property_is.Embargoed d) (λ embargo.
    then_read (story (media_of media) d) (λ story.
    Ok (record {
      identity = identity;
      created = created;
      embargo = embargo;
      status = status_of status;
      story = story;
    })))))))

abbrev pub if_object : Option Members → Data → Result Incoming NinjsFault
if_object None d = Err NotObject
if_object (Some ms) d = item d

abbrev pub if_json : Option Data → Result Incoming NinjsFault
if_json None = Err NotJson
if_json (Some d) = if_object (as_object d) d

-- one JSON value of at most 4194304 bytes, an object
abbrev pub ninjs : List ℕ → Result Incoming NinjsFault
ninjs bytes = if nat_lt 4194304 (length bytes) then Err NotJson else if_json (json_of bytes)

-- What an input says: for each item what came in, or the first fault.
use Rattle.std.specs.Prelude.{ℕ, ◌≤◌, ◌==◌, ◌&&◌, List, [], ◌∷◌, length, nat_lt, codes, if◌then◌else◌, Option, Some, None, Result, Ok, Err}
use Rattle.serde_json.specs.Data.{Data, Items, no_items, item, Members}
use Rattle.serde_json.specs.Find.{as_array, as_object}
use Rattle.news_types.specs.declared.words.Media.{Media}
use Rattle.news_types.specs.declared.story.Story.{Story}
use Rattle.news_types.specs.declared.story.Incoming.{Incoming}
use Rattle.news_types.specs.Names.{Bytes}
use Rattle.ninjs_text.specs.Reading.{json_of}
use Rattle.agency_items.specs.declared.body.Body.{Body}
use Rattle.agency_items.specs.declared.story.Lines.{Lines}
use Rattle.agency_items.specs.declared.fault.Property.{Property}
use Rattle.agency_items.specs.declared.fault.Property.TheVariants as property_is
use Rattle.agency_items.specs.declared.fault.ItemFault.{ItemFault}
use Rattle.agency_items.specs.declared.fault.ItemFault.TheVariants.{NotJson, NotObject, NoUri}
use Rattle.agency_items.specs.Reading.{then_read, else_read, or_empty}
use Rattle.agency_items.specs.Texts.{text, within, cut, beside}
use Rattle.agency_items.specs.Lists.{main_text, names, category}
use Rattle.agency_items.specs.Moments.{moment}
use Rattle.agency_items.specs.Words.{kind, status, urgency}
use Rattle.agency_items.specs.Bodies.{body}

-- ---- the identity

abbrev pub identity_in : Property → Option Bytes → Result (Option Bytes) ItemFault
identity_in p None = Ok None
identity_in p (Some bytes) = then_read (within 256 p bytes) (λ told. Ok (Some told))

-- a text of at most 256 bytes, if it is there
abbrev pub identity_of : Property → Data → Result (Option Bytes) ItemFault
identity_of p d = then_read (text p d) (identity_in p)

abbrev pub or_no_uri : Option Bytes → Result Bytes ItemFault
or_no_uri None = Err NoUri
or_no_uri (Some bytes) = Ok bytes

-- `uri`, or where it is missing Superdesk's `guid`
abbrev pub identity : Data → Result Bytes ItemFault
identity d = then_read (else_read (identity_of property_is.Uri d) (identity_of property_is.Guid d)) or_no_uri

-- ---- the story

-- a text that is cut, empty where it is missing
abbrev pub cut_text : Option Bytes → Result Bytes ItemFault
cut_text told = Ok (cut (or_empty told))

abbrev pub headline_told : Data → Result (Option Bytes) ItemFault
headline_told d = else_read (text property_is.Headline d) (main_text property_is.Headlines d)

-- `headline`, or else the main entry of `headlines`
abbrev pub headline : Data → Result Bytes ItemFault
headline d = then_read (headline_told d) cut_text

abbrev pub byline_told : Data → Result (Option Bytes) ItemFault
byline_told d = else_read (names property_is.Byline d) (names property_is.Bylines d)

-- `byline`, or else `bylines`, each a text or a list
abbrev pub byline : Data → Result Bytes ItemFault
byline d = then_read (byline_told d) cut_text

abbrev pub slugline : Data → Result Bytes ItemFault
slugline d = then_read (text property_is.Slugline d) cut_text

abbrev pub language : Data → Result Bytes ItemFault
language d = then_read (text property_is.Language d) (λ told. within 35 property_is.Language (or_empty told))

abbrev pub owner : Data → Result (Option Bytes) ItemFault
owner d = else_read (text property_is.CopyrightNotice d) (text property_is.CopyrightHolder d)

-- The notice, or else the holder, and behind it how the item may be used: a restriction of use is to be seen.
abbrev pub copyright : Data → Result Bytes ItemFault
copyright d =
    then_read (owner d) (λ owner.
    then_read (text property_is.UsageTerms d) (λ terms.
    Ok (cut (beside (codes " / ") (or_empty owner) (or_empty terms)))))

-- the short texts
abbrev pub lines : Data → Result Lines ItemFault
lines d =
    then_read (headline d) (λ headline.
    then_read (byline d) (λ byline.
    then_read (slugline d) (λ slugline.
    then_read (language d) (λ language.
    Ok (record {
      headline = headline;
      byline = byline;
      slugline = slugline;
      language = language;
    })))))

pub record FitsLines (short : Lines) : Type 0 where
  pub headline : length short.headline ≤ 500
  pub byline : length short.byline ≤ 500
  pub slugline : length short.slugline ≤ 500
  pub language : length short.language ≤ 35

abbrev pub story : Media → Data → Result Story ItemFault
story kind d =
    then_read (lines d) (λ (short : Lines).
    then_read (body d) (λ (told : Body).
    then_read (copyright d) (λ copyright.
    Ok (record {
      kind = kind;
      urgency = urgency d;
      slugline = short.slugline;
      headline = short.headline;
      byline = short.byline;
      language = short.language;
      category = or_empty (category d);
      body = told.text;
      html = told.html;
      copyright = copyright;
    }))))

-- ---- the item

abbrev pub item_of : Data → Result Incoming ItemFault
item_of d =
    then_read (identity d) (λ identity.
    then_read (kind d) (λ kind.
    then_read (status d) (λ status.
    then_read (moment property_is.VersionCreated d) (λ created.
    then_read (moment property_is.Embargoed d) (λ embargo.
    then_read (story kind d) (λ story.
    Ok (record {
      identity = identity;
      created = created;
      embargo = embargo;
      status = status;
      story = story;
    })))))))

abbrev pub if_object : Option Members → Data → Result Incoming ItemFault
if_object None d = Err NotObject
if_object (Some ms) d = item_of d

-- what a member of the input says
abbrev pub member : Data → Result Incoming ItemFault
member d = if_object (as_object d) d

-- ---- the input

-- what each member of a list says, in their order
abbrev pub each : Items → List (Result Incoming ItemFault)
each no_items = []
each (item d ds) = member d ∷ each ds

-- a list of members, or one member
abbrev pub members_in : Option Items → Data → List (Result Incoming ItemFault)
members_in None d = member d ∷ []
members_in (Some ds) d = each ds

abbrev pub members_of : Option Data → List (Result Incoming ItemFault)
members_of None = Err NotJson ∷ []
members_of (Some d) = members_in (as_array d) d

-- without a byte order mark at its front
abbrev pub without_mark : List ℕ → List ℕ
without_mark (a ∷ b ∷ c ∷ bytes) = if a == 239 && b == 187 && c == 191 then bytes else a ∷ b ∷ c ∷ bytes
without_mark bytes = bytes

-- one JSON value of at most 4194304 bytes, a byte order mark counted with them
abbrev pub items : List ℕ → List (Result Incoming ItemFault)
items bytes = if nat_lt 4194304 (length bytes) then Err NotJson ∷ [] else members_of (json_of (without_mark bytes))

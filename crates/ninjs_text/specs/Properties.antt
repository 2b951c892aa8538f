-- What a property may say.
use Rattle.std.specs.Prelude.{ℕ, List, [], length, codes, nat_le, if◌then◌else◌, Option, Some, None, option_and_then, Result, Ok, Err}
use Rattle.serde_json.specs.Data.{Data, null}
use Rattle.serde_json.specs.Find.{get, as_number, as_u64, as_str}
use Rattle.news_types.specs.Names.{Bytes}
use Rattle.release_rules.specs.Reader.{moment_of}
use Rattle.ninjs_text.specs.declared.fault.Property.{Property}
use Rattle.ninjs_text.specs.declared.fault.Property.TheVariants as property_is
use Rattle.ninjs_text.specs.declared.fault.NinjsFault.{NinjsFault}
use Rattle.ninjs_text.specs.declared.fault.NinjsFault.TheVariants.{WrongType, TooLong}

-- the properties, as they are written
abbrev pub property_name : Property → List ℕ
property_name property_is.Uri = codes "uri"
property_name property_is.MediaType = codes "type"
property_name property_is.PubStatus = codes "pubstatus"
property_name property_is.VersionCreated = codes "versioncreated"
property_name property_is.Embargoed = codes "embargoed"
property_name property_is.Urgency = codes "urgency"
property_name property_is.Headline = codes "headline"
property_name property_is.Byline = codes "byline"
property_name property_is.Slugline = codes "slugline"
property_name property_is.Language = codes "language"
property_name property_is.CopyrightHolder = codes "copyrightholder"
property_name property_is.BodyText = codes "body_text"
property_name property_is.BodyHtml = codes "body_html"

-- null counts as missing
abbrev pub unless_null : Data → Option Data
unless_null null = None
unless_null d = Some d

-- the value of an object's property
abbrev pub property : Property → Data → Option Data
property p d = option_and_then unless_null (get (property_name p) d)

-- ---- texts

abbrev pub or_wrong : {A : Type 0} → Property → Option A → Result A NinjsFault
or_wrong p None = Err (WrongType p)
or_wrong p (Some a) = Ok a

abbrev pub word_of : Property → Option Data → Result Bytes NinjsFault
word_of p None = Ok []
word_of p (Some d) = or_wrong p (as_str d)

-- a text of any length, empty where it is missing
abbrev pub word : Property → Data → Result Bytes NinjsFault
word p d = word_of p (property p d)

abbrev pub short_in : ℕ → Property → Option Bytes → Result (Option Bytes) NinjsFault
short_in limit p None = Err (WrongType p)
short_in limit p (Some bytes) = if nat_le (length bytes) limit then Ok (Some bytes) else Err (TooLong p)

abbrev pub short_text_of : ℕ → Property → Option Data → Result (Option Bytes) NinjsFault
short_text_of limit p None = Ok None
short_text_of limit p (Some d) = short_in limit p (as_str d)

-- a text of at most so many bytes, if there is one
abbrev pub short_text : ℕ → Property → Data → Result (Option Bytes) NinjsFault
short_text limit p d = short_text_of limit p (property p d)

-- ---- moments and the urgency

abbrev pub moment_of_data : Property → Option Data → Result ℕ NinjsFault
moment_of_data p None = Ok 0
moment_of_data p (Some d) = or_wrong p (option_and_then moment_of (as_str d))

-- the moment that a text names, 0 where it is missing
abbrev pub moment_or_zero : Property → Data → Result ℕ NinjsFault
moment_or_zero p d = moment_of_data p (property p d)

abbrev pub urgency_in : Option ℕ → Result ℕ NinjsFault
urgency_in None = Err (WrongType property_is.Urgency)
urgency_in (Some n) = if nat_le n 9 then Ok n else Err (WrongType property_is.Urgency)

abbrev pub urgency_of : Option Data → Result ℕ NinjsFault
urgency_of None = Ok 0
urgency_of (Some d) = urgency_in (option_and_then as_u64 (as_number d))

-- a whole number from 0 to 9, 0 where it is missing
abbrev pub urgency : Data → Result ℕ NinjsFault
urgency d = urgency_of (property property_is.Urgency d)

-- The properties of an item, and of the entries of its lists, as they are written.
use Rattle.std.specs.Prelude.{ℕ, List, codes, Option, option_and_then}
use Rattle.std.specs.Option.{option_or}
use Rattle.serde_json.specs.Data.{Data}
use Rattle.serde_json.specs.Find.{get}
use Rattle.ninjs_text.specs.Properties.{unless_null}
use Rattle.agency_items.specs.declared.fault.Property.{Property}
use Rattle.agency_items.specs.declared.fault.Property.TheVariants as property_is

-- in lower case, as ninjs 1, ninjs 2 and Superdesk write them
abbrev pub lower_name : Property → List ℕ
lower_name property_is.Uri = codes "uri"
lower_name property_is.Guid = codes "guid"
lower_name property_is.MediaType = codes "type"
lower_name property_is.PubStatus = codes "pubstatus"
lower_name property_is.VersionCreated = codes "versioncreated"
lower_name property_is.Embargoed = codes "embargoed"
lower_name property_is.Urgency = codes "urgency"
lower_name property_is.Headline = codes "headline"
lower_name property_is.Headlines = codes "headlines"
lower_name property_is.Byline = codes "byline"
lower_name property_is.Bylines = codes "bylines"
lower_name property_is.Slugline = codes "slugline"
lower_name property_is.Language = codes "language"
lower_name property_is.Service = codes "service"
lower_name property_is.Subject = codes "subject"
lower_name property_is.BodyText = codes "body_text"
lower_name property_is.BodyHtml = codes "body_html"
lower_name property_is.BodyXhtml = codes "body_xhtml"
lower_name property_is.Bodies = codes "bodies"
lower_name property_is.DescriptionText = codes "description_text"
lower_name property_is.Descriptions = codes "descriptions"
lower_name property_is.CopyrightNotice = codes "copyrightnotice"
lower_name property_is.CopyrightHolder = codes "copyrightholder"
lower_name property_is.UsageTerms = codes "usageterms"
lower_name property_is.Value = codes "value"
lower_name property_is.Role = codes "role"
lower_name property_is.ContentType = codes "contenttype"
lower_name property_is.Code = codes "code"
lower_name property_is.By = codes "by"
lower_name property_is.Name = codes "name"

-- in camel case, as ninjs 3 writes them, also those with an underscore; most have one spelling
abbrev pub camel_name : Property → List ℕ
camel_name property_is.PubStatus = codes "pubStatus"
camel_name property_is.VersionCreated = codes "versionCreated"
camel_name property_is.BodyText = codes "bodyText"
camel_name property_is.BodyHtml = codes "bodyHtml"
camel_name property_is.BodyXhtml = codes "bodyXhtml"
camel_name property_is.DescriptionText = codes "descriptionText"
camel_name property_is.CopyrightNotice = codes "copyrightNotice"
camel_name property_is.CopyrightHolder = codes "copyrightHolder"
camel_name property_is.UsageTerms = codes "usageTerms"
camel_name property_is.ContentType = codes "contentType"
camel_name p = lower_name p

-- null counts as missing
abbrev pub present : List ℕ → Data → Option Data
present key d = option_and_then unless_null (get key d)

-- the value of a property, in lower case or else in camel case: the first that is there
abbrev pub property : Property → Data → Option Data
property p d = option_or (present (lower_name p) d) (present (camel_name p) d)

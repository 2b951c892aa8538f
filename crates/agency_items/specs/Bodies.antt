-- The body of an item.
use Rattle.std.specs.Prelude.{◌≤◌, length, Bool, true, false, [], codes, Option, Some, None, Result, Ok, Err}
use Rattle.std.specs.Option.{option_or}
use Rattle.serde_json.specs.Data.{Data, Items}
use Rattle.serde_json.specs.Find.{as_array}
use Rattle.news_types.specs.Names.{Bytes}
use Rattle.agency_items.specs.declared.body.Body.{Body}
use Rattle.agency_items.specs.declared.fault.Property.{Property}
use Rattle.agency_items.specs.declared.fault.Property.TheVariants as property_is
use Rattle.agency_items.specs.declared.fault.ItemFault.{ItemFault}
use Rattle.agency_items.specs.declared.fault.ItemFault.TheVariants.{WrongType}
use Rattle.agency_items.specs.Names.{property}
use Rattle.agency_items.specs.Reading.{then_read, else_read}
use Rattle.agency_items.specs.Texts.{text, within}
use Rattle.agency_items.specs.Lists.{first, first_with, is_of_type, entry_of, first_text}

-- a body of at most 524288 bytes, if there is a text
abbrev pub body_in : Property → Bool → Option Bytes → Result (Option Body) ItemFault
body_in p html None = Ok None
body_in p html (Some bytes) = then_read (within 524288 p bytes) (λ told. Ok (Some (record { text = told; html = html })))

-- a property's text as a body
abbrev pub body_of : Property → Bool → Data → Result (Option Body) ItemFault
body_of p html d = then_read (text p d) (body_in p html)

-- ---- the list of bodies

-- what an entry of this list says, if there is one
abbrev pub entry_body : Bool → Option Data → Result (Option Body) ItemFault
entry_body html entry = then_read (entry_of property_is.Bodies entry) (body_in property_is.Bodies html)

-- A list with entries of other types alone is a fault: what was sent is not to come in empty.
abbrev pub of_other_types : Option Data → Result (Option Body) ItemFault
of_other_types None = Ok None
of_other_types (Some d) = Err (WrongType property_is.Bodies)

-- the entry of plain text, else the entry of HTML
abbrev pub listed_by : Option Data → Option Data → Option Data → Option Data → Result (Option Body) ItemFault
listed_by None plain html any = of_other_types any
listed_by (Some known) plain html any = else_read (entry_body false plain) (entry_body true html)

abbrev pub listed_from : Option Data → Option Data → Items → Result (Option Body) ItemFault
listed_from plain html ds = listed_by (option_or plain html) plain html (first ds)

-- the first of each of these types
abbrev pub listed_in : Option Items → Result (Option Body) ItemFault
listed_in None = Err (WrongType property_is.Bodies)
listed_in (Some ds) = listed_from (first_with (is_of_type (codes "text/plain")) ds) (first_with (is_of_type (codes "text/html")) ds) ds

abbrev pub listed_of : Option Data → Result (Option Body) ItemFault
listed_of None = Ok None
listed_of (Some d) = listed_in (as_array d)

abbrev pub listed : Data → Result (Option Body) ItemFault
listed d = listed_of (property property_is.Bodies d)

-- ---- all of them, in their order

abbrev pub described : Data → Result (Option Body) ItemFault
described d =
    else_read (body_of property_is.DescriptionText false d)
    (then_read (first_text property_is.Descriptions d) (body_in property_is.Descriptions false))

-- what stands behind the texts of one property each
abbrev pub listed_or_described : Data → Result (Option Body) ItemFault
listed_or_described d = else_read (listed d) (described d)

abbrev pub found_xhtml : Data → Result (Option Body) ItemFault
found_xhtml d = else_read (body_of property_is.BodyXhtml true d) (listed_or_described d)

abbrev pub found_html : Data → Result (Option Body) ItemFault
found_html d = else_read (body_of property_is.BodyHtml true d) (found_xhtml d)

-- the first that is not empty: of `body_text`, `body_html`, `body_xhtml`, `bodies`, `description_text` and `descriptions`
abbrev pub found : Data → Result (Option Body) ItemFault
found d = else_read (body_of property_is.BodyText false d) (found_html d)

abbrev pub FitsBody : Body → Type 0
FitsBody body = length body.text ≤ 524288

abbrev pub or_none : Option Body → Result Body ItemFault
or_none None = Ok (record { text = []; html = false })
or_none (Some body) = Ok body

-- empty where there is none
abbrev pub body : Data → Result Body ItemFault
body d = then_read (found d) or_none

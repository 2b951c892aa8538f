-- Lists of an item: headlines, bodies, descriptions, names of those who wrote it, and codes.
use Rattle.std.specs.Prelude.{Bool, false, if◌then◌else◌, [], codes, Option, Some, None, option_and_then, Result, Ok, Err}
use Rattle.std.specs.Option.{option_or}
use Rattle.serde_json.specs.Data.{Data, Items, no_items, item}
use Rattle.serde_json.specs.Find.{as_str, as_array}
use Rattle.news_types.specs.Names.{Bytes}
use Rattle.agency_items.specs.declared.fault.Property.{Property}
use Rattle.agency_items.specs.declared.fault.Property.TheVariants as property_is
use Rattle.agency_items.specs.declared.fault.ItemFault.{ItemFault}
use Rattle.agency_items.specs.declared.fault.ItemFault.TheVariants.{WrongType}
use Rattle.agency_items.specs.Names.{property}
use Rattle.agency_items.specs.Texts.{text_in, beside, same_word, before_semicolon, is_category}

-- the text of an entry's property
abbrev pub entry_text : Property → Data → Option Bytes
entry_text p d = option_and_then as_str (property p d)

-- what an entry says: a text itself, an object by its value
abbrev pub told_by : Data → Option Bytes
told_by d = option_or (as_str d) (entry_text property_is.Value d)

abbrev pub first : Items → Option Data
first no_items = None
first (item d ds) = Some d

-- the first entry that passes
abbrev pub first_with : (Data → Bool) → Items → Option Data
first_with p no_items = None
first_with p (item d ds) = if p d then Some d else first_with p ds

-- what that entry says: one that says nothing is not of its form
abbrev pub entry_of : Property → Option Data → Result (Option Bytes) ItemFault
entry_of p None = Ok None
entry_of p (Some d) = text_in p (told_by d)

-- ---- headlines and descriptions

abbrev pub is_main_by : Option Bytes → Bool
is_main_by None = false
is_main_by (Some role) = same_word role (codes "main")

abbrev pub is_main : Data → Bool
is_main d = is_main_by (entry_text property_is.Role d)

-- the first whose role is main, else the first
abbrev pub main_entry : Items → Option Data
main_entry ds = option_or (first_with is_main ds) (first ds)

abbrev pub main_in : Property → Option Items → Result (Option Bytes) ItemFault
main_in p None = Err (WrongType p)
main_in p (Some ds) = entry_of p (main_entry ds)

abbrev pub main_of : Property → Option Data → Result (Option Bytes) ItemFault
main_of p None = Ok None
main_of p (Some d) = main_in p (as_array d)

-- what the main entry of a list says
abbrev pub main_text : Property → Data → Result (Option Bytes) ItemFault
main_text p d = main_of p (property p d)

abbrev pub first_in : Property → Option Items → Result (Option Bytes) ItemFault
first_in p None = Err (WrongType p)
first_in p (Some ds) = entry_of p (first ds)

abbrev pub first_of : Property → Option Data → Result (Option Bytes) ItemFault
first_of p None = Ok None
first_of p (Some d) = first_in p (as_array d)

-- what the first entry of a list says
abbrev pub first_text : Property → Data → Result (Option Bytes) ItemFault
first_text p d = first_of p (property p d)

-- ---- names

abbrev pub other_name : Data → Option Bytes
other_name d =
    option_or (entry_text property_is.Byline d)
    (option_or (entry_text property_is.By d) (entry_text property_is.Name d))

-- The name that an entry gives: a text itself, of an object the first text of `value`, `byline`, `by` and `name`.
abbrev pub name_of : Data → Option Bytes
name_of d = option_or (told_by d) (other_name d)

-- a name before the others, with a comma and a space between
abbrev pub name_beside : Option Bytes → Option Bytes → Option Bytes
name_beside (Some name) (Some names) = Some (beside (codes ", ") name names)
name_beside _ _ = None

-- all names of a list, none where an entry gives none
abbrev pub names_of : Items → Option Bytes
names_of no_items = Some []
names_of (item d ds) = name_beside (name_of d) (names_of ds)

abbrev pub names_in : Property → Option Items → Data → Result (Option Bytes) ItemFault
names_in p None d = text_in p (as_str d)
names_in p (Some ds) d = text_in p (names_of ds)

abbrev pub names_by : Property → Option Data → Result (Option Bytes) ItemFault
names_by p None = Ok None
names_by p (Some d) = names_in p (as_array d) d

-- a text, or the names of a list
abbrev pub names : Property → Data → Result (Option Bytes) ItemFault
names p d = names_by p (property p d)

-- ---- codes

abbrev pub category_by : Option Bytes → Option Bytes
category_by None = None
category_by (Some code) = if is_category code then Some code else None

-- the first code of 1 to 3 letters; entries and codes of other forms are passed over
abbrev pub first_category : Items → Option Bytes
first_category no_items = None
first_category (item d ds) = option_or (category_by (entry_text property_is.Code d)) (first_category ds)

abbrev pub category_in : Property → Data → Option Bytes
category_in p d = option_and_then first_category (option_and_then as_array (property p d))

-- that of the services, else that of the subjects, else none
abbrev pub category : Data → Option Bytes
category d = option_or (category_in property_is.Service d) (category_in property_is.Subject d)

-- ---- bodies

abbrev pub is_of_type_by : Bytes → Option Bytes → Bool
is_of_type_by wanted None = false
is_of_type_by wanted (Some told) = same_word (before_semicolon told) wanted

-- the entry's content type is this one, whatever stands behind a semicolon
abbrev pub is_of_type : Bytes → Data → Bool
is_of_type wanted d = is_of_type_by wanted (entry_text property_is.ContentType d)

-- What a line says: a request, a question or a receipt, or the first property that is bad; and what packages, targets and
-- questions on the archive say that come by themselves.
use Rattle.std.specs.Prelude.{ℕ, Bool, List, [], ◌∷◌, length, nat_le, is_some, if◌then◌else◌, Option, Some, None, Result, Ok, Err}
use Rattle.serde_json.specs.Data.{Data}
use Rattle.serde_json.specs.Find.{as_object}
use Rattle.news_types.specs.declared.story.Story.{Story}
use Rattle.news_types.specs.declared.query.Query.TheVariants as query
use Rattle.news_types.specs.Names.{Bytes}
use Rattle.news_types.specs.FitsCommands.{FitsCommand}
use Rattle.desk_lines.specs.declared.property.LineProperty.{LineProperty}
use Rattle.desk_lines.specs.declared.property.LineProperty.TheVariants as the
use Rattle.desk_lines.specs.declared.asked.Asked.{Asked}
use Rattle.desk_lines.specs.declared.asked.Asked.TheVariants as asked
use Rattle.desk_lines.specs.declared.lines.Described.{Described}
use Rattle.desk_lines.specs.declared.lines.PackageRequest.{PackageRequest}
use Rattle.package_members.specs.declared.member.Member.{Member}
use Rattle.package_members.specs.Members.{make_package}
use Rattle.desk_lines.specs.Reading.{Says, then_read, ◌>>=◌, gives, property, needs, inside, each, json_of}
use Rattle.desk_lines.specs.Forms.{whole, any_text, name, ◌means◌}
use Rattle.desk_lines.specs.Rows.{Row, by_word}
use Rattle.desk_lines.specs.Objects.{story, member}
use Rattle.desk_lines.specs.Commands.{command, an_item}
use Rattle.desk_lines.specs.Questions.{items, things, reach, publications, targets}

-- ---- requests

-- a request of this caller
unfoldable pub request_of : Bytes → Says Asked
request_of caller = do
  number ← needs the.Number (whole 18446744073709551615)
  word ← needs the.Do any_text
  found ← command word
  gives (asked.Request caller number found)

unfoldable pub request : Says Asked
request = do caller ← needs the.By name; request_of caller

-- ---- questions

-- the page of what a query finds in the archive
unfoldable pub archive : Says Asked
archive = do
  page ← needs the.Page (whole 4294967295)
  query ← needs the.Query any_text
  gives (asked.Archive page query)

abbrev pub question_rows : List (Row Asked)
question_rows =
    ("feed" means do
      subscriber ← needs the.Subscriber name
      after ← needs the.After (whole 4294967295)
      gives (asked.Query (query.Feed subscriber after))) ∷
    ("item" means do item ← an_item; gives (asked.Query (query.Item item))) ∷
    ("queue" means gives (asked.Query query.Queue)) ∷
    ("check" means gives (asked.Query query.Check)) ∷
    ("archive" means archive) ∷
    ("items" means do found ← items; gives (asked.Desk found)) ∷
    ("things" means do found ← things; gives (asked.Desk found)) ∷
    ("reach" means do found ← reach; gives (asked.Desk found)) ∷
    ("publications" means do found ← publications; gives (asked.Desk found)) ∷
    ("publication" means do
      number ← needs the.Publication (whole 4294967295)
      gives (asked.Query (query.Publication number))) ∷ []

unfoldable pub question : Says Asked
question = do word ← needs the.Ask any_text; (λ d. by_word question_rows word d (Err the.Ask))

-- ---- receipts

unfoldable pub receipt_of : Bytes → Says Asked
receipt_of subscriber = do n ← needs the.N (whole 4294967295); gives (asked.Receipt subscriber n)

unfoldable pub receipt : Says Asked
receipt = inside the.Receipt (do subscriber ← needs the.Subscriber name; receipt_of subscriber)

-- ---- lines

abbrev pub has : LineProperty → Data → Bool
has p d = is_some (property p d)

-- it is a request where it has a `do`, whatever that is, else a question, else a receipt
unfoldable pub any : Says Asked
any d =
    if has the.Do d then request d
    else if has the.Ask d then question d
    else if has the.Receipt d then receipt d
    else Err the.Line

abbrev pub if_object : Option Data → Result Data LineProperty
if_object None = Err the.Line
if_object (Some d) = if is_some (as_object d) then Ok d else Err the.Line

-- an object in at most 4194304 bytes
unfoldable pub object_in : List ℕ → Result Data LineProperty
object_in bytes = if nat_le (length bytes) 4194304 then if_object (json_of bytes) else Err the.Line

abbrev pub line : List ℕ → Result Asked LineProperty
line bytes = then_read (object_in bytes) any

-- a request whose caller is known
unfoldable pub only_request : Bytes → Says Asked
only_request caller d = if has the.Do d then request_of caller d else Err the.Line

abbrev pub request_body : Bytes → List ℕ → Result Asked LineProperty
request_body caller bytes = then_read (object_in bytes) (only_request caller)

abbrev pub receipt_body : Bytes → List ℕ → Result Asked LineProperty
receipt_body subscriber bytes = then_read (object_in bytes) (receipt_of subscriber)

abbrev pub story_object : List ℕ → Result Story LineProperty
story_object bytes = then_read (object_in bytes) story

abbrev pub archive_body : List ℕ → Result Asked LineProperty
archive_body bytes = then_read (object_in bytes) archive

abbrev pub reach_body : List ℕ → Result (List Bytes) LineProperty
reach_body bytes = then_read (object_in bytes) targets

-- ---- packages

-- they are read each, and then a package has to be made of them
abbrev pub if_package : List Member → Says (List Member)
if_package found d = if make_package found then Ok found else Err the.Members

unfoldable pub members : Says (List Member)
members = do found ← each the.Members 4194304 member; if_package found

-- the story's properties, and then the members
unfoldable pub described : Says Described
described = do
  told ← story
  found ← members
  gives (record { story = told; members = found })

abbrev pub package_object : List ℕ → Result Described LineProperty
package_object bytes = then_read (object_in bytes) described

unfoldable pub package_request : Says PackageRequest
package_request = do
  number ← needs the.Number (whole 18446744073709551615)
  read ← described
  gives (record { number = number; described = read })

abbrev pub package_body : List ℕ → Result PackageRequest LineProperty
package_body bytes = then_read (object_in bytes) package_request

-- ---- what is read is within the limits

abbrev pub FitsAsked : Asked → Type 0
FitsAsked (asked.Request caller number found) = FitsCommand found
FitsAsked _ = Unit {0}

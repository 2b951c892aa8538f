-- What a request asks, or why it is refused before anything is asked.
use Rattle.std.specs.Prelude.{◌≡◌, ℕ, nat_le, length, IsTrue, List, [], All, if◌then◌else◌, Option, Some, None, Result, Ok, Err}
use Rattle.news_types.specs.declared.story.Incoming.{Incoming}
use Rattle.news_types.specs.declared.query.Query.TheVariants as query
use Rattle.news_types.specs.Names.{Bytes}
use Rattle.news_types.specs.Fits.{FitsStory, FitsIncoming}
use Rattle.news_types.specs.FitsCommands.{FitsCommand}
use Rattle.desk_views.specs.declared.question.DeskQuestion.{DeskQuestion}
use Rattle.desk_views.specs.declared.question.DeskQuestion.TheVariants as desk
use Rattle.desk_views.specs.declared.question.Register.{Register}
use Rattle.desk_lines.specs.declared.asked.Asked.{Asked}
use Rattle.desk_lines.specs.declared.asked.Asked.TheVariants as line
use Rattle.desk_lines.specs.declared.lines.PackageRequest.{PackageRequest}
use Rattle.desk_lines.specs.declared.property.LineProperty.{LineProperty}
use Rattle.desk_lines.specs.Forms.{among}
use Rattle.desk_lines.specs.Words.{register_words}
use Rattle.desk_lines.specs.Lines.{request_body, receipt_body, archive_body, package_body, reach_body}
use Rattle.package_members.specs.Members.{make_package}
use Rattle.ninjs_text.specs.declared.fault.NinjsFault.{NinjsFault}
use Rattle.ninjs_text.specs.Item.{ninjs}
use Rattle.http_wire.specs.declared.request.HttpRequest.{HttpRequest}
use Rattle.command_words.specs.declared.words.IngestFormat.{IngestFormat}
use Rattle.command_words.specs.declared.words.IngestFormat.TheVariants as format
use Rattle.wire_bodies.specs.declared.member.BodyMember.{BodyMember}
use Rattle.wire_bodies.specs.Bodies.{members_of, FitsMember}
use Rattle.desk_routes.specs.declared.route.Route.{Route}
use Rattle.desk_routes.specs.declared.route.Route.TheVariants as the
use Rattle.desk_routes.specs.declared.ask.HttpAsk.{HttpAsk}
use Rattle.desk_routes.specs.declared.ask.HttpAsk.TheVariants.{Request, Query, Receipt, Ingest, Archive, Package, Contents, Desk}
use Rattle.desk_routes.specs.declared.ask.Asking.{Asking}
use Rattle.desk_routes.specs.declared.ask.RoomAsk.{RoomAsk}
use Rattle.desk_routes.specs.declared.ask.RoomAsk.TheVariants.{By, Metrics}
use Rattle.desk_routes.specs.declared.ask.WireAsk.{WireAsk}
use Rattle.desk_routes.specs.declared.ask.HttpAsked.{HttpAsked}
use Rattle.desk_routes.specs.declared.ask.HttpAsked.TheVariants.{Room, Wire}
use Rattle.desk_routes.specs.declared.ask.Refusal.{Refusal}
use Rattle.desk_routes.specs.declared.ask.Refusal.TheVariants.{NoRoute, NoCaller, BadPath, BadBody, BadItem, TooMany, Memory}
use Rattle.desk_routes.specs.Routes.{routed}
use Rattle.desk_routes.specs.Paths.{part, name_in, number_in}

-- ---- one step after another: the first that refuses ends it

infixl 10 ◌>>=◌
abbrev pub ◌>>=◌ : {A B : Type 0} → Result A Refusal → (A → Result B Refusal) → Result B Refusal
Ok a >>= next = next a
Err refusal >>= next = Err refusal

abbrev pub or_refused : {A : Type 0} → Refusal → Option A → Result A Refusal
or_refused refusal None = Err refusal
or_refused refusal (Some a) = Ok a

-- what is said is what was read, the refusal, or want of memory
abbrev pub IsSaid : {A : Type 0} → Result A Refusal → Result A Refusal → Type 0
IsSaid said (Ok a) = said ≡ Ok a
IsSaid said (Err Memory) = Unit {0}
IsSaid said (Err refusal) = said ≡ Err refusal

-- ---- the path

abbrev pub name_at : ℕ → Bytes → Result Bytes Refusal
name_at n path = or_refused BadPath (name_in (part n path))

abbrev pub number_at : ℕ → Bytes → Result ℕ Refusal
number_at n path = or_refused BadPath (number_in (part n path))

-- ---- the body

abbrev pub of_line : Asked → HttpAsk
of_line (line.Request caller number command) = Request caller number command
of_line (line.Query question) = Query question
of_line (line.Receipt subscriber n) = Receipt subscriber n
of_line (line.Archive page query) = Archive page query
of_line (line.Desk question) = Desk question

abbrev pub from_line : Result Asked LineProperty → Result HttpAsk Refusal
from_line (Ok asked) = Ok (of_line asked)
from_line (Err property) = Err (BadBody property)

abbrev pub from_item : Bytes → Result Incoming NinjsFault → Result HttpAsk Refusal
from_item provider (Ok incoming) = Ok (Ingest provider incoming)
from_item provider (Err fault) = Err (BadItem fault)

abbrev pub from_package : Bytes → Result PackageRequest LineProperty → Result HttpAsk Refusal
from_package caller (Ok read) = Ok (Package caller read.number read.described)
from_package caller (Err property) = Err (BadBody property)

abbrev pub from_targets : ℕ → Result (List Bytes) LineProperty → Result HttpAsk Refusal
from_targets item (Ok targets) = Ok (Desk (desk.Reach item targets))
from_targets item (Err property) = Err (BadBody property)

-- ---- each route

abbrev pub item_ask : Bytes → Result HttpAsk Refusal
item_ask path = do
  item ← number_at 2 path
  Ok (Query (query.Item item))

abbrev pub feed_ask : Bytes → Result HttpAsk Refusal
feed_ask path = do
  subscriber ← name_at 2 path
  after ← number_at 4 path
  Ok (Query (query.Feed subscriber after))

abbrev pub frame_ask : Bytes → Result HttpAsk Refusal
frame_ask path = do
  subscriber ← name_at 2 path
  k ← number_at 4 path
  Ok (Query (query.Frame subscriber k))

-- a line of a request without its caller
abbrev pub request_ask : Bytes → Bytes → Result HttpAsk Refusal
request_ask caller body = from_line (request_body caller body)

abbrev pub receipt_ask : Bytes → Bytes → Result HttpAsk Refusal
receipt_ask path body = do
  subscriber ← name_at 2 path
  from_line (receipt_body subscriber body)

abbrev pub ingest_ask : Bytes → Bytes → Result HttpAsk Refusal
ingest_ask path body = do
  provider ← name_at 2 path
  from_item provider (ninjs body)

-- the object of a question on the archive
abbrev pub archive_ask : Bytes → Result HttpAsk Refusal
archive_ask body = from_line (archive_body body)

-- the object of a package, and its number
abbrev pub package_ask : Bytes → Bytes → Result HttpAsk Refusal
package_ask caller body = from_package caller (package_body body)

abbrev pub contents_ask : Bytes → Result HttpAsk Refusal
contents_ask path = do
  publication ← number_at 2 path
  Ok (Contents publication)

-- what stands on no desk in particular, below this number
abbrev pub items_ask : Bytes → Result HttpAsk Refusal
items_ask path = do
  below ← number_at 3 path
  Ok (Desk (desk.Items None below None None))

-- what stands on a desk, below this number
abbrev pub desk_items_ask : Bytes → Result HttpAsk Refusal
desk_items_ask path = do
  name ← name_at 2 path
  below ← number_at 5 path
  Ok (Desk (desk.Items (Some name) below None None))

-- whom the item would reach without a target
abbrev pub reach_ask : Bytes → Result HttpAsk Refusal
reach_ask path = do
  item ← number_at 2 path
  Ok (Desk (desk.Reach item []))

-- with the targets that the object has
abbrev pub targets_ask : Bytes → Bytes → Result HttpAsk Refusal
targets_ask path body = do
  item ← number_at 2 path
  from_targets item (reach_body body)

abbrev pub publication_ask : Bytes → Result HttpAsk Refusal
publication_ask path = do
  number ← number_at 2 path
  Ok (Query (query.Publication number))

-- the kind of things that a part names
abbrev pub register_at : ℕ → Bytes → Result Register Refusal
register_at n path = do
  word ← name_at n path
  or_refused BadPath (among register_words word)

-- the things of a kind, from the first on
abbrev pub things_ask : Bytes → Result HttpAsk Refusal
things_ask path = do
  kind ← register_at 2 path
  Ok (Desk (desk.Things kind None))

-- those behind this name
abbrev pub things_after_ask : Bytes → Result HttpAsk Refusal
things_after_ask path = do
  kind ← register_at 2 path
  after ← name_at 4 path
  Ok (Desk (desk.Things kind (Some after)))

-- the publications of an item above this number
abbrev pub publications_ask : Bytes → Result HttpAsk Refusal
publications_ask path = do
  item ← number_at 2 path
  after ← number_at 5 path
  Ok (Desk (desk.Publications item after))

-- what a caller asks by a route: with this path and this body
abbrev pub ask_by : Route → Bytes → Bytes → Bytes → Result HttpAsk Refusal
ask_by the.Requests caller path body = request_ask caller body
ask_by the.Item caller path body = item_ask path
ask_by the.Queue caller path body = Ok (Query query.Queue)
ask_by the.FeedAfter caller path body = feed_ask path
ask_by the.Frame caller path body = frame_ask path
ask_by the.Receipts caller path body = receipt_ask path body
ask_by the.Ingest caller path body = ingest_ask path body
ask_by the.Archive caller path body = archive_ask body
ask_by the.Packages caller path body = package_ask caller body
ask_by the.Contents caller path body = contents_ask path
ask_by the.ItemsBelow caller path body = items_ask path
ask_by the.DeskItemsBelow caller path body = desk_items_ask path
ask_by the.Reach caller path body = reach_ask path
ask_by the.ReachOfTargets caller path body = targets_ask path body
ask_by the.Publication caller path body = publication_ask path
ask_by the.Things caller path body = things_ask path
ask_by the.ThingsAfter caller path body = things_after_ask path
ask_by the.PublicationsAfter caller path body = publications_ask path
-- a wire is no one ask, and the metrics are asked without a caller (`asked_by`)
ask_by the.Wire caller path body = Err NoRoute
ask_by the.AgencyWire caller path body = Err NoRoute
ask_by the.AgencyItems caller path body = Err NoRoute
ask_by the.Metrics caller path body = Err NoRoute

-- ---- wires

-- at most 4096 members
abbrev pub few_members : List BodyMember → Result (List BodyMember) Refusal
few_members members = if nat_le (length members) 4096 then Ok members else Err TooMany

-- the caller's name, the provider's name in the path, and then the members of the body in this format
abbrev pub wire_ask : IngestFormat → HttpRequest → Result WireAsk Refusal
wire_ask given r = do
  caller ← or_refused NoCaller r.user
  provider ← name_at 2 r.target
  members ← few_members (members_of given r.body)
  Ok (record { caller = caller; provider = provider; members = members })

-- ---- requests

-- the caller's name, the names and numbers of the path, and then the body
abbrev pub asking : Route → HttpRequest → Result Asking Refusal
asking route r = do
  caller ← or_refused NoCaller r.user
  ask ← ask_by route caller r.target r.body
  Ok (record { caller = caller; ask = ask })

abbrev pub wire_asked : IngestFormat → HttpRequest → Result HttpAsked Refusal
wire_asked given r = do
  w ← wire_ask given r
  Ok (Wire w)

abbrev pub asked_by : Route → HttpRequest → Result HttpAsked Refusal
asked_by the.Metrics r = Ok (Room Metrics)
asked_by the.Wire r = wire_asked format.Wire r
asked_by the.AgencyWire r = wire_asked format.AgencyWire r
asked_by the.AgencyItems r = wire_asked format.AgencyItems r
asked_by route r = do
  a ← asking route r
  Ok (Room (By a))

-- what is asked by the route that it has
abbrev pub asked : HttpRequest → Result HttpAsked Refusal
asked r = do
  route ← or_refused NoRoute (routed r.method r.target)
  asked_by route r

-- what is asked is within the limits
abbrev pub FitsAsk : HttpAsk → Type 0
FitsAsk (Request caller number command) = FitsCommand command
FitsAsk (Ingest provider incoming) = FitsIncoming incoming
FitsAsk (Package caller number described) = FitsStory described.story × IsTrue (make_package described.members)
FitsAsk _ = Unit {0}

abbrev pub FitsRoomAsk : RoomAsk → Type 0
FitsRoomAsk Metrics = Unit {0}
FitsRoomAsk (By a) = FitsAsk a.ask

abbrev pub FitsAsked : HttpAsked → Type 0
FitsAsked (Room a) = FitsRoomAsk a
FitsAsked (Wire w) = All FitsMember w.members

-- Which route a request has.
use Rattle.std.specs.Prelude.{[], codes, if◌then◌else◌, Option, Some, None, Result, Ok, Err}
use Rattle.matchit.specs.Rows.{RowsOf}
use Rattle.matchit.specs.Order.{placed}
use Rattle.matchit.specs.Route.{Scan, parse_route}
use Rattle.matchit.specs.Router.{RouteOf, route_from}
use Rattle.matchit.specs.Seek.{first}
use Rattle.matchit.specs.declared.error.InsertError.{InsertError}
use Rattle.news_types.specs.Names.{Bytes, same}
use Rattle.desk_routes.specs.declared.route.Route.{Route}
use Rattle.desk_routes.specs.declared.route.Route.TheVariants.{Requests, Item, Queue, FeedAfter, Frame, Receipts, Ingest, Wire, AgencyWire, AgencyItems, Archive, Packages, Contents, ItemsBelow, DeskItemsBelow, Reach, ReachOfTargets, Publication, Things, ThingsAfter, PublicationsAfter, Metrics}

-- what the paths of a route look like
abbrev pub pattern_of : Route → Bytes
pattern_of Requests = codes "/requests"
pattern_of Item = codes "/items/{item}"
pattern_of Queue = codes "/queue"
pattern_of FeedAfter = codes "/feeds/{subscriber}/after/{k}"
pattern_of Frame = codes "/feeds/{subscriber}/frames/{k}"
pattern_of Receipts = codes "/feeds/{subscriber}/receipts"
pattern_of Ingest = codes "/ingest/{provider}/ninjs"
pattern_of Wire = codes "/ingest/{provider}/7901"
pattern_of AgencyWire = codes "/ingest/{provider}/7901-any"
pattern_of AgencyItems = codes "/ingest/{provider}/ninjs-any"
pattern_of Archive = codes "/archive"
pattern_of Packages = codes "/packages"
pattern_of Contents = codes "/publications/{publication}/contents"
pattern_of ItemsBelow = codes "/items/below/{n}"
pattern_of DeskItemsBelow = codes "/desks/{desk}/items/below/{n}"
pattern_of Reach = codes "/items/{item}/reach"
pattern_of ReachOfTargets = codes "/items/{item}/reach"
pattern_of Publication = codes "/publications/{publication}"
pattern_of Things = codes "/things/{of}/first"
pattern_of ThingsAfter = codes "/things/{of}/after/{name}"
pattern_of PublicationsAfter = codes "/items/{item}/publications/after/{n}"
pattern_of Metrics = codes "/metrics"

-- the one method of a route
abbrev pub method_of : Route → Bytes
method_of Requests = codes "POST"
method_of Item = codes "GET"
method_of Queue = codes "GET"
method_of FeedAfter = codes "GET"
method_of Frame = codes "GET"
method_of Receipts = codes "POST"
method_of Ingest = codes "POST"
method_of Wire = codes "POST"
method_of AgencyWire = codes "POST"
method_of AgencyItems = codes "POST"
method_of Archive = codes "POST"
method_of Packages = codes "POST"
method_of Contents = codes "GET"
method_of ItemsBelow = codes "GET"
method_of DeskItemsBelow = codes "GET"
method_of Reach = codes "GET"
method_of ReachOfTargets = codes "POST"
method_of Publication = codes "GET"
method_of Things = codes "GET"
method_of ThingsAfter = codes "GET"
method_of PublicationsAfter = codes "GET"
method_of Metrics = codes "GET"

-- the other route of its path, by another method; most paths have one route
abbrev pub beside : Route → Route
beside Reach = ReachOfTargets
beside route = route

-- the rows of a router of routes
abbrev pub Rows : Type 0
Rows = RowsOf (RouteOf Route)

abbrev pub with_read : Result Scan InsertError → Route → Rows → Rows
with_read (Ok read) route rows = placed (read.pattern, route_from read route) rows
with_read (Err error) route rows = rows

-- with the row of this route among them
abbrev pub with_route : Route → Rows → Rows
with_route route rows = with_read (parse_route (pattern_of route)) route rows

-- the rows of all paths
abbrev pub all_paths : Rows
all_paths =
    with_route Metrics
    (with_route PublicationsAfter
    (with_route ThingsAfter
    (with_route Things
    (with_route Publication
    (with_route Reach
    (with_route DeskItemsBelow
    (with_route ItemsBelow
    (with_route Contents
    (with_route Packages
    (with_route Archive
    (with_route AgencyItems
    (with_route AgencyWire
    (with_route Wire
    (with_route Ingest
    (with_route Receipts
    (with_route Frame
    (with_route FeedAfter
    (with_route Queue
    (with_route Item
    (with_route Requests []))))))))))))))))))))

abbrev pub value_of : Option (RouteOf Route) → Option Route
value_of None = None
value_of (Some row) = Some row.value

-- the route of a path
abbrev pub route_of : Bytes → Option Route
route_of path = value_of (first all_paths path)

abbrev pub if_its_method : Bytes → Route → Option Route
if_its_method method route = if same method (method_of route) then Some route else None

-- the route or the other one of its path, by the method
abbrev pub if_method : Bytes → Option Route → Option Route
if_method method None = None
if_method method (Some route) = if same method (method_of route) then Some route else if_its_method method (beside route)

-- the route that has this method and path
abbrev pub routed : Bytes → Bytes → Option Route
routed method path = if_method method (route_of path)

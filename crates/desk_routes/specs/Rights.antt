-- Who may ask what.
use Rattle.std.specs.Prelude.{◌≡◌, ℕ, Bool, true, false, ◌||◌, Some}
use Rattle.news_types.specs.declared.query.Query.{Query}
use Rattle.news_types.specs.declared.query.Query.TheVariants as query
use Rattle.news_types.specs.declared.query.Answer.{Answer}
use Rattle.news_types.specs.declared.query.Answer.TheVariants as told
use Rattle.news_types.specs.declared.words.Privilege.{Privilege}
use Rattle.news_types.specs.declared.words.Privilege.TheVariants as privilege
use Rattle.news_types.specs.Names.{Bytes, same}
use Rattle.news_types.specs.History.{History}
use Rattle.news_types.specs.Users.{is_user, may}
use Rattle.news_types.specs.Answers.{query_answer}
use Rattle.desk_routes.specs.declared.ask.HttpAsk.{HttpAsk}
use Rattle.desk_routes.specs.declared.ask.HttpAsk.TheVariants as ask
use Rattle.desk_routes.specs.declared.rights.Right.{Right}
use Rattle.desk_routes.specs.declared.rights.Right.TheVariants.{Anyone, User, Holder, Subscriber, SubscriberOr}
use Rattle.desk_routes.specs.declared.rights.Gate.{Gate}
use Rattle.desk_routes.specs.declared.rights.Gate.TheVariants.{Known, Asks}

-- the caller has the right, at this list
abbrev pub may_ask : History → Bytes → Right → Bool
may_ask h caller Anyone = true
may_ask h caller User = is_user h caller
may_ask h caller (Holder wanted) = may h caller wanted
may_ask h caller (Subscriber subscriber) = same caller subscriber
may_ask h caller (SubscriberOr subscriber wanted) = same caller subscriber || may h caller wanted

abbrev pub right_of_query : Query → Right
right_of_query (query.Feed subscriber after) = SubscriberOr subscriber privilege.Subscribers
right_of_query (query.Frame subscriber k) = SubscriberOr subscriber privilege.Subscribers
right_of_query _ = User

-- the right that is wanted: a request is judged by its own rules, and so anyone may make it
abbrev pub right_of : HttpAsk → Right
right_of (ask.Request caller number command) = Anyone
right_of (ask.Query question) = right_of_query question
right_of (ask.Receipt subscriber n) = Subscriber subscriber
right_of (ask.Ingest provider incoming) = Holder privilege.Ingest
right_of (ask.Archive page query) = User
-- a user, whose flash is judged by the rules of requests besides
right_of (ask.Package caller number described) = User
right_of (ask.Contents publication) = User
right_of (ask.Desk question) = User

-- ---- how it is found out

-- the question whether the user has the privilege
abbrev pub asks : Bytes → Privilege → Gate
asks user wanted = Asks (query.May user (Some wanted))

-- the answer says that it is allowed
abbrev pub allows : Answer → Bool
allows (told.May allowed) = allowed
allows _ = false

-- what is known without the list, or what a question on the list is answered
abbrev pub passes : (Bytes → ℕ → Bytes) → History → Gate → Bool
passes frame h (Known open_to) = open_to
passes frame h (Asks question) = allows (query_answer frame h question)

-- the gate lets the caller pass exactly where it has the right, whatever the list and its frames are
abbrev pub Guards : Gate → Bytes → Right → Type 0
Guards gate caller right = (frame : Bytes → ℕ → Bytes) (h : History) → passes frame h gate ≡ may_ask h caller right

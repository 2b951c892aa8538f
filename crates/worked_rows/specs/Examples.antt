-- Words in which the examples are told.
use Rattle.std.specs.Prelude.{ℕ, ◌+◌, false, List, [], ◌∷◌, map, codes}
use Rattle.news_types.specs.declared.command.Command.{Command}
use Rattle.news_types.specs.declared.words.Media.TheVariants.{Text}
use Rattle.news_types.specs.declared.words.Kind.{Kind}
use Rattle.news_types.specs.declared.words.PubStatus.TheVariants.{Usable}
use Rattle.news_types.specs.declared.story.Story.{Story}
use Rattle.news_types.specs.declared.story.Incoming.{Incoming}
use Rattle.news_types.specs.declared.query.FeedRow.{FeedRow}
use Rattle.news_types.specs.Names.{Bytes}
use Rattle.news_types.specs.History.{History, last_number}
use Rattle.news_types.specs.Users.{admin}
use Rattle.news_types.specs.Feeds.{Dispatch, feed}
use Rattle.news_types.specs.Outcome.{Answered, Done, Repeat, request, ingest}
use Rattle.news_types.specs.Calls.{more, ticked}

-- ---- names and stories

abbrev pub city : Bytes
city = codes "city"

abbrev pub alpha : Bytes
alpha = codes "alpha"

abbrev pub beta : Bytes
beta = codes "beta"

abbrev pub gamma : Bytes
gamma = codes "gamma"

abbrev pub ana : Bytes
ana = codes "ana"

-- sessions
abbrev pub s : Bytes
s = codes "s"

abbrev pub one : Bytes
one = codes "one"

abbrev pub two : Bytes
two = codes "two"

-- the product that permits every story, alone
abbrev pub every : List Bytes
every = codes "all" ∷ []

abbrev pub story : Bytes → ℕ → Story
story headline urgency =
    record { kind = Text; urgency = urgency; slugline = []; headline = headline; byline = []; language = []; category = []; body = codes "Smoke."; html = false; copyright = [] }

-- a story of this urgency
abbrev pub fire : ℕ → Story
fire urgency = story (codes "Fire") urgency

-- ---- requests

-- the list behind the caller's request with the next number at a clock's reading: as it was where it is denied
abbrev pub behind : Bytes → ℕ → Command → History → History
behind caller reading command h = more ((request h caller (last_number h caller + 1) command reading).more) h

-- behind requests of one caller, one after another
abbrev pub behind_all : Bytes → ℕ → List Command → History → History
behind_all caller reading [] h = h
behind_all caller reading (command ∷ commands) h = behind_all caller reading commands (behind caller reading command h)

-- behind requests of admin
abbrev pub asked : ℕ → List Command → History → History
asked reading commands h = behind_all admin reading commands h

-- what the caller's request of a number is answered
abbrev pub told : History → Bytes → ℕ → Command → ℕ → Answered
told h caller number command reading = (request h caller number command reading).answer

-- what admin's request of the next number is answered
abbrev pub told_next : History → Command → ℕ → Answered
told_next h command reading = told h admin (last_number h admin + 1) command reading

-- done, with an entry, an item, a publication and its release
abbrev pub done : ℕ → ℕ → ℕ → ℕ → Answered
done entry item publication release = Done (record { entry = entry; item = item; publication = publication; release = release })

abbrev pub repeated : ℕ → ℕ → ℕ → ℕ → Answered
repeated entry item publication release = Repeat (record { entry = entry; item = item; publication = publication; release = release })

-- ---- ingests

-- a usable story of a provider
abbrev pub usable : Bytes → Incoming
usable identity = record { identity = identity; created = 0; embargo = 0; status = Usable; story = fire 0 }

-- the list behind an ingest
abbrev pub taken_in : Bytes → Incoming → ℕ → History → History
taken_in provider come reading h = more ((ingest h provider come reading).more) h

-- what it is answered
abbrev pub told_ingest : History → Bytes → Incoming → ℕ → Answered
told_ingest h provider come reading = (ingest h provider come reading).answer

-- ---- feeds

abbrev pub numbers : List Dispatch → List ℕ
numbers ds = map (λ d. d.shown.number) ds

abbrev pub kinds : List Dispatch → List Kind
kinds ds = map (λ d. d.shown.kind) ds

-- the feed of a subscriber as it is asked for at a clock's reading: the tick comes first
abbrev pub feed_asked : History → Bytes → ℕ → List Dispatch
feed_asked h subscriber reading = feed (ticked h reading) subscriber

-- a row of a feed's answer
abbrev pub row : ℕ → ℕ → ℕ → Kind → ℕ → ℕ → FeedRow
row k item publication kind version release = record { k = k; item = item; publication = publication; kind = kind; version = version; release = release }

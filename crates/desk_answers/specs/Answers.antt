-- The bytes of answers: compact JSON, keys in byte order.
use Rattle.std.specs.Prelude.{ℕ, Bool, List, [], ◌==◌, if◌then◌else◌, Option}
use Rattle.serde_json.specs.Data.{Members, no_members}
use Rattle.news_types.specs.declared.denial.Denial.{Denial}
use Rattle.news_types.specs.declared.denial.Denial.TheVariants.{OutOfTurn, NumberUsed, NoPrivilege, UnknownThing, NotMember, WrongState, LockedBy, NotReleased, AlreadyReleased, PastMoment, ReceiptAhead, Limit}
use Rattle.news_types.specs.declared.entry.Reply.{Reply}
use Rattle.news_types.specs.declared.rules.Place.{Place}
use Rattle.news_types.specs.declared.story.Story.{Story}
use Rattle.news_types.specs.declared.query.Holder.{Holder}
use Rattle.news_types.specs.declared.query.FeedRow.{FeedRow}
use Rattle.news_types.specs.declared.query.ItemRow.{ItemRow}
use Rattle.news_types.specs.declared.query.QueueRow.{QueueRow}
use Rattle.news_types.specs.declared.query.Publication.{Publication}
use Rattle.news_types.specs.declared.query.Answer.{Answer}
use Rattle.news_types.specs.declared.query.Answer.TheVariants as told
use Rattle.news_types.specs.Names.{Bytes}
use Rattle.news_types.specs.Conditions.{media_word}
use Rattle.desk_lines.specs.declared.property.LineProperty.{LineProperty}
use Rattle.desk_lines.specs.Properties.{property_word}
use Rattle.desk_answers.specs.Words.{kind_word, state_word, privilege_word, thing_word, feed_state_word, denial_word, denial_number}
use Rattle.desk_answers.specs.Members.{◌with◌, text, number, unless_zero, given, flag, inner, list, answering, written}

-- ---- done and repeat

-- the release is that of a publication
unfoldable pub released : Reply → Members → Members
released reply members = if reply.publication == 0 then members else number "release" reply.release members

abbrev pub replying : Bool → Members
replying repeat = if repeat then answering "repeat" else answering "done"

abbrev pub reply_bytes : Reply → Bool → List ℕ
reply_bytes reply repeat =
    written (replying repeat with unless_zero "entry" reply.entry with unless_zero "item" reply.item with unless_zero "publication" reply.publication with released reply)

-- ---- denied

-- what a denial carries
abbrev pub carried : Denial → Members → Members
carried (OutOfTurn expected) members = members with number "expected" expected
carried (NumberUsed kept) members = members with number "kept" kept
carried (NoPrivilege privilege) members = members with text "privilege" (privilege_word privilege)
carried (UnknownThing thing) members = members with text "thing" (thing_word thing)
carried (NotMember desk) members = members with text "desk" desk
carried (WrongState state) members = members with text "state" (state_word state)
carried (LockedBy user session) members = members with text "user" user with text "session" session
carried (NotReleased release) members = members with number "release" release
carried (AlreadyReleased release) members = members with number "release" release
carried (PastMoment moment) members = members with number "moment" moment
carried (ReceiptAhead length) members = members with number "length" length
carried (Limit which limit) members = members with text "which" (thing_word which) with number "limit" limit
carried _ members = members

abbrev pub denial_bytes : Denial → List ℕ
denial_bytes denial = written (answering "denied" with text "denial" (denial_word denial) with number "number" (denial_number denial) with carried denial)

-- ---- bad lines, and faults of what is ingested

abbrev pub bad_bytes : LineProperty → List ℕ
bad_bytes property = written (answering "bad" with text "property" (property_word property))

abbrev pub fault_bytes : Option ℕ → Bytes → Option Bytes → List ℕ
fault_bytes at what property = written (answering "fault" with given (number "at") at with text "what" what with given (text "property") property)

-- ---- feed

abbrev pub feed_row : FeedRow → Members
feed_row row =
    no_members with number "item" row.item with number "k" row.k with text "kind" (kind_word row.kind)
    with number "publication" row.publication with number "release" row.release with number "version" row.version

abbrev pub feed_bytes : Bytes → ℕ → List FeedRow → List ℕ
feed_bytes subscriber length rows =
    written (answering "feed" with list "entries" feed_row rows with number "length" length with text "subscriber" subscriber)

-- ---- item

unfoldable pub story : Story → Members
story s =
    no_members with text "body" s.body with text "byline" s.byline with text "category" s.category with text "copyright" s.copyright
    with text "headline" s.headline with flag "html" s.html with text "kind" (media_word s.kind) with text "language" s.language
    with text "slugline" s.slugline with number "urgency" s.urgency

unfoldable pub placed : Place → Members → Members
placed place members = members with text "desk" place.desk with text "stage" place.stage

unfoldable pub held : Holder → Members → Members
held holder members = members with text "session" holder.session with text "user" holder.user

-- an item, without its place and holder
unfoldable pub item : ItemRow → Members
item row =
    answering "item" with number "item" row.item with text "state" (state_word row.state) with number "version" row.version
    with inner "story" (story row.story)

abbrev pub item_bytes : ItemRow → List ℕ
item_bytes row = written (item row with given placed row.place with given held row.holder)

-- ---- queue

abbrev pub queue_row : QueueRow → Members
queue_row row =
    no_members with number "acked" row.acked with number "length" row.length with text "state" (feed_state_word row.state)
    with text "subscriber" row.subscriber with number "tries" row.tries

abbrev pub queue_bytes : List QueueRow → List ℕ
queue_bytes rows = written (answering "queue" with list "feeds" queue_row rows)

-- ---- check

abbrev pub check_bytes : ℕ → ℕ → ℕ → List ℕ
check_bytes entries moment publications =
    written (answering "check" with number "entries" entries with number "moment" moment with number "publications" publications)

-- ---- publication

-- a publication with its story, and what it is to those who have its item
unfoldable pub publication : Publication → Members
publication p =
    answering "publication" with text "act" (kind_word p.kind) with number "item" p.item with number "release" p.release
    with number "version" p.version with inner "story" (story p.story)

-- how many there are
abbrev pub no_publication_bytes : ℕ → List ℕ
no_publication_bytes count = written (answering "no-publication" with number "count" count)

-- ---- answers

-- the answers that have a line: those to the questions that a line can ask, and that a thing is not there
abbrev pub HasLine : Answer → Type 0
HasLine (told.Feed subscriber length rows) = Unit {0}
HasLine (told.Item row) = Unit {0}
HasLine (told.Queue rows) = Unit {0}
HasLine (told.Check entries moment publications) = Unit {0}
HasLine (told.Publication publication) = Unit {0}
HasLine (told.NoPublication count) = Unit {0}
HasLine (told.Unknown thing) = Unit {0}
-- only HTTP asks these
HasLine (told.Frame bytes) = ⊥
HasLine (told.NoFrame length) = ⊥
HasLine (told.May allowed) = ⊥
-- only calls of a program ask this
HasLine (told.Number number) = ⊥

-- An unknown thing is denied.
abbrev pub answer_bytes : Answer → List ℕ
answer_bytes (told.Feed subscriber length rows) = feed_bytes subscriber length rows
answer_bytes (told.Item row) = item_bytes row
answer_bytes (told.Queue rows) = queue_bytes rows
answer_bytes (told.Check entries moment publications) = check_bytes entries moment publications
answer_bytes (told.Publication p) = written (publication p)
answer_bytes (told.NoPublication count) = no_publication_bytes count
answer_bytes (told.Unknown thing) = denial_bytes (UnknownThing thing)
answer_bytes _ = []

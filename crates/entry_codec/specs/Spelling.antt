-- What an entry is in bytes: each field behind the one before it.
use Rattle.std.specs.Prelude.{ℕ, List, [], ◌∷◌, length, Option, Some, None, ◌==◌, if◌then◌else◌}
use Rattle.news_types.specs.declared.words.Media.{Media}
use Rattle.news_types.specs.declared.words.Media.TheVariants as media
use Rattle.news_types.specs.declared.words.PubStatus.{PubStatus}
use Rattle.news_types.specs.declared.words.PubStatus.TheVariants as status
use Rattle.news_types.specs.declared.words.Field.{Field}
use Rattle.news_types.specs.declared.words.Field.TheVariants as field
use Rattle.news_types.specs.declared.words.Op.{Op}
use Rattle.news_types.specs.declared.words.Op.TheVariants as op
use Rattle.news_types.specs.declared.words.How.{How}
use Rattle.news_types.specs.declared.words.How.TheVariants as how
use Rattle.news_types.specs.declared.words.Format.{Format}
use Rattle.news_types.specs.declared.words.Format.TheVariants as format
use Rattle.news_types.specs.declared.story.Story.{Story}
use Rattle.news_types.specs.declared.story.Incoming.{Incoming}
use Rattle.news_types.specs.declared.rules.Statement.{Statement}
use Rattle.news_types.specs.declared.rules.Place.{Place}
use Rattle.news_types.specs.declared.rules.Rule.{Rule}
use Rattle.news_types.specs.declared.command.Command.{Command}
use Rattle.news_types.specs.declared.command.Command.TheVariants.{AddUser, SetUser, AddDesk, AddStage, SetMember, AddCondition, AddFilter, SetFilter, SetBlock, AddProduct, SetProduct, AddSubscriber, SetSubscriber, Resume, AddScheme, AddProvider, Create, Flash, Lock, Unlock, BreakLock, Edit, MoveTo, Spike, Unspike, Fetch, Publish, Correct, Kill, Recall, Deschedule, Stop}
use Rattle.news_types.specs.declared.entry.Act.{Act}
use Rattle.news_types.specs.declared.entry.Act.TheVariants.{Advance, Attempt, Receipt, Halt, Ingest, Request}
use Rattle.news_types.specs.declared.entry.Entry.{Entry}
use Rattle.byte_formats.specs.Spelling.{is_empty, ◌&◌, byte, u16, u32, u64, name, text, list, option, flag}

-- ---- words

abbrev pub media_number : Media → ℕ
media_number media.Text = 0
media_number media.Audio = 1
media_number media.Video = 2
media_number media.Picture = 3
media_number media.Graphic = 4
media_number media.Composite = 5

abbrev pub status_number : PubStatus → ℕ
status_number status.Usable = 0
status_number status.Withheld = 1
status_number status.Canceled = 2

abbrev pub field_number : Field → ℕ
field_number field.Slugline = 0
field_number field.Headline = 1
field_number field.Byline = 2
field_number field.Language = 3
field_number field.Category = 4
field_number field.Body = 5
field_number field.Urgency = 6
field_number field.Kind = 7

abbrev pub op_number : Op → ℕ
op_number op.Eq = 0
op_number op.Ne = 1
op_number op.Within = 2
op_number op.Nin = 3
op_number op.Like = 4
op_number op.NotLike = 5
op_number op.StartsWith = 6
op_number op.EndsWith = 7
op_number op.Lt = 8
op_number op.Lte = 9
op_number op.Gt = 10
op_number op.Gte = 11

abbrev pub how_number : How → ℕ
how_number how.Permitting = 0
how_number how.Blocking = 1

abbrev pub format_number : Format → ℕ
format_number format.Ninjs = 0
format_number format.Text7901 = 1

-- ---- records

-- the first tag where there is no copyright, and else the second
abbrev pub by_credit : List ℕ → ℕ → ℕ → ℕ
by_credit copyright plain credited = if is_empty copyright then plain else credited

-- a copyright stands behind the other fields, where there is one
abbrev pub with_credit : List ℕ → List ℕ → List ℕ
with_credit told copyright = if is_empty copyright then told else (told & text copyright)

abbrev pub plain_story : Story → List ℕ
plain_story s = byte (media_number s.kind) & byte s.urgency & text s.slugline & text s.headline & text s.byline & text s.language & text s.category & text s.body & flag s.html

abbrev pub story : Story → List ℕ
story s = with_credit (plain_story s) s.copyright

abbrev pub incoming : Incoming → List ℕ
incoming i = text i.identity & u64 i.created & u64 i.embargo & byte (status_number i.status) & story i.story

abbrev pub statement : Statement → List ℕ
statement s = list name s.conditions & list name s.filters

abbrev pub place : Place → List ℕ
place p = name p.desk & name p.stage

abbrev pub rule : Rule → List ℕ
rule r = option name r.filter & byte r.days & u32 r.from & u32 r.to & text r.zone & option place r.fetch & flag r.publish & flag r.exit

-- ---- commands, acts and entries

-- the first tag for a lag of 0, and else the second; a lag that is not 0 stands behind the other fields
abbrev pub by_lag : ℕ → ℕ → ℕ → ℕ
by_lag lag without late = if lag == 0 then without else late

abbrev pub with_lag : List ℕ → ℕ → List ℕ
with_lag fields lag = if lag == 0 then fields else (fields & u32 lag)

-- the first tag where no lag is given, and else the second; a lag that is given stands behind the other fields
abbrev pub by_given : Option ℕ → ℕ → ℕ → ℕ
by_given None without late = without
by_given (Some lag) without late = late

abbrev pub with_given : List ℕ → Option ℕ → List ℕ
with_given fields None = fields
with_given fields (Some lag) = fields & u32 lag

abbrev pub command : Command → List ℕ
command (AddUser user privileges) = byte 1 & name user & u16 privileges.bits
command (SetUser user privileges) = byte 2 & name user & u16 privileges.bits
command (AddDesk desk) = byte 3 & name desk
command (AddStage desk stage) = byte 4 & name desk & name stage
command (SetMember desk user member) = byte 5 & name desk & name user & flag member
command (AddCondition condition field op values) = byte 6 & name condition & byte (field_number field) & byte (op_number op) & list text values
command (AddFilter filter statements) = byte 7 & name filter & list statement statements
command (SetFilter filter statements) = byte 8 & name filter & list statement statements
command (SetBlock filter on) = byte 9 & name filter & flag on
command (AddProduct product how filter) = byte 10 & name product & byte (how_number how) & option name filter
command (SetProduct product how filter) = byte 11 & name product & byte (how_number how) & option name filter
command (AddSubscriber subscriber format products lag) = byte (by_lag lag 12 37) & name subscriber & byte (format_number format) & with_lag (list name products) lag
command (SetSubscriber subscriber active products off lag) = byte (by_given lag 13 38) & name subscriber & flag active & list name products & with_given (list name off) lag
command (Resume subscriber) = byte 14 & name subscriber
command (AddScheme scheme rules) = byte 15 & name scheme & list rule rules
command (AddProvider provider scheme) = byte 16 & name provider & option name scheme
command (Create desk told) = byte (by_credit told.copyright 17 33) & name desk & story told
command (Flash told targets) = byte (by_credit told.copyright 18 34) & story told & list name targets
command (Lock item session) = byte 19 & u32 item & name session
command (Unlock item session) = byte 20 & u32 item & name session
command (BreakLock item) = byte 21 & u32 item
command (Edit item session told) = byte (by_credit told.copyright 22 35) & u32 item & name session & story told
command (MoveTo item desk stage) = byte 23 & u32 item & name desk & name stage
command (Spike item) = byte 24 & u32 item
command (Unspike item desk) = byte 25 & u32 item & name desk
command (Fetch item desk) = byte 26 & u32 item & name desk
command (Publish item session schedule embargo targets) = byte 27 & u32 item & name session & option u64 schedule & option u64 embargo & list name targets
command (Correct item session told) = byte (by_credit told.copyright 28 36) & u32 item & name session & story told
command (Kill item session note) = byte 29 & u32 item & name session & text note
command (Recall item session note) = byte 30 & u32 item & name session & text note
command (Deschedule item) = byte 31 & u32 item
command Stop = byte 32

abbrev pub act : Act → List ℕ
act Advance = byte 1
act (Attempt subscriber k) = byte 2 & name subscriber & u32 k
act (Receipt subscriber n) = byte 3 & name subscriber & u32 n
act Halt = byte 4
act (Ingest provider brought) = byte (by_credit brought.story.copyright 5 7) & name provider & incoming brought
act (Request caller number asked) = byte 6 & name caller & u64 number & command asked

-- the first byte of an act, and the bytes behind that of a command or an act
abbrev pub act_tag : Act → ℕ
act_tag Advance = 1
act_tag (Attempt _ _) = 2
act_tag (Receipt _ _) = 3
act_tag Halt = 4
act_tag (Ingest _ brought) = by_credit brought.story.copyright 5 7
act_tag (Request _ _ _) = 6

abbrev pub without_tag : List ℕ → List ℕ
without_tag [] = []
without_tag (b ∷ bytes) = bytes

abbrev pub entry_bytes : Entry → List ℕ
entry_bytes e = u64 e.moment & act e.act

-- a record of the log: four bytes of length, the payload, and the next gate
abbrev pub framed : List ℕ → List ℕ
framed payload = u32 (length payload) & payload & byte 0

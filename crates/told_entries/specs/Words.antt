-- The words of commands and of what they hold, as lines have them.
use Rattle.std.specs.Prelude.{codes}
use Rattle.news_types.specs.declared.words.Field.{Field}
use Rattle.news_types.specs.declared.words.Field.TheVariants as field
use Rattle.news_types.specs.declared.words.Op.{Op}
use Rattle.news_types.specs.declared.words.Op.TheVariants as op
use Rattle.news_types.specs.declared.words.Format.{Format}
use Rattle.news_types.specs.declared.words.Format.TheVariants as format
use Rattle.news_types.specs.declared.words.How.{How}
use Rattle.news_types.specs.declared.words.How.TheVariants as how
use Rattle.news_types.specs.declared.words.PubStatus.{PubStatus}
use Rattle.news_types.specs.declared.words.PubStatus.TheVariants as status
use Rattle.news_types.specs.declared.command.Command.{Command}
use Rattle.news_types.specs.declared.command.Command.TheVariants.{AddUser, SetUser, AddDesk, AddStage, SetMember, AddCondition, AddFilter, SetFilter, SetBlock, AddProduct, SetProduct, AddSubscriber, SetSubscriber, Resume, AddScheme, AddProvider, Create, Flash, Lock, Unlock, BreakLock, Edit, MoveTo, Spike, Unspike, Fetch, Publish, Correct, Kill, Recall, Deschedule, Stop}
use Rattle.news_types.specs.Names.{Bytes}

-- what a condition reads
abbrev pub field_word : Field → Bytes
field_word field.Slugline = codes "slugline"
field_word field.Headline = codes "headline"
field_word field.Byline = codes "byline"
field_word field.Language = codes "language"
field_word field.Category = codes "category"
field_word field.Body = codes "body"
field_word field.Urgency = codes "urgency"
field_word field.Kind = codes "kind"

-- how it compares
abbrev pub op_word : Op → Bytes
op_word op.Eq = codes "eq"
op_word op.Ne = codes "ne"
op_word op.Within = codes "in"
op_word op.Nin = codes "nin"
op_word op.Like = codes "like"
op_word op.NotLike = codes "notlike"
op_word op.StartsWith = codes "startswith"
op_word op.EndsWith = codes "endswith"
op_word op.Lt = codes "lt"
op_word op.Lte = codes "lte"
op_word op.Gt = codes "gt"
op_word op.Gte = codes "gte"

-- the form of a subscriber's feed
abbrev pub format_word : Format → Bytes
format_word format.Ninjs = codes "ninjs"
format_word format.Text7901 = codes "7901"

abbrev pub how_word : How → Bytes
how_word how.Permitting = codes "permitting"
how_word how.Blocking = codes "blocking"

-- whether what comes in may be used
abbrev pub status_word : PubStatus → Bytes
status_word status.Usable = codes "usable"
status_word status.Withheld = codes "withheld"
status_word status.Canceled = codes "canceled"

-- what a request asks for
abbrev pub command_word : Command → Bytes
command_word (AddUser user privileges) = codes "add_user"
command_word (SetUser user privileges) = codes "set_user"
command_word (AddDesk desk) = codes "add_desk"
command_word (AddStage desk stage) = codes "add_stage"
command_word (SetMember desk user member) = codes "set_member"
command_word (AddCondition condition field op values) = codes "add_condition"
command_word (AddFilter filter statements) = codes "add_filter"
command_word (SetFilter filter statements) = codes "set_filter"
command_word (SetBlock filter on) = codes "set_block"
command_word (AddProduct product how filter) = codes "add_product"
command_word (SetProduct product how filter) = codes "set_product"
command_word (AddSubscriber subscriber format products lag) = codes "add_subscriber"
command_word (SetSubscriber subscriber active products off lag) = codes "set_subscriber"
command_word (Resume subscriber) = codes "resume"
command_word (AddScheme scheme rules) = codes "add_scheme"
command_word (AddProvider provider scheme) = codes "add_provider"
command_word (Create desk story) = codes "create"
command_word (Flash story targets) = codes "flash"
command_word (Lock item session) = codes "lock"
command_word (Unlock item session) = codes "unlock"
command_word (BreakLock item) = codes "break_lock"
command_word (Edit item session story) = codes "edit"
command_word (MoveTo item desk stage) = codes "move"
command_word (Spike item) = codes "spike"
command_word (Unspike item desk) = codes "unspike"
command_word (Fetch item desk) = codes "fetch"
command_word (Publish item session schedule embargo targets) = codes "publish"
command_word (Correct item session story) = codes "correct"
command_word (Kill item session note) = codes "kill"
command_word (Recall item session note) = codes "recall"
command_word (Deschedule item) = codes "deschedule"
command_word Stop = codes "stop"

-- The formats of commands, acts and entries.
use Rattle.std.specs.Prelude.{ℕ, List, Bool, Option, Some, None, Result, nat_lt, ◌==◌, if◌then◌else◌}
use Rattle.std.specs.Int.{w32, w64}
use Rattle.news_types.specs.declared.words.Field.{Field}
use Rattle.news_types.specs.declared.words.Op.{Op}
use Rattle.news_types.specs.declared.words.How.{How}
use Rattle.news_types.specs.declared.words.Format.{Format as FeedFormat}
use Rattle.news_types.specs.declared.words.Privileges.{Privileges}
use Rattle.news_types.specs.declared.story.Story.{Story}
use Rattle.news_types.specs.declared.story.Incoming.{Incoming}
use Rattle.news_types.specs.declared.rules.Statement.{Statement}
use Rattle.news_types.specs.declared.rules.Rule.{Rule}
use Rattle.news_types.specs.declared.command.Command.{Command}
use Rattle.news_types.specs.declared.command.Command.TheVariants.{AddUser, SetUser, AddDesk, AddStage, SetMember, AddCondition, AddFilter, SetFilter, SetBlock, AddProduct, SetProduct, AddSubscriber, SetSubscriber, Resume, AddScheme, AddProvider, Create, Flash, Lock, Unlock, BreakLock, Edit, MoveTo, Spike, Unspike, Fetch, Publish, Correct, Kill, Recall, Deschedule, Stop}
use Rattle.news_types.specs.declared.entry.Act.{Act}
use Rattle.news_types.specs.declared.entry.Act.TheVariants.{Advance, Attempt, Receipt, Halt, Ingest, Request}
use Rattle.news_types.specs.declared.entry.Entry.{Entry}
use Rattle.byte_formats.specs.Format.{Format, chain, pair, made, nothing, ranged, whole, upto}
use Rattle.byte_formats.specs.Fields.{name, text, option, list, flag}
use Rattle.byte_formats.specs.Except.{from_one}
use Rattle.entry_codec.specs.Spelling as spelled
use Rattle.entry_codec.specs.Spelling.{by_credit, by_lag, by_given, act_tag, without_tag}
use Rattle.entry_codec.specs.Reading.{privileges, field, op, how, feed_format, moment, story, credited, incoming, credited_incoming, statement, rule}

-- ---- the fields behind a tag

abbrev pub user_fields : Format (List ℕ × Privileges)
user_fields = pair name privileges

abbrev pub two_names_fields : Format (List ℕ × List ℕ)
two_names_fields = pair name name

abbrev pub member_fields : Format (List ℕ × (List ℕ × Bool))
member_fields = pair name (pair name flag)

abbrev pub condition_fields : Format (List ℕ × (Field × (Op × List (List ℕ))))
condition_fields = pair name (pair field (pair op (list 64 (text 500))))

abbrev pub filter_fields : Format (List ℕ × List Statement)
filter_fields = pair name (list 16 statement)

abbrev pub block_fields : Format (List ℕ × Bool)
block_fields = pair name flag

abbrev pub product_fields : Format (List ℕ × (How × Option (List ℕ)))
product_fields = pair name (pair how (option name))

abbrev pub new_subscriber_fields : Format (List ℕ × (FeedFormat × List (List ℕ)))
new_subscriber_fields = pair name (pair feed_format (list 64 name))

abbrev pub subscriber_fields : Format (List ℕ × (Bool × (List (List ℕ) × List (List ℕ))))
subscriber_fields = pair name (pair flag (pair (list 64 name) (list 64 name)))

-- the same with a lag that is not 0, and with one that is given
abbrev pub late_subscriber_fields : Format (List ℕ × (FeedFormat × (List (List ℕ) × ℕ)))
late_subscriber_fields = pair name (pair feed_format (pair (list 64 name) (from_one w32 604800)))

abbrev pub lagged_subscriber_fields : Format (List ℕ × (Bool × (List (List ℕ) × (List (List ℕ) × ℕ))))
lagged_subscriber_fields = pair name (pair flag (pair (list 64 name) (pair (list 64 name) (upto w32 604800))))

abbrev pub rules_of_fields : Format (List ℕ × List Rule)
rules_of_fields = pair name (list 64 rule)

abbrev pub provider_fields : Format (List ℕ × Option (List ℕ))
provider_fields = pair name (option name)

abbrev pub draft_fields : Format Story → Format (List ℕ × Story)
draft_fields told = pair name told

abbrev pub flashed_fields : Format Story → Format (Story × List (List ℕ))
flashed_fields told = pair told (list 256 name)

abbrev pub named_item_fields : Format (ℕ × List ℕ)
named_item_fields = pair (whole w32) name

abbrev pub edited_fields : Format Story → Format (ℕ × (List ℕ × Story))
edited_fields told = pair (whole w32) (pair name told)

abbrev pub moved_fields : Format (ℕ × (List ℕ × List ℕ))
moved_fields = pair (whole w32) (pair name name)

abbrev pub published_fields : Format (ℕ × (List ℕ × (Option ℕ × (Option ℕ × List (List ℕ)))))
published_fields = pair (whole w32) (pair name (pair (option moment) (pair (option moment) (list 256 name))))

abbrev pub withdrawn_fields : Format (ℕ × (List ℕ × List ℕ))
withdrawn_fields = pair (whole w32) (pair name (text 524288))

-- ---- commands

-- a command's place among the commands: its tag, where it has no copyright and no lag
abbrev pub place_of : Command → ℕ
place_of (AddUser _ _) = 1
place_of (SetUser _ _) = 2
place_of (AddDesk _) = 3
place_of (AddStage _ _) = 4
place_of (SetMember _ _ _) = 5
place_of (AddCondition _ _ _ _) = 6
place_of (AddFilter _ _) = 7
place_of (SetFilter _ _) = 8
place_of (SetBlock _ _) = 9
place_of (AddProduct _ _ _) = 10
place_of (SetProduct _ _ _) = 11
place_of (AddSubscriber _ _ _ _) = 12
place_of (SetSubscriber _ _ _ _ _) = 13
place_of (Resume _) = 14
place_of (AddScheme _ _) = 15
place_of (AddProvider _ _) = 16
place_of (Create _ _) = 17
place_of (Flash _ _) = 18
place_of (Lock _ _) = 19
place_of (Unlock _ _) = 20
place_of (BreakLock _) = 21
place_of (Edit _ _ _) = 22
place_of (MoveTo _ _ _) = 23
place_of (Spike _) = 24
place_of (Unspike _ _) = 25
place_of (Fetch _ _) = 26
place_of (Publish _ _ _ _ _) = 27
place_of (Correct _ _ _) = 28
place_of (Kill _ _ _) = 29
place_of (Recall _ _ _) = 30
place_of (Deschedule _) = 31
place_of Stop = 32

abbrev pub command_tag : Command → ℕ
command_tag (AddUser _ _) = 1
command_tag (SetUser _ _) = 2
command_tag (AddDesk _) = 3
command_tag (AddStage _ _) = 4
command_tag (SetMember _ _ _) = 5
command_tag (AddCondition _ _ _ _) = 6
command_tag (AddFilter _ _) = 7
command_tag (SetFilter _ _) = 8
command_tag (SetBlock _ _) = 9
command_tag (AddProduct _ _ _) = 10
command_tag (SetProduct _ _ _) = 11
command_tag (AddSubscriber _ _ _ lag) = by_lag lag 12 37
command_tag (SetSubscriber _ _ _ _ lag) = by_given lag 13 38
command_tag (Resume _) = 14
command_tag (AddScheme _ _) = 15
command_tag (AddProvider _ _) = 16
command_tag (Create _ told) = by_credit told.copyright 17 33
command_tag (Flash told _) = by_credit told.copyright 18 34
command_tag (Lock _ _) = 19
command_tag (Unlock _ _) = 20
command_tag (BreakLock _) = 21
command_tag (Edit _ _ told) = by_credit told.copyright 22 35
command_tag (MoveTo _ _ _) = 23
command_tag (Spike _) = 24
command_tag (Unspike _ _) = 25
command_tag (Fetch _ _) = 26
command_tag (Publish _ _ _ _ _) = 27
command_tag (Correct _ _ told) = by_credit told.copyright 28 36
command_tag (Kill _ _ _) = 29
command_tag (Recall _ _ _) = 30
command_tag (Deschedule _) = 31
command_tag Stop = 32

abbrev pub command_of : {A : Type 0} → Format A → (A → Command) → Format Command
command_of F make = made F make (λ c. without_tag (spelled.command c))

-- users, desks, conditions and filters
abbrev pub desk_commands : ℕ → Format Command
desk_commands t =
    if t == 1 then command_of user_fields (λ p. AddUser p.0 p.1)
    else if t == 2 then command_of user_fields (λ p. SetUser p.0 p.1)
    else if t == 3 then command_of name (λ p. AddDesk p)
    else if t == 4 then command_of two_names_fields (λ p. AddStage p.0 p.1)
    else if t == 5 then command_of member_fields (λ p. SetMember p.0 p.1.0 p.1.1)
    else if t == 6 then command_of condition_fields (λ p. AddCondition p.0 p.1.0 p.1.1.0 p.1.1.1)
    else if t == 7 then command_of filter_fields (λ p. AddFilter p.0 p.1)
    else command_of filter_fields (λ p. SetFilter p.0 p.1)

unfoldable pub desk_command_at : ℕ → List ℕ → Result (Command × List ℕ) ℕ
desk_command_at t = (desk_commands t).read

-- blocks, products, subscribers, schemes and providers
abbrev pub feed_commands : ℕ → Format Command
feed_commands t =
    if t == 9 then command_of block_fields (λ p. SetBlock p.0 p.1)
    else if t == 10 then command_of product_fields (λ p. AddProduct p.0 p.1.0 p.1.1)
    else if t == 11 then command_of product_fields (λ p. SetProduct p.0 p.1.0 p.1.1)
    else if t == 12 then command_of new_subscriber_fields (λ p. AddSubscriber p.0 p.1.0 p.1.1 0)
    else if t == 13 then command_of subscriber_fields (λ p. SetSubscriber p.0 p.1.0 p.1.1.0 p.1.1.1 None)
    else if t == 14 then command_of name (λ p. Resume p)
    else if t == 15 then command_of rules_of_fields (λ p. AddScheme p.0 p.1)
    else command_of provider_fields (λ p. AddProvider p.0 p.1)

unfoldable pub feed_command_at : ℕ → List ℕ → Result (Command × List ℕ) ℕ
feed_command_at t = (feed_commands t).read

-- items that are written and held
abbrev pub draft_commands : ℕ → Format Command
draft_commands t =
    if t == 17 then command_of (draft_fields story) (λ p. Create p.0 p.1)
    else if t == 18 then command_of (flashed_fields story) (λ p. Flash p.0 p.1)
    else if t == 19 then command_of named_item_fields (λ p. Lock p.0 p.1)
    else if t == 20 then command_of named_item_fields (λ p. Unlock p.0 p.1)
    else if t == 21 then command_of (whole w32) (λ p. BreakLock p)
    else if t == 22 then command_of (edited_fields story) (λ p. Edit p.0 p.1.0 p.1.1)
    else if t == 23 then command_of moved_fields (λ p. MoveTo p.0 p.1.0 p.1.1)
    else command_of (whole w32) (λ p. Spike p)

unfoldable pub draft_command_at : ℕ → List ℕ → Result (Command × List ℕ) ℕ
draft_command_at t = (draft_commands t).read

-- items that are placed and published, and stopping
abbrev pub release_commands : ℕ → Format Command
release_commands t =
    if t == 25 then command_of named_item_fields (λ p. Unspike p.0 p.1)
    else if t == 26 then command_of named_item_fields (λ p. Fetch p.0 p.1)
    else if t == 27 then command_of published_fields (λ p. Publish p.0 p.1.0 p.1.1.0 p.1.1.1.0 p.1.1.1.1)
    else if t == 28 then command_of (edited_fields story) (λ p. Correct p.0 p.1.0 p.1.1)
    else if t == 29 then command_of withdrawn_fields (λ p. Kill p.0 p.1.0 p.1.1)
    else if t == 30 then command_of withdrawn_fields (λ p. Recall p.0 p.1.0 p.1.1)
    else if t == 31 then command_of (whole w32) (λ p. Deschedule p)
    else command_of {A = ℕ} (nothing 0) (λ p. Stop)

unfoldable pub release_command_at : ℕ → List ℕ → Result (Command × List ℕ) ℕ
release_command_at t = (release_commands t).read

-- those with a copyright, and subscribers with a lag
abbrev pub newer_commands : ℕ → Format Command
newer_commands t =
    if t == 33 then command_of (draft_fields credited) (λ p. Create p.0 p.1)
    else if t == 34 then command_of (flashed_fields credited) (λ p. Flash p.0 p.1)
    else if t == 35 then command_of (edited_fields credited) (λ p. Edit p.0 p.1.0 p.1.1)
    else if t == 36 then command_of (edited_fields credited) (λ p. Correct p.0 p.1.0 p.1.1)
    else if t == 37 then command_of late_subscriber_fields (λ p. AddSubscriber p.0 p.1.0 p.1.1.0 p.1.1.1)
    else command_of lagged_subscriber_fields (λ p. SetSubscriber p.0 p.1.0 p.1.1.0 p.1.1.1.0 (Some p.1.1.1.1))

unfoldable pub newer_command_at : ℕ → List ℕ → Result (Command × List ℕ) ℕ
newer_command_at t = (newer_commands t).read

abbrev pub one_of : (ℕ → List ℕ → Result (Command × List ℕ) ℕ) → ℕ → Format Command
one_of at t = record { spell = λ c. without_tag (spelled.command c); read = at t }

abbrev pub command_fields : ℕ → Format Command
command_fields t =
    if nat_lt t 9 then one_of desk_command_at t
    else if nat_lt t 17 then one_of feed_command_at t
    else if nat_lt t 25 then one_of draft_command_at t
    else if nat_lt t 33 then one_of release_command_at t
    else one_of newer_command_at t

unfoldable pub command_at : List ℕ → Result (Command × List ℕ) ℕ
command_at = (chain (ranged 1 38) command_fields command_tag).read

abbrev pub command : Format Command
command = record { spell = spelled.command; read = command_at }

-- ---- acts and entries

abbrev pub act_of : {A : Type 0} → Format A → (A → Act) → Format Act
act_of F make = made F make (λ a. without_tag (spelled.act a))

abbrev pub counted_fields : Format (List ℕ × ℕ)
counted_fields = pair name (whole w32)

abbrev pub ingest_fields : Format (List ℕ × Incoming)
ingest_fields = pair name incoming

abbrev pub credited_ingest_fields : Format (List ℕ × Incoming)
credited_ingest_fields = pair name credited_incoming

abbrev pub request_fields : Format (List ℕ × (ℕ × Command))
request_fields = pair name (pair (whole w64) command)

abbrev pub act_fields : ℕ → Format Act
act_fields t =
    if t == 1 then act_of {A = ℕ} (nothing 0) (λ p. Advance)
    else if t == 2 then act_of counted_fields (λ p. Attempt p.0 p.1)
    else if t == 3 then act_of counted_fields (λ p. Receipt p.0 p.1)
    else if t == 4 then act_of {A = ℕ} (nothing 0) (λ p. Halt)
    else if t == 5 then act_of ingest_fields (λ p. Ingest p.0 p.1)
    else if t == 6 then act_of request_fields (λ p. Request p.0 p.1.0 p.1.1)
    else act_of credited_ingest_fields (λ p. Ingest p.0 p.1)

unfoldable pub act_at : List ℕ → Result (Act × List ℕ) ℕ
act_at = (chain (ranged 1 7) act_fields act_tag).read

abbrev pub act : Format Act
act = record { spell = spelled.act; read = act_at }

unfoldable pub entry_at : List ℕ → Result (Entry × List ℕ) ℕ
entry_at = (made (pair moment act) (λ p. record { moment = p.0; act = p.1 }) spelled.entry_bytes).read

abbrev pub entry : Format Entry
entry = record { spell = spelled.entry_bytes; read = entry_at }

-- Requests are not longer than a line may be.
use Rattle.std.specs.Prelude.{ℕ, ◌≤◌, List, Bool, Option}
use Rattle.std.proofs.Common.{arith}
use Rattle.serde_json.specs.Data as json
use Rattle.serde_json.specs.Data.{Data}
use Rattle.news_types.specs.declared.command.Command.{Command}
use Rattle.news_types.specs.declared.command.Command.TheVariants.{AddUser, SetUser, AddDesk, AddStage, SetMember, AddCondition, AddFilter, SetFilter, SetBlock, AddProduct, SetProduct, AddSubscriber, SetSubscriber, Resume, AddScheme, AddProvider, Create, Flash, Lock, Unlock, BreakLock, Edit, MoveTo, Spike, Unspike, Fetch, Publish, Correct, Kill, Recall, Deschedule, Stop}
use Rattle.news_types.specs.declared.words.Field.{Field}
use Rattle.news_types.specs.declared.words.Op.{Op}
use Rattle.news_types.specs.declared.words.How.{How}
use Rattle.news_types.specs.declared.words.Format.{Format}
use Rattle.news_types.specs.declared.words.Privileges.{Privileges}
use Rattle.news_types.specs.declared.story.Story.{Story}
use Rattle.news_types.specs.declared.rules.Statement.{Statement}
use Rattle.news_types.specs.declared.rules.Rule.{Rule}
use Rattle.news_types.specs.Names.{Bytes}
use Rattle.news_types.specs.FitsCommands.{FitsCommand}
use Rattle.byte_formats.specs.Spelling.{IsName}
use Rattle.entry_codec.specs.Formed.{IsFormedCommand}
use Rattle.told_entries.specs.Commands.{request_members, command_members}
use Rattle.told_entries.proofs.Sizes.{size}
use Rattle.told_entries.proofs.SoundForms.{field_is, op_is, how_is, format_is, name_short, given_name_size, given_number_size, names_size, texts_size, privileges_size, story_size, statements_size, rules_size}

abbrev pub IsShortRequest : Bytes → ℕ → Command → Type 0
IsShortRequest caller n command = size (json.object (request_members caller n command)) ≤ 4194304

add_user : (caller : Bytes) (n : ℕ) (user : Bytes) (privileges : Privileges) → IsName caller → FitsCommand (AddUser user privileges) → IsFormedCommand (AddUser user privileges) → IsShortRequest caller n (AddUser user privileges)
unfolding request_members command_members
add_user caller n user privileges by fits formed = omega (arith, name_short caller by, name_short user formed, privileges_size privileges.bits)

set_user : (caller : Bytes) (n : ℕ) (user : Bytes) (privileges : Privileges) → IsName caller → FitsCommand (SetUser user privileges) → IsFormedCommand (SetUser user privileges) → IsShortRequest caller n (SetUser user privileges)
unfolding request_members command_members
set_user caller n user privileges by fits formed = omega (arith, name_short caller by, name_short user formed, privileges_size privileges.bits)

add_desk : (caller : Bytes) (n : ℕ) (desk : Bytes) → IsName caller → FitsCommand (AddDesk desk) → IsFormedCommand (AddDesk desk) → IsShortRequest caller n (AddDesk desk)
unfolding request_members command_members
add_desk caller n desk by fits formed = omega (arith, name_short caller by, name_short desk formed)

add_stage : (caller : Bytes) (n : ℕ) (desk : Bytes) (stage : Bytes) → IsName caller → FitsCommand (AddStage desk stage) → IsFormedCommand (AddStage desk stage) → IsShortRequest caller n (AddStage desk stage)
unfolding request_members command_members
add_stage caller n desk stage by fits formed = omega (arith, name_short caller by, name_short desk formed.0, name_short stage formed.1)

set_member : (caller : Bytes) (n : ℕ) (desk : Bytes) (user : Bytes) (member : Bool) → IsName caller → FitsCommand (SetMember desk user member) → IsFormedCommand (SetMember desk user member) → IsShortRequest caller n (SetMember desk user member)
unfolding request_members command_members
set_member caller n desk user member by fits formed = omega (arith, name_short caller by, name_short desk formed.0, name_short user formed.1)

add_condition : (caller : Bytes) (n : ℕ) (condition : Bytes) (field : Field) (op : Op) (values : List Bytes) → IsName caller → FitsCommand (AddCondition condition field op values) → IsFormedCommand (AddCondition condition field op values) → IsShortRequest caller n (AddCondition condition field op values)
unfolding request_members command_members
add_condition caller n condition field op values by fits formed = omega (arith, name_short caller by, name_short condition formed.0, (field_is field).short, (op_is op).short, fits.few, texts_size values fits.short)

add_filter : (caller : Bytes) (n : ℕ) (filter : Bytes) (statements : List Statement) → IsName caller → FitsCommand (AddFilter filter statements) → IsFormedCommand (AddFilter filter statements) → IsShortRequest caller n (AddFilter filter statements)
unfolding request_members command_members
add_filter caller n filter statements by fits formed = omega (arith, name_short caller by, name_short filter formed.0, fits.few, statements_size statements fits.each formed.1)

set_filter : (caller : Bytes) (n : ℕ) (filter : Bytes) (statements : List Statement) → IsName caller → FitsCommand (SetFilter filter statements) → IsFormedCommand (SetFilter filter statements) → IsShortRequest caller n (SetFilter filter statements)
unfolding request_members command_members
set_filter caller n filter statements by fits formed = omega (arith, name_short caller by, name_short filter formed.0, fits.few, statements_size statements fits.each formed.1)

set_block : (caller : Bytes) (n : ℕ) (filter : Bytes) (on : Bool) → IsName caller → FitsCommand (SetBlock filter on) → IsFormedCommand (SetBlock filter on) → IsShortRequest caller n (SetBlock filter on)
unfolding request_members command_members
set_block caller n filter on by fits formed = omega (arith, name_short caller by, name_short filter formed)

add_product : (caller : Bytes) (n : ℕ) (product : Bytes) (how : How) (filter : Option Bytes) → IsName caller → FitsCommand (AddProduct product how filter) → IsFormedCommand (AddProduct product how filter) → IsShortRequest caller n (AddProduct product how filter)
unfolding request_members command_members
add_product caller n product how filter by fits formed = omega (arith, name_short caller by, name_short product formed.0, (how_is how).short, given_name_size filter formed.1)

set_product : (caller : Bytes) (n : ℕ) (product : Bytes) (how : How) (filter : Option Bytes) → IsName caller → FitsCommand (SetProduct product how filter) → IsFormedCommand (SetProduct product how filter) → IsShortRequest caller n (SetProduct product how filter)
unfolding request_members command_members
set_product caller n product how filter by fits formed = omega (arith, name_short caller by, name_short product formed.0, (how_is how).short, given_name_size filter formed.1)

add_subscriber : (caller : Bytes) (n : ℕ) (subscriber : Bytes) (format : Format) (products : List Bytes) (lag : ℕ) → IsName caller → FitsCommand (AddSubscriber subscriber format products lag) → IsFormedCommand (AddSubscriber subscriber format products lag) → IsShortRequest caller n (AddSubscriber subscriber format products lag)
unfolding request_members command_members
add_subscriber caller n subscriber format products lag by fits formed = omega (arith, name_short caller by, name_short subscriber formed.0, (format_is format).short, fits.0, names_size products formed.1)

set_subscriber : (caller : Bytes) (n : ℕ) (subscriber : Bytes) (active : Bool) (products : List Bytes) (off : List Bytes) (lag : Option ℕ) → IsName caller → FitsCommand (SetSubscriber subscriber active products off lag) → IsFormedCommand (SetSubscriber subscriber active products off lag) → IsShortRequest caller n (SetSubscriber subscriber active products off lag)
unfolding request_members command_members
set_subscriber caller n subscriber active products off lag by fits formed = omega (arith, name_short caller by, name_short subscriber formed.0, fits.0, names_size products formed.1, fits.1, names_size off formed.2, given_number_size lag)

resume : (caller : Bytes) (n : ℕ) (subscriber : Bytes) → IsName caller → FitsCommand (Resume subscriber) → IsFormedCommand (Resume subscriber) → IsShortRequest caller n (Resume subscriber)
unfolding request_members command_members
resume caller n subscriber by fits formed = omega (arith, name_short caller by, name_short subscriber formed)

add_scheme : (caller : Bytes) (n : ℕ) (scheme : Bytes) (rules : List Rule) → IsName caller → FitsCommand (AddScheme scheme rules) → IsFormedCommand (AddScheme scheme rules) → IsShortRequest caller n (AddScheme scheme rules)
unfolding request_members command_members
add_scheme caller n scheme rules by fits formed = omega (arith, name_short caller by, name_short scheme formed.0, fits.few, rules_size rules fits.each formed.1)

add_provider : (caller : Bytes) (n : ℕ) (provider : Bytes) (scheme : Option Bytes) → IsName caller → FitsCommand (AddProvider provider scheme) → IsFormedCommand (AddProvider provider scheme) → IsShortRequest caller n (AddProvider provider scheme)
unfolding request_members command_members
add_provider caller n provider scheme by fits formed = omega (arith, name_short caller by, name_short provider formed.0, given_name_size scheme formed.1)

create : (caller : Bytes) (n : ℕ) (desk : Bytes) (told : Story) → IsName caller → FitsCommand (Create desk told) → IsFormedCommand (Create desk told) → IsShortRequest caller n (Create desk told)
unfolding request_members command_members
create caller n desk told by fits formed = omega (arith, name_short caller by, name_short desk formed.0, story_size told fits)

flash : (caller : Bytes) (n : ℕ) (told : Story) (targets : List Bytes) → IsName caller → FitsCommand (Flash told targets) → IsFormedCommand (Flash told targets) → IsShortRequest caller n (Flash told targets)
unfolding request_members command_members
flash caller n told targets by fits formed = omega (arith, name_short caller by, story_size told fits.0, fits.1, names_size targets formed.1)

lock : (caller : Bytes) (n : ℕ) (i : ℕ) (session : Bytes) → IsName caller → FitsCommand (Lock i session) → IsFormedCommand (Lock i session) → IsShortRequest caller n (Lock i session)
unfolding request_members command_members
lock caller n i session by fits formed = omega (arith, name_short caller by, name_short session formed.1)

unlock : (caller : Bytes) (n : ℕ) (i : ℕ) (session : Bytes) → IsName caller → FitsCommand (Unlock i session) → IsFormedCommand (Unlock i session) → IsShortRequest caller n (Unlock i session)
unfolding request_members command_members
unlock caller n i session by fits formed = omega (arith, name_short caller by, name_short session formed.1)

break_lock : (caller : Bytes) (n : ℕ) (i : ℕ) → IsName caller → FitsCommand (BreakLock i) → IsFormedCommand (BreakLock i) → IsShortRequest caller n (BreakLock i)
unfolding request_members command_members
break_lock caller n i by fits formed = omega (arith, name_short caller by)

edit : (caller : Bytes) (n : ℕ) (i : ℕ) (session : Bytes) (told : Story) → IsName caller → FitsCommand (Edit i session told) → IsFormedCommand (Edit i session told) → IsShortRequest caller n (Edit i session told)
unfolding request_members command_members
edit caller n i session told by fits formed = omega (arith, name_short caller by, name_short session formed.1, story_size told fits)

move_to : (caller : Bytes) (n : ℕ) (i : ℕ) (desk : Bytes) (stage : Bytes) → IsName caller → FitsCommand (MoveTo i desk stage) → IsFormedCommand (MoveTo i desk stage) → IsShortRequest caller n (MoveTo i desk stage)
unfolding request_members command_members
move_to caller n i desk stage by fits formed = omega (arith, name_short caller by, name_short desk formed.1, name_short stage formed.2)

spike : (caller : Bytes) (n : ℕ) (i : ℕ) → IsName caller → FitsCommand (Spike i) → IsFormedCommand (Spike i) → IsShortRequest caller n (Spike i)
unfolding request_members command_members
spike caller n i by fits formed = omega (arith, name_short caller by)

unspike : (caller : Bytes) (n : ℕ) (i : ℕ) (desk : Bytes) → IsName caller → FitsCommand (Unspike i desk) → IsFormedCommand (Unspike i desk) → IsShortRequest caller n (Unspike i desk)
unfolding request_members command_members
unspike caller n i desk by fits formed = omega (arith, name_short caller by, name_short desk formed.1)

fetch : (caller : Bytes) (n : ℕ) (i : ℕ) (desk : Bytes) → IsName caller → FitsCommand (Fetch i desk) → IsFormedCommand (Fetch i desk) → IsShortRequest caller n (Fetch i desk)
unfolding request_members command_members
fetch caller n i desk by fits formed = omega (arith, name_short caller by, name_short desk formed.1)

publish : (caller : Bytes) (n : ℕ) (i : ℕ) (session : Bytes) (schedule : Option ℕ) (embargo : Option ℕ) (targets : List Bytes) → IsName caller → FitsCommand (Publish i session schedule embargo targets) → IsFormedCommand (Publish i session schedule embargo targets) → IsShortRequest caller n (Publish i session schedule embargo targets)
unfolding request_members command_members
publish caller n i session schedule embargo targets by fits formed = omega (arith, name_short caller by, name_short session formed.1, given_number_size schedule, given_number_size embargo, fits.2, names_size targets formed.2)

correct : (caller : Bytes) (n : ℕ) (i : ℕ) (session : Bytes) (told : Story) → IsName caller → FitsCommand (Correct i session told) → IsFormedCommand (Correct i session told) → IsShortRequest caller n (Correct i session told)
unfolding request_members command_members
correct caller n i session told by fits formed = omega (arith, name_short caller by, name_short session formed.1, story_size told fits)

kill : (caller : Bytes) (n : ℕ) (i : ℕ) (session : Bytes) (note : Bytes) → IsName caller → FitsCommand (Kill i session note) → IsFormedCommand (Kill i session note) → IsShortRequest caller n (Kill i session note)
unfolding request_members command_members
kill caller n i session note by fits formed = omega (arith, name_short caller by, name_short session formed.1, fits)

recall : (caller : Bytes) (n : ℕ) (i : ℕ) (session : Bytes) (note : Bytes) → IsName caller → FitsCommand (Recall i session note) → IsFormedCommand (Recall i session note) → IsShortRequest caller n (Recall i session note)
unfolding request_members command_members
recall caller n i session note by fits formed = omega (arith, name_short caller by, name_short session formed.1, fits)

deschedule : (caller : Bytes) (n : ℕ) (i : ℕ) → IsName caller → FitsCommand (Deschedule i) → IsFormedCommand (Deschedule i) → IsShortRequest caller n (Deschedule i)
unfolding request_members command_members
deschedule caller n i by fits formed = omega (arith, name_short caller by)

stop : (caller : Bytes) (n : ℕ) → IsName caller → FitsCommand Stop → IsFormedCommand Stop → IsShortRequest caller n Stop
unfolding request_members command_members
stop caller n by fits formed = omega (arith, name_short caller by)

pub request_short : (caller : Bytes) (n : ℕ) (c : Command) → IsName caller → FitsCommand c → IsFormedCommand c → IsShortRequest caller n c
request_short caller n (AddUser user privileges) by fits formed = add_user caller n user privileges by fits formed
request_short caller n (SetUser user privileges) by fits formed = set_user caller n user privileges by fits formed
request_short caller n (AddDesk desk) by fits formed = add_desk caller n desk by fits formed
request_short caller n (AddStage desk stage) by fits formed = add_stage caller n desk stage by fits formed
request_short caller n (SetMember desk user member) by fits formed = set_member caller n desk user member by fits formed
request_short caller n (AddCondition condition field op values) by fits formed = add_condition caller n condition field op values by fits formed
request_short caller n (AddFilter filter statements) by fits formed = add_filter caller n filter statements by fits formed
request_short caller n (SetFilter filter statements) by fits formed = set_filter caller n filter statements by fits formed
request_short caller n (SetBlock filter on) by fits formed = set_block caller n filter on by fits formed
request_short caller n (AddProduct product how filter) by fits formed = add_product caller n product how filter by fits formed
request_short caller n (SetProduct product how filter) by fits formed = set_product caller n product how filter by fits formed
request_short caller n (AddSubscriber subscriber format products lag) by fits formed = add_subscriber caller n subscriber format products lag by fits formed
request_short caller n (SetSubscriber subscriber active products off lag) by fits formed = set_subscriber caller n subscriber active products off lag by fits formed
request_short caller n (Resume subscriber) by fits formed = resume caller n subscriber by fits formed
request_short caller n (AddScheme scheme rules) by fits formed = add_scheme caller n scheme rules by fits formed
request_short caller n (AddProvider provider scheme) by fits formed = add_provider caller n provider scheme by fits formed
request_short caller n (Create desk told) by fits formed = create caller n desk told by fits formed
request_short caller n (Flash told targets) by fits formed = flash caller n told targets by fits formed
request_short caller n (Lock i session) by fits formed = lock caller n i session by fits formed
request_short caller n (Unlock i session) by fits formed = unlock caller n i session by fits formed
request_short caller n (BreakLock i) by fits formed = break_lock caller n i by fits formed
request_short caller n (Edit i session told) by fits formed = edit caller n i session told by fits formed
request_short caller n (MoveTo i desk stage) by fits formed = move_to caller n i desk stage by fits formed
request_short caller n (Spike i) by fits formed = spike caller n i by fits formed
request_short caller n (Unspike i desk) by fits formed = unspike caller n i desk by fits formed
request_short caller n (Fetch i desk) by fits formed = fetch caller n i desk by fits formed
request_short caller n (Publish i session schedule embargo targets) by fits formed = publish caller n i session schedule embargo targets by fits formed
request_short caller n (Correct i session told) by fits formed = correct caller n i session told by fits formed
request_short caller n (Kill i session note) by fits formed = kill caller n i session note by fits formed
request_short caller n (Recall i session note) by fits formed = recall caller n i session note by fits formed
request_short caller n (Deschedule i) by fits formed = deschedule caller n i by fits formed
request_short caller n Stop by fits formed = stop caller n by fits formed

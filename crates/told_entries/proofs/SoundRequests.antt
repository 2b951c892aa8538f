-- Requests are sound.
use Rattle.std.specs.Prelude.{ℕ, suc, ◌^◌, ◌<◌, ◌≤◌, List, Bool, Option, Some, None}
use Rattle.std.proofs.Common.{refl, arith}
use Rattle.serde_json.specs.Data as json
use Rattle.serde_json.specs.Data.{Data}
use Rattle.news_types.specs.declared.command.Command.{Command}
use Rattle.news_types.specs.declared.command.Command.TheVariants.{AddUser, SetUser, AddDesk, AddStage, SetMember, AddCondition, AddFilter, SetFilter, SetBlock, AddProduct, SetProduct, AddSubscriber, SetSubscriber, Resume, AddScheme, AddProvider, Create, Flash, Lock, Unlock, BreakLock, Edit, MoveTo, Spike, Unspike, Fetch, Publish, Correct, Kill, Recall, Deschedule, Stop}
use Rattle.news_types.specs.declared.words.Field.{Field}
use Rattle.news_types.specs.declared.words.Op.{Op}
use Rattle.news_types.specs.declared.words.How.{How}
use Rattle.news_types.specs.declared.words.Format.{Format}
use Rattle.news_types.specs.declared.words.Privileges.{Privileges}
use Rattle.news_types.specs.declared.story.Story.{Story}
use Rattle.news_types.specs.declared.rules.Statement.{Statement}
use Rattle.news_types.specs.declared.rules.Rule.{Rule}
use Rattle.news_types.specs.Names.{Bytes}
use Rattle.news_types.specs.FitsCommands.{FitsCommand, IfGiven}
use Rattle.byte_formats.specs.Spelling.{IsName}
use Rattle.entry_codec.specs.Formed.{IsFormedCommand}
use Rattle.told_entries.specs.Commands.{request_members, command_members}
use Rattle.json.proofs.Printed.Utf8.{IsUtf8-are_ascii}
use Rattle.byte_formats.proofs.Names.{name_text}
use Rattle.told_entries.proofs.Sound.{IsSound}
use Rattle.told_entries.proofs.SoundForms.{word_text, field_is, op_is, how_is, format_is, given_name_sound, given_number_sound, moment_whole, names_sound, texts_sound, privileges_sound, story_sound, statements_sound, rules_sound}

-- of at most four levels more
abbrev pub IsSoundRequest : ℕ → Bytes → ℕ → Command → Type 0
IsSoundRequest levels caller n command = IsSound (suc (suc (suc (suc levels)))) (json.object (request_members caller n command))

lag_whole : (given : Option ℕ) → IfGiven (λ n. n ≤ 604800) given → IfGiven (λ n. n < 2 ^ 64) given
lag_whole None h = tt
lag_whole (Some n) h = omega arith

add_user : (levels : ℕ) (caller : Bytes) (n : ℕ) (user : Bytes) (privileges : Privileges) → IsName caller → n < 2 ^ 64 → FitsCommand (AddUser user privileges) → IsFormedCommand (AddUser user privileges) → IsSoundRequest levels caller n (AddUser user privileges)
unfolding request_members command_members
add_user levels caller n user privileges by number fits formed =
    (refl, (refl, name_text caller by, (refl, IsUtf8-are_ascii _ refl, (refl, number, (refl, privileges_sound (suc (suc levels)) privileges.bits, (refl, name_text user formed, tt))))))

set_user : (levels : ℕ) (caller : Bytes) (n : ℕ) (user : Bytes) (privileges : Privileges) → IsName caller → n < 2 ^ 64 → FitsCommand (SetUser user privileges) → IsFormedCommand (SetUser user privileges) → IsSoundRequest levels caller n (SetUser user privileges)
unfolding request_members command_members
set_user levels caller n user privileges by number fits formed =
    (refl, (refl, name_text caller by, (refl, IsUtf8-are_ascii _ refl, (refl, number, (refl, privileges_sound (suc (suc levels)) privileges.bits, (refl, name_text user formed, tt))))))

add_desk : (levels : ℕ) (caller : Bytes) (n : ℕ) (desk : Bytes) → IsName caller → n < 2 ^ 64 → FitsCommand (AddDesk desk) → IsFormedCommand (AddDesk desk) → IsSoundRequest levels caller n (AddDesk desk)
unfolding request_members command_members
add_desk levels caller n desk by number fits formed =
    (refl, (refl, name_text caller by, (refl, name_text desk formed, (refl, IsUtf8-are_ascii _ refl, (refl, number, tt)))))

add_stage : (levels : ℕ) (caller : Bytes) (n : ℕ) (desk : Bytes) (stage : Bytes) → IsName caller → n < 2 ^ 64 → FitsCommand (AddStage desk stage) → IsFormedCommand (AddStage desk stage) → IsSoundRequest levels caller n (AddStage desk stage)
unfolding request_members command_members
add_stage levels caller n desk stage by number fits formed =
    (refl, (refl, name_text caller by, (refl, name_text desk formed.0, (refl, IsUtf8-are_ascii _ refl, (refl, number, (refl, name_text stage formed.1, tt))))))

set_member : (levels : ℕ) (caller : Bytes) (n : ℕ) (desk : Bytes) (user : Bytes) (member : Bool) → IsName caller → n < 2 ^ 64 → FitsCommand (SetMember desk user member) → IsFormedCommand (SetMember desk user member) → IsSoundRequest levels caller n (SetMember desk user member)
unfolding request_members command_members
set_member levels caller n desk user member by number fits formed =
    (refl, (refl, name_text caller by, (refl, name_text desk formed.0, (refl, IsUtf8-are_ascii _ refl, (refl, tt, (refl, number, (refl, name_text user formed.1, tt)))))))

add_condition : (levels : ℕ) (caller : Bytes) (n : ℕ) (condition : Bytes) (field : Field) (op : Op) (values : List Bytes) → IsName caller → n < 2 ^ 64 → FitsCommand (AddCondition condition field op values) → IsFormedCommand (AddCondition condition field op values) → IsSoundRequest levels caller n (AddCondition condition field op values)
unfolding request_members command_members
add_condition levels caller n condition field op values by number fits formed =
    (refl, (refl, name_text caller by, (refl, name_text condition formed.0, (refl, IsUtf8-are_ascii _ refl, (refl, word_text _ (field_is field), (refl, number, (refl, word_text _ (op_is op), (refl, texts_sound (suc (suc levels)) values formed.1, tt))))))))

add_filter : (levels : ℕ) (caller : Bytes) (n : ℕ) (filter : Bytes) (statements : List Statement) → IsName caller → n < 2 ^ 64 → FitsCommand (AddFilter filter statements) → IsFormedCommand (AddFilter filter statements) → IsSoundRequest levels caller n (AddFilter filter statements)
unfolding request_members command_members
add_filter levels caller n filter statements by number fits formed =
    (refl, (refl, name_text caller by, (refl, IsUtf8-are_ascii _ refl, (refl, name_text filter formed.0, (refl, number, (refl, statements_sound levels statements formed.1, tt))))))

set_filter : (levels : ℕ) (caller : Bytes) (n : ℕ) (filter : Bytes) (statements : List Statement) → IsName caller → n < 2 ^ 64 → FitsCommand (SetFilter filter statements) → IsFormedCommand (SetFilter filter statements) → IsSoundRequest levels caller n (SetFilter filter statements)
unfolding request_members command_members
set_filter levels caller n filter statements by number fits formed =
    (refl, (refl, name_text caller by, (refl, IsUtf8-are_ascii _ refl, (refl, name_text filter formed.0, (refl, number, (refl, statements_sound levels statements formed.1, tt))))))

set_block : (levels : ℕ) (caller : Bytes) (n : ℕ) (filter : Bytes) (on : Bool) → IsName caller → n < 2 ^ 64 → FitsCommand (SetBlock filter on) → IsFormedCommand (SetBlock filter on) → IsSoundRequest levels caller n (SetBlock filter on)
unfolding request_members command_members
set_block levels caller n filter on by number fits formed =
    (refl, (refl, name_text caller by, (refl, IsUtf8-are_ascii _ refl, (refl, name_text filter formed, (refl, number, (refl, tt, tt))))))

add_product : (levels : ℕ) (caller : Bytes) (n : ℕ) (product : Bytes) (how : How) (filter : Option Bytes) → IsName caller → n < 2 ^ 64 → FitsCommand (AddProduct product how filter) → IsFormedCommand (AddProduct product how filter) → IsSoundRequest levels caller n (AddProduct product how filter)
unfolding request_members command_members
add_product levels caller n product how filter by number fits formed =
    (refl, (refl, name_text caller by, (refl, IsUtf8-are_ascii _ refl, (refl, given_name_sound (suc (suc (suc levels))) filter formed.1, (refl, word_text _ (how_is how), (refl, number, (refl, name_text product formed.0, tt)))))))

set_product : (levels : ℕ) (caller : Bytes) (n : ℕ) (product : Bytes) (how : How) (filter : Option Bytes) → IsName caller → n < 2 ^ 64 → FitsCommand (SetProduct product how filter) → IsFormedCommand (SetProduct product how filter) → IsSoundRequest levels caller n (SetProduct product how filter)
unfolding request_members command_members
set_product levels caller n product how filter by number fits formed =
    (refl, (refl, name_text caller by, (refl, IsUtf8-are_ascii _ refl, (refl, given_name_sound (suc (suc (suc levels))) filter formed.1, (refl, word_text _ (how_is how), (refl, number, (refl, name_text product formed.0, tt)))))))

add_subscriber : (levels : ℕ) (caller : Bytes) (n : ℕ) (subscriber : Bytes) (format : Format) (products : List Bytes) (lag : ℕ) → IsName caller → n < 2 ^ 64 → FitsCommand (AddSubscriber subscriber format products lag) → IsFormedCommand (AddSubscriber subscriber format products lag) → IsSoundRequest levels caller n (AddSubscriber subscriber format products lag)
unfolding request_members command_members
add_subscriber levels caller n subscriber format products lag by number fits formed =
    (refl, (refl, name_text caller by, (refl, IsUtf8-are_ascii _ refl, (refl, word_text _ (format_is format), (refl, omega (arith, fits.1), (refl, number, (refl, names_sound (suc (suc levels)) products formed.1, (refl, name_text subscriber formed.0, tt))))))))

set_subscriber : (levels : ℕ) (caller : Bytes) (n : ℕ) (subscriber : Bytes) (active : Bool) (products : List Bytes) (off : List Bytes) (lag : Option ℕ) → IsName caller → n < 2 ^ 64 → FitsCommand (SetSubscriber subscriber active products off lag) → IsFormedCommand (SetSubscriber subscriber active products off lag) → IsSoundRequest levels caller n (SetSubscriber subscriber active products off lag)
unfolding request_members command_members
set_subscriber levels caller n subscriber active products off lag by number fits formed =
    (refl, (refl, tt, (refl, name_text caller by, (refl, IsUtf8-are_ascii _ refl, (refl, given_number_sound (suc (suc (suc levels))) lag (lag_whole lag fits.2), (refl, number, (refl, names_sound (suc (suc levels)) off formed.2, (refl, names_sound (suc (suc levels)) products formed.1, (refl, name_text subscriber formed.0, tt)))))))))

resume : (levels : ℕ) (caller : Bytes) (n : ℕ) (subscriber : Bytes) → IsName caller → n < 2 ^ 64 → FitsCommand (Resume subscriber) → IsFormedCommand (Resume subscriber) → IsSoundRequest levels caller n (Resume subscriber)
unfolding request_members command_members
resume levels caller n subscriber by number fits formed =
    (refl, (refl, name_text caller by, (refl, IsUtf8-are_ascii _ refl, (refl, number, (refl, name_text subscriber formed, tt)))))

add_scheme : (levels : ℕ) (caller : Bytes) (n : ℕ) (scheme : Bytes) (rules : List Rule) → IsName caller → n < 2 ^ 64 → FitsCommand (AddScheme scheme rules) → IsFormedCommand (AddScheme scheme rules) → IsSoundRequest levels caller n (AddScheme scheme rules)
unfolding request_members command_members
add_scheme levels caller n scheme rules by number fits formed =
    (refl, (refl, name_text caller by, (refl, IsUtf8-are_ascii _ refl, (refl, number, (refl, rules_sound levels rules formed.1, (refl, name_text scheme formed.0, tt))))))

add_provider : (levels : ℕ) (caller : Bytes) (n : ℕ) (provider : Bytes) (scheme : Option Bytes) → IsName caller → n < 2 ^ 64 → FitsCommand (AddProvider provider scheme) → IsFormedCommand (AddProvider provider scheme) → IsSoundRequest levels caller n (AddProvider provider scheme)
unfolding request_members command_members
add_provider levels caller n provider scheme by number fits formed =
    (refl, (refl, name_text caller by, (refl, IsUtf8-are_ascii _ refl, (refl, number, (refl, name_text provider formed.0, (refl, given_name_sound (suc (suc (suc levels))) scheme formed.1, tt))))))

create : (levels : ℕ) (caller : Bytes) (n : ℕ) (desk : Bytes) (told : Story) → IsName caller → n < 2 ^ 64 → FitsCommand (Create desk told) → IsFormedCommand (Create desk told) → IsSoundRequest levels caller n (Create desk told)
unfolding request_members command_members
create levels caller n desk told by number fits formed =
    (refl, (refl, name_text caller by, (refl, name_text desk formed.0, (refl, IsUtf8-are_ascii _ refl, (refl, number, (refl, story_sound (suc (suc levels)) told fits formed.1, tt))))))

flash : (levels : ℕ) (caller : Bytes) (n : ℕ) (told : Story) (targets : List Bytes) → IsName caller → n < 2 ^ 64 → FitsCommand (Flash told targets) → IsFormedCommand (Flash told targets) → IsSoundRequest levels caller n (Flash told targets)
unfolding request_members command_members
flash levels caller n told targets by number fits formed =
    (refl, (refl, name_text caller by, (refl, IsUtf8-are_ascii _ refl, (refl, number, (refl, story_sound (suc (suc levels)) told fits.0 formed.0, (refl, names_sound (suc (suc levels)) targets formed.1, tt))))))

lock : (levels : ℕ) (caller : Bytes) (n : ℕ) (i : ℕ) (session : Bytes) → IsName caller → n < 2 ^ 64 → FitsCommand (Lock i session) → IsFormedCommand (Lock i session) → IsSoundRequest levels caller n (Lock i session)
unfolding request_members command_members
lock levels caller n i session by number fits formed =
    (refl, (refl, name_text caller by, (refl, IsUtf8-are_ascii _ refl, (refl, omega (arith, formed.0), (refl, number, (refl, name_text session formed.1, tt))))))

unlock : (levels : ℕ) (caller : Bytes) (n : ℕ) (i : ℕ) (session : Bytes) → IsName caller → n < 2 ^ 64 → FitsCommand (Unlock i session) → IsFormedCommand (Unlock i session) → IsSoundRequest levels caller n (Unlock i session)
unfolding request_members command_members
unlock levels caller n i session by number fits formed =
    (refl, (refl, name_text caller by, (refl, IsUtf8-are_ascii _ refl, (refl, omega (arith, formed.0), (refl, number, (refl, name_text session formed.1, tt))))))

break_lock : (levels : ℕ) (caller : Bytes) (n : ℕ) (i : ℕ) → IsName caller → n < 2 ^ 64 → FitsCommand (BreakLock i) → IsFormedCommand (BreakLock i) → IsSoundRequest levels caller n (BreakLock i)
unfolding request_members command_members
break_lock levels caller n i by number fits formed =
    (refl, (refl, name_text caller by, (refl, IsUtf8-are_ascii _ refl, (refl, omega (arith, formed), (refl, number, tt)))))

edit : (levels : ℕ) (caller : Bytes) (n : ℕ) (i : ℕ) (session : Bytes) (told : Story) → IsName caller → n < 2 ^ 64 → FitsCommand (Edit i session told) → IsFormedCommand (Edit i session told) → IsSoundRequest levels caller n (Edit i session told)
unfolding request_members command_members
edit levels caller n i session told by number fits formed =
    (refl, (refl, name_text caller by, (refl, IsUtf8-are_ascii _ refl, (refl, omega (arith, formed.0), (refl, number, (refl, name_text session formed.1, (refl, story_sound (suc (suc levels)) told fits formed.2, tt)))))))

move_to : (levels : ℕ) (caller : Bytes) (n : ℕ) (i : ℕ) (desk : Bytes) (stage : Bytes) → IsName caller → n < 2 ^ 64 → FitsCommand (MoveTo i desk stage) → IsFormedCommand (MoveTo i desk stage) → IsSoundRequest levels caller n (MoveTo i desk stage)
unfolding request_members command_members
move_to levels caller n i desk stage by number fits formed =
    (refl, (refl, name_text caller by, (refl, name_text desk formed.1, (refl, IsUtf8-are_ascii _ refl, (refl, omega (arith, formed.0), (refl, number, (refl, name_text stage formed.2, tt)))))))

spike : (levels : ℕ) (caller : Bytes) (n : ℕ) (i : ℕ) → IsName caller → n < 2 ^ 64 → FitsCommand (Spike i) → IsFormedCommand (Spike i) → IsSoundRequest levels caller n (Spike i)
unfolding request_members command_members
spike levels caller n i by number fits formed =
    (refl, (refl, name_text caller by, (refl, IsUtf8-are_ascii _ refl, (refl, omega (arith, formed), (refl, number, tt)))))

unspike : (levels : ℕ) (caller : Bytes) (n : ℕ) (i : ℕ) (desk : Bytes) → IsName caller → n < 2 ^ 64 → FitsCommand (Unspike i desk) → IsFormedCommand (Unspike i desk) → IsSoundRequest levels caller n (Unspike i desk)
unfolding request_members command_members
unspike levels caller n i desk by number fits formed =
    (refl, (refl, name_text caller by, (refl, name_text desk formed.1, (refl, IsUtf8-are_ascii _ refl, (refl, omega (arith, formed.0), (refl, number, tt))))))

fetch : (levels : ℕ) (caller : Bytes) (n : ℕ) (i : ℕ) (desk : Bytes) → IsName caller → n < 2 ^ 64 → FitsCommand (Fetch i desk) → IsFormedCommand (Fetch i desk) → IsSoundRequest levels caller n (Fetch i desk)
unfolding request_members command_members
fetch levels caller n i desk by number fits formed =
    (refl, (refl, name_text caller by, (refl, name_text desk formed.1, (refl, IsUtf8-are_ascii _ refl, (refl, omega (arith, formed.0), (refl, number, tt))))))

publish : (levels : ℕ) (caller : Bytes) (n : ℕ) (i : ℕ) (session : Bytes) (schedule : Option ℕ) (embargo : Option ℕ) (targets : List Bytes) → IsName caller → n < 2 ^ 64 → FitsCommand (Publish i session schedule embargo targets) → IsFormedCommand (Publish i session schedule embargo targets) → IsSoundRequest levels caller n (Publish i session schedule embargo targets)
unfolding request_members command_members
publish levels caller n i session schedule embargo targets by number fits formed =
    (refl, (refl, name_text caller by, (refl, IsUtf8-are_ascii _ refl, (refl, given_number_sound (suc (suc (suc levels))) embargo (moment_whole embargo fits.1), (refl, omega (arith, formed.0), (refl, number, (refl, given_number_sound (suc (suc (suc levels))) schedule (moment_whole schedule fits.0), (refl, name_text session formed.1, (refl, names_sound (suc (suc levels)) targets formed.2, tt)))))))))

correct : (levels : ℕ) (caller : Bytes) (n : ℕ) (i : ℕ) (session : Bytes) (told : Story) → IsName caller → n < 2 ^ 64 → FitsCommand (Correct i session told) → IsFormedCommand (Correct i session told) → IsSoundRequest levels caller n (Correct i session told)
unfolding request_members command_members
correct levels caller n i session told by number fits formed =
    (refl, (refl, name_text caller by, (refl, IsUtf8-are_ascii _ refl, (refl, omega (arith, formed.0), (refl, number, (refl, name_text session formed.1, (refl, story_sound (suc (suc levels)) told fits formed.2, tt)))))))

kill : (levels : ℕ) (caller : Bytes) (n : ℕ) (i : ℕ) (session : Bytes) (note : Bytes) → IsName caller → n < 2 ^ 64 → FitsCommand (Kill i session note) → IsFormedCommand (Kill i session note) → IsSoundRequest levels caller n (Kill i session note)
unfolding request_members command_members
kill levels caller n i session note by number fits formed =
    (refl, (refl, name_text caller by, (refl, IsUtf8-are_ascii _ refl, (refl, omega (arith, formed.0), (refl, formed.2, (refl, number, (refl, name_text session formed.1, tt)))))))

recall : (levels : ℕ) (caller : Bytes) (n : ℕ) (i : ℕ) (session : Bytes) (note : Bytes) → IsName caller → n < 2 ^ 64 → FitsCommand (Recall i session note) → IsFormedCommand (Recall i session note) → IsSoundRequest levels caller n (Recall i session note)
unfolding request_members command_members
recall levels caller n i session note by number fits formed =
    (refl, (refl, name_text caller by, (refl, IsUtf8-are_ascii _ refl, (refl, omega (arith, formed.0), (refl, formed.2, (refl, number, (refl, name_text session formed.1, tt)))))))

deschedule : (levels : ℕ) (caller : Bytes) (n : ℕ) (i : ℕ) → IsName caller → n < 2 ^ 64 → FitsCommand (Deschedule i) → IsFormedCommand (Deschedule i) → IsSoundRequest levels caller n (Deschedule i)
unfolding request_members command_members
deschedule levels caller n i by number fits formed =
    (refl, (refl, name_text caller by, (refl, IsUtf8-are_ascii _ refl, (refl, omega (arith, formed), (refl, number, tt)))))

stop : (levels : ℕ) (caller : Bytes) (n : ℕ) → IsName caller → n < 2 ^ 64 → FitsCommand Stop → IsFormedCommand Stop → IsSoundRequest levels caller n Stop
unfolding request_members command_members
stop levels caller n by number fits formed =
    (refl, (refl, name_text caller by, (refl, IsUtf8-are_ascii _ refl, (refl, number, tt))))

pub request_sound : (levels : ℕ) (caller : Bytes) (n : ℕ) (c : Command) → IsName caller → n < 2 ^ 64 → FitsCommand c → IsFormedCommand c → IsSoundRequest levels caller n c
request_sound levels caller n (AddUser user privileges) by number fits formed = add_user levels caller n user privileges by number fits formed
request_sound levels caller n (SetUser user privileges) by number fits formed = set_user levels caller n user privileges by number fits formed
request_sound levels caller n (AddDesk desk) by number fits formed = add_desk levels caller n desk by number fits formed
request_sound levels caller n (AddStage desk stage) by number fits formed = add_stage levels caller n desk stage by number fits formed
request_sound levels caller n (SetMember desk user member) by number fits formed = set_member levels caller n desk user member by number fits formed
request_sound levels caller n (AddCondition condition field op values) by number fits formed = add_condition levels caller n condition field op values by number fits formed
request_sound levels caller n (AddFilter filter statements) by number fits formed = add_filter levels caller n filter statements by number fits formed
request_sound levels caller n (SetFilter filter statements) by number fits formed = set_filter levels caller n filter statements by number fits formed
request_sound levels caller n (SetBlock filter on) by number fits formed = set_block levels caller n filter on by number fits formed
request_sound levels caller n (AddProduct product how filter) by number fits formed = add_product levels caller n product how filter by number fits formed
request_sound levels caller n (SetProduct product how filter) by number fits formed = set_product levels caller n product how filter by number fits formed
request_sound levels caller n (AddSubscriber subscriber format products lag) by number fits formed = add_subscriber levels caller n subscriber format products lag by number fits formed
request_sound levels caller n (SetSubscriber subscriber active products off lag) by number fits formed = set_subscriber levels caller n subscriber active products off lag by number fits formed
request_sound levels caller n (Resume subscriber) by number fits formed = resume levels caller n subscriber by number fits formed
request_sound levels caller n (AddScheme scheme rules) by number fits formed = add_scheme levels caller n scheme rules by number fits formed
request_sound levels caller n (AddProvider provider scheme) by number fits formed = add_provider levels caller n provider scheme by number fits formed
request_sound levels caller n (Create desk told) by number fits formed = create levels caller n desk told by number fits formed
request_sound levels caller n (Flash told targets) by number fits formed = flash levels caller n told targets by number fits formed
request_sound levels caller n (Lock i session) by number fits formed = lock levels caller n i session by number fits formed
request_sound levels caller n (Unlock i session) by number fits formed = unlock levels caller n i session by number fits formed
request_sound levels caller n (BreakLock i) by number fits formed = break_lock levels caller n i by number fits formed
request_sound levels caller n (Edit i session told) by number fits formed = edit levels caller n i session told by number fits formed
request_sound levels caller n (MoveTo i desk stage) by number fits formed = move_to levels caller n i desk stage by number fits formed
request_sound levels caller n (Spike i) by number fits formed = spike levels caller n i by number fits formed
request_sound levels caller n (Unspike i desk) by number fits formed = unspike levels caller n i desk by number fits formed
request_sound levels caller n (Fetch i desk) by number fits formed = fetch levels caller n i desk by number fits formed
request_sound levels caller n (Publish i session schedule embargo targets) by number fits formed = publish levels caller n i session schedule embargo targets by number fits formed
request_sound levels caller n (Correct i session told) by number fits formed = correct levels caller n i session told by number fits formed
request_sound levels caller n (Kill i session note) by number fits formed = kill levels caller n i session note by number fits formed
request_sound levels caller n (Recall i session note) by number fits formed = recall levels caller n i session note by number fits formed
request_sound levels caller n (Deschedule i) by number fits formed = deschedule levels caller n i by number fits formed
request_sound levels caller n Stop by number fits formed = stop levels caller n by number fits formed

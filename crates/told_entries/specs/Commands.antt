-- Requests: the object of a line that asks for the same.
use Rattle.std.specs.Prelude.{ℕ}
use Rattle.serde_json.specs.Data.{Members, no_members}
use Rattle.news_types.specs.declared.command.Command.{Command}
use Rattle.news_types.specs.declared.command.Command.TheVariants.{AddUser, SetUser, AddDesk, AddStage, SetMember, AddCondition, AddFilter, SetFilter, SetBlock, AddProduct, SetProduct, AddSubscriber, SetSubscriber, Resume, AddScheme, AddProvider, Create, Flash, Lock, Unlock, BreakLock, Edit, MoveTo, Spike, Unspike, Fetch, Publish, Correct, Kill, Recall, Deschedule, Stop}
use Rattle.news_types.specs.Names.{Bytes}
use Rattle.desk_lines.specs.Words.{privilege_bits}
use Rattle.told_objects.specs.Members.{◌with◌, text, number, flag, inner, list}
use Rattle.told_entries.specs.Words.{field_word, op_word, format_word, how_word, command_word}
use Rattle.told_entries.specs.Members.{texts, bit_words, given_text, given_number}
use Rattle.told_entries.specs.Objects.{story_members, statement_members, rule_members}

-- the properties of a command, each of them
unfoldable pub command_members : Command → Members
command_members (AddUser user privileges) = no_members with texts "privileges" (bit_words privilege_bits privileges.bits) with text "user" user
command_members (SetUser user privileges) = no_members with texts "privileges" (bit_words privilege_bits privileges.bits) with text "user" user
command_members (AddDesk desk) = no_members with text "desk" desk
command_members (AddStage desk stage) = no_members with text "desk" desk with text "stage" stage
command_members (SetMember desk user member) = no_members with text "desk" desk with flag "member" member with text "user" user
command_members (AddCondition condition field op values) =
    no_members with text "condition" condition with text "field" (field_word field) with text "op" (op_word op) with texts "values" values
command_members (AddFilter filter statements) = no_members with text "filter" filter with list "statements" statement_members statements
command_members (SetFilter filter statements) = no_members with text "filter" filter with list "statements" statement_members statements
command_members (SetBlock filter on) = no_members with text "filter" filter with flag "on" on
command_members (AddProduct product how filter) = no_members with given_text "filter" filter with text "how" (how_word how) with text "product" product
command_members (SetProduct product how filter) = no_members with given_text "filter" filter with text "how" (how_word how) with text "product" product
command_members (AddSubscriber subscriber format products lag) =
    no_members with text "format" (format_word format) with number "lag" lag with texts "products" products with text "subscriber" subscriber
command_members (SetSubscriber subscriber active products off lag) =
    no_members with flag "active" active with given_number "lag" lag with texts "off" off with texts "products" products with text "subscriber" subscriber
command_members (Resume subscriber) = no_members with text "subscriber" subscriber
command_members (AddScheme scheme rules) = no_members with list "rules" rule_members rules with text "scheme" scheme
command_members (AddProvider provider scheme) = no_members with text "provider" provider with given_text "scheme" scheme
command_members (Create desk story) = no_members with text "desk" desk with inner "story" (story_members story)
command_members (Flash story targets) = no_members with inner "story" (story_members story) with texts "targets" targets
command_members (Lock item session) = no_members with number "item" item with text "session" session
command_members (Unlock item session) = no_members with number "item" item with text "session" session
command_members (BreakLock item) = no_members with number "item" item
command_members (Edit item session story) = no_members with number "item" item with text "session" session with inner "story" (story_members story)
command_members (MoveTo item desk stage) = no_members with text "desk" desk with number "item" item with text "stage" stage
command_members (Spike item) = no_members with number "item" item
command_members (Unspike item desk) = no_members with text "desk" desk with number "item" item
command_members (Fetch item desk) = no_members with text "desk" desk with number "item" item
command_members (Publish item session schedule embargo targets) =
    no_members with given_number "embargo" embargo with number "item" item with given_number "schedule" schedule
    with text "session" session with texts "targets" targets
command_members (Correct item session story) = no_members with number "item" item with text "session" session with inner "story" (story_members story)
command_members (Kill item session note) = no_members with number "item" item with text "note" note with text "session" session
command_members (Recall item session note) = no_members with number "item" item with text "note" note with text "session" session
command_members (Deschedule item) = no_members with number "item" item
command_members Stop = no_members

-- a request of this caller with this number
unfoldable pub request_members : Bytes → ℕ → Command → Members
request_members caller n command =
    command_members command with text "by" caller with text "do" (command_word command) with number "number" n

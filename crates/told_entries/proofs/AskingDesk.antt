-- Requests are read back: those of users, desks, conditions and filters.
use Rattle.std.specs.Prelude.{ℕ, ◌^◌, ◌<◌, List, Bool, Some}
use Rattle.std.proofs.Common.{refl}
use Rattle.serde_json.specs.Data as json
use Rattle.serde_json.specs.Data.{Data}
use Rattle.news_types.specs.declared.command.Command.TheVariants.{AddUser, SetUser, AddDesk, AddStage, SetMember, AddCondition, AddFilter, SetFilter, SetBlock}
use Rattle.news_types.specs.declared.words.Field.{Field}
use Rattle.news_types.specs.declared.words.Op.{Op}
use Rattle.news_types.specs.declared.words.Privileges.{Privileges}
use Rattle.news_types.specs.declared.rules.Statement.{Statement}
use Rattle.news_types.specs.Names.{Bytes}
use Rattle.news_types.specs.FitsCommands.{FitsCommand}
use Rattle.byte_formats.specs.Spelling.{IsName}
use Rattle.entry_codec.specs.Formed.{IsFormedCommand}
use Rattle.told_entries.specs.Commands.{request_members, command_members}
use Rattle.desk_lines.specs.declared.property.LineProperty.TheVariants as the
use Rattle.desk_lines.specs.Properties.{property_word}
use Rattle.desk_lines.specs.Reading.{each_given}
use Rattle.desk_lines.specs.Forms.{text, name, list, among}
use Rattle.desk_lines.specs.Words.{field_words, op_words}
use Rattle.desk_lines.specs.Objects.{statement}
use Rattle.desk_lines.specs.Commands.{command, feed_command, draft_command, release_command}
use Rattle.desk_lines.specs.Lines.{any, request, request_of}
use Rattle.told_objects.specs.Members.{objects}
use Rattle.told_entries.specs.Words.{field_word, op_word}
use Rattle.told_entries.specs.Members.{strings}
use Rattle.told_entries.specs.Objects.{statement_members}
use Rattle.told_entries.proofs.Forms.{name_back, texts_back}
use Rattle.told_entries.proofs.Worded.{field_back, op_back}
use Rattle.told_entries.proofs.Inner.{then_ok, then_given}
use Rattle.told_entries.proofs.Asking.{IsAsked, asked_for, statements_back, privileges_said, privileges_are}

pub add_user : (caller : Bytes) (n : ℕ) (user : Bytes) (privileges : Privileges) → IsName caller → n < 2 ^ 64 → FitsCommand (AddUser user privileges) → IsFormedCommand (AddUser user privileges) → IsAsked caller n (AddUser user privileges)
unfolding any request request_of command feed_command draft_command release_command request_members command_members property_word
add_user caller n user privileges by number fits formed =
    asked_for caller n (AddUser user privileges) _ by number
    (then_ok the.User (name (json.string user)) user _ (AddUser user privileges) (name_back user formed)
    (then_given (privileges_said privileges) privileges _ (AddUser user privileges) (privileges_are privileges fits) refl))

pub set_user : (caller : Bytes) (n : ℕ) (user : Bytes) (privileges : Privileges) → IsName caller → n < 2 ^ 64 → FitsCommand (SetUser user privileges) → IsFormedCommand (SetUser user privileges) → IsAsked caller n (SetUser user privileges)
unfolding any request request_of command feed_command draft_command release_command request_members command_members property_word
set_user caller n user privileges by number fits formed =
    asked_for caller n (SetUser user privileges) _ by number
    (then_ok the.User (name (json.string user)) user _ (SetUser user privileges) (name_back user formed)
    (then_given (privileges_said privileges) privileges _ (SetUser user privileges) (privileges_are privileges fits) refl))

pub add_desk : (caller : Bytes) (n : ℕ) (desk : Bytes) → IsName caller → n < 2 ^ 64 → FitsCommand (AddDesk desk) → IsFormedCommand (AddDesk desk) → IsAsked caller n (AddDesk desk)
unfolding any request request_of command feed_command draft_command release_command request_members command_members property_word
add_desk caller n desk by number fits formed =
    asked_for caller n (AddDesk desk) _ by number
    (then_ok the.Desk (name (json.string desk)) desk _ (AddDesk desk) (name_back desk formed) refl)

pub add_stage : (caller : Bytes) (n : ℕ) (desk : Bytes) (stage : Bytes) → IsName caller → n < 2 ^ 64 → FitsCommand (AddStage desk stage) → IsFormedCommand (AddStage desk stage) → IsAsked caller n (AddStage desk stage)
unfolding any request request_of command feed_command draft_command release_command request_members command_members property_word
add_stage caller n desk stage by number fits formed =
    asked_for caller n (AddStage desk stage) _ by number
    (then_ok the.Desk (name (json.string desk)) desk _ (AddStage desk stage) (name_back desk formed.0)
    (then_ok the.Stage (name (json.string stage)) stage _ (AddStage desk stage) (name_back stage formed.1) refl))

pub set_member : (caller : Bytes) (n : ℕ) (desk : Bytes) (user : Bytes) (member : Bool) → IsName caller → n < 2 ^ 64 → FitsCommand (SetMember desk user member) → IsFormedCommand (SetMember desk user member) → IsAsked caller n (SetMember desk user member)
unfolding any request request_of command feed_command draft_command release_command request_members command_members property_word
set_member caller n desk user member by number fits formed =
    asked_for caller n (SetMember desk user member) _ by number
    (then_ok the.Desk (name (json.string desk)) desk _ (SetMember desk user member) (name_back desk formed.0)
    (then_ok the.User (name (json.string user)) user _ (SetMember desk user member) (name_back user formed.1) refl))

pub add_condition : (caller : Bytes) (n : ℕ) (condition : Bytes) (field : Field) (op : Op) (values : List Bytes) → IsName caller → n < 2 ^ 64 → FitsCommand (AddCondition condition field op values) → IsFormedCommand (AddCondition condition field op values) → IsAsked caller n (AddCondition condition field op values)
unfolding any request request_of command feed_command draft_command release_command request_members command_members property_word
add_condition caller n condition field op values by number fits formed =
    asked_for caller n (AddCondition condition field op values) _ by number
    (then_ok the.Condition (name (json.string condition)) condition _ (AddCondition condition field op values) (name_back condition formed.0)
    (then_ok the.Field (among field_words (field_word field)) field _ (AddCondition condition field op values) (field_back field)
    (then_ok the.Op (among op_words (op_word op)) op _ (AddCondition condition field op values) (op_back op)
    (then_ok the.Values (list 64 (text 500) (json.array (strings values))) values _ (AddCondition condition field op values) (texts_back 64 500 values fits.few fits.short) refl))))

pub add_filter : (caller : Bytes) (n : ℕ) (filter : Bytes) (statements : List Statement) → IsName caller → n < 2 ^ 64 → FitsCommand (AddFilter filter statements) → IsFormedCommand (AddFilter filter statements) → IsAsked caller n (AddFilter filter statements)
unfolding any request request_of command feed_command draft_command release_command request_members command_members property_word
add_filter caller n filter statements by number fits formed =
    asked_for caller n (AddFilter filter statements) _ by number
    (then_ok the.Filter (name (json.string filter)) filter _ (AddFilter filter statements) (name_back filter formed.0)
    (then_given (each_given the.Statements 16 statement (Some (json.array (objects statement_members statements)))) statements _ (AddFilter filter statements) (statements_back statements fits formed.1) refl))

pub set_filter : (caller : Bytes) (n : ℕ) (filter : Bytes) (statements : List Statement) → IsName caller → n < 2 ^ 64 → FitsCommand (SetFilter filter statements) → IsFormedCommand (SetFilter filter statements) → IsAsked caller n (SetFilter filter statements)
unfolding any request request_of command feed_command draft_command release_command request_members command_members property_word
set_filter caller n filter statements by number fits formed =
    asked_for caller n (SetFilter filter statements) _ by number
    (then_ok the.Filter (name (json.string filter)) filter _ (SetFilter filter statements) (name_back filter formed.0)
    (then_given (each_given the.Statements 16 statement (Some (json.array (objects statement_members statements)))) statements _ (SetFilter filter statements) (statements_back statements fits formed.1) refl))

pub set_block : (caller : Bytes) (n : ℕ) (filter : Bytes) (on : Bool) → IsName caller → n < 2 ^ 64 → FitsCommand (SetBlock filter on) → IsFormedCommand (SetBlock filter on) → IsAsked caller n (SetBlock filter on)
unfolding any request request_of command feed_command draft_command release_command request_members command_members property_word
set_block caller n filter on by number fits formed =
    asked_for caller n (SetBlock filter on) _ by number
    (then_ok the.Filter (name (json.string filter)) filter _ (SetBlock filter on) (name_back filter formed) refl)

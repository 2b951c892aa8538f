-- Requests are read back: those of stories that are written and held.
use Rattle.std.specs.Prelude.{ℕ, ◌^◌, ◌<◌, List}
use Rattle.std.proofs.Common.{refl, arith}
use Rattle.serde_json.specs.Data as json
use Rattle.serde_json.specs.Data.{Data}
use Rattle.news_types.specs.declared.command.Command.TheVariants.{Create, Flash, Lock, Unlock, BreakLock, Edit, MoveTo, Spike}
use Rattle.news_types.specs.declared.story.Story.{Story}
use Rattle.news_types.specs.Names.{Bytes}
use Rattle.news_types.specs.FitsCommands.{FitsCommand}
use Rattle.byte_formats.specs.Spelling.{IsName}
use Rattle.entry_codec.specs.Formed.{IsFormedCommand}
use Rattle.told_entries.specs.Commands.{request_members, command_members}
use Rattle.desk_lines.specs.declared.property.LineProperty.TheVariants as the
use Rattle.desk_lines.specs.Properties.{property_word}
use Rattle.desk_lines.specs.Forms.{whole, name, list}
use Rattle.desk_lines.specs.Objects.{story}
use Rattle.desk_lines.specs.Commands.{command, feed_command, draft_command, release_command}
use Rattle.desk_lines.specs.Lines.{any, request, request_of}
use Rattle.told_entries.specs.Members.{strings}
use Rattle.told_entries.specs.Objects.{story_members}
use Rattle.told_entries.proofs.Forms.{whole_back, name_back, names_back}
use Rattle.told_entries.proofs.Inner.{then_ok, then_given, story_back}
use Rattle.told_entries.proofs.Asking.{IsAsked, asked_for}

pub create : (caller : Bytes) (n : ℕ) (desk : Bytes) (told : Story) → IsName caller → n < 2 ^ 64 → FitsCommand (Create desk told) → IsFormedCommand (Create desk told) → IsAsked caller n (Create desk told)
unfolding any request request_of command feed_command draft_command release_command request_members command_members property_word
create caller n desk told by number fits formed =
    asked_for caller n (Create desk told) _ by number
    (then_ok the.Desk (name (json.string desk)) desk _ (Create desk told) (name_back desk formed.0)
    (then_given (story (json.object (story_members told))) told _ (Create desk told) (story_back told fits) refl))

pub flash : (caller : Bytes) (n : ℕ) (told : Story) (targets : List Bytes) → IsName caller → n < 2 ^ 64 → FitsCommand (Flash told targets) → IsFormedCommand (Flash told targets) → IsAsked caller n (Flash told targets)
unfolding any request request_of command feed_command draft_command release_command request_members command_members property_word
flash caller n told targets by number fits formed =
    asked_for caller n (Flash told targets) _ by number
    (then_given (story (json.object (story_members told))) told _ (Flash told targets) (story_back told fits.0)
    (then_ok the.Targets (list 256 name (json.array (strings targets))) targets _ (Flash told targets) (names_back 256 targets fits.1 formed.1) refl))

pub lock : (caller : Bytes) (n : ℕ) (i : ℕ) (session : Bytes) → IsName caller → n < 2 ^ 64 → FitsCommand (Lock i session) → IsFormedCommand (Lock i session) → IsAsked caller n (Lock i session)
unfolding any request request_of command feed_command draft_command release_command request_members command_members property_word
lock caller n i session by number fits formed =
    asked_for caller n (Lock i session) _ by number
    (then_ok the.Item (whole 4294967295 (json.number (json.unsigned i))) i _ (Lock i session) (whole_back 4294967295 i (omega (arith, formed.0)))
    (then_ok the.Session (name (json.string session)) session _ (Lock i session) (name_back session formed.1) refl))

pub unlock : (caller : Bytes) (n : ℕ) (i : ℕ) (session : Bytes) → IsName caller → n < 2 ^ 64 → FitsCommand (Unlock i session) → IsFormedCommand (Unlock i session) → IsAsked caller n (Unlock i session)
unfolding any request request_of command feed_command draft_command release_command request_members command_members property_word
unlock caller n i session by number fits formed =
    asked_for caller n (Unlock i session) _ by number
    (then_ok the.Item (whole 4294967295 (json.number (json.unsigned i))) i _ (Unlock i session) (whole_back 4294967295 i (omega (arith, formed.0)))
    (then_ok the.Session (name (json.string session)) session _ (Unlock i session) (name_back session formed.1) refl))

pub break_lock : (caller : Bytes) (n : ℕ) (i : ℕ) → IsName caller → n < 2 ^ 64 → FitsCommand (BreakLock i) → IsFormedCommand (BreakLock i) → IsAsked caller n (BreakLock i)
unfolding any request request_of command feed_command draft_command release_command request_members command_members property_word
break_lock caller n i by number fits formed =
    asked_for caller n (BreakLock i) _ by number
    (then_ok the.Item (whole 4294967295 (json.number (json.unsigned i))) i _ (BreakLock i) (whole_back 4294967295 i (omega (arith, formed))) refl)

pub edit : (caller : Bytes) (n : ℕ) (i : ℕ) (session : Bytes) (told : Story) → IsName caller → n < 2 ^ 64 → FitsCommand (Edit i session told) → IsFormedCommand (Edit i session told) → IsAsked caller n (Edit i session told)
unfolding any request request_of command feed_command draft_command release_command request_members command_members property_word
edit caller n i session told by number fits formed =
    asked_for caller n (Edit i session told) _ by number
    (then_ok the.Item (whole 4294967295 (json.number (json.unsigned i))) i _ (Edit i session told) (whole_back 4294967295 i (omega (arith, formed.0)))
    (then_ok the.Session (name (json.string session)) session _ (Edit i session told) (name_back session formed.1)
    (then_given (story (json.object (story_members told))) told _ (Edit i session told) (story_back told fits) refl)))

pub move_to : (caller : Bytes) (n : ℕ) (i : ℕ) (desk : Bytes) (stage : Bytes) → IsName caller → n < 2 ^ 64 → FitsCommand (MoveTo i desk stage) → IsFormedCommand (MoveTo i desk stage) → IsAsked caller n (MoveTo i desk stage)
unfolding any request request_of command feed_command draft_command release_command request_members command_members property_word
move_to caller n i desk stage by number fits formed =
    asked_for caller n (MoveTo i desk stage) _ by number
    (then_ok the.Item (whole 4294967295 (json.number (json.unsigned i))) i _ (MoveTo i desk stage) (whole_back 4294967295 i (omega (arith, formed.0)))
    (then_ok the.Desk (name (json.string desk)) desk _ (MoveTo i desk stage) (name_back desk formed.1)
    (then_ok the.Stage (name (json.string stage)) stage _ (MoveTo i desk stage) (name_back stage formed.2) refl)))

pub spike : (caller : Bytes) (n : ℕ) (i : ℕ) → IsName caller → n < 2 ^ 64 → FitsCommand (Spike i) → IsFormedCommand (Spike i) → IsAsked caller n (Spike i)
unfolding any request request_of command feed_command draft_command release_command request_members command_members property_word
spike caller n i by number fits formed =
    asked_for caller n (Spike i) _ by number
    (then_ok the.Item (whole 4294967295 (json.number (json.unsigned i))) i _ (Spike i) (whole_back 4294967295 i (omega (arith, formed))) refl)

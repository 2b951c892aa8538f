-- Requests are read back: those of stories that are published.
use Rattle.std.specs.Prelude.{ℕ, ◌^◌, ◌<◌, List, Option}
use Rattle.std.proofs.Common.{refl, ap, arith}
use Rattle.serde_json.specs.Data as json
use Rattle.serde_json.specs.Data.{Data}
use Rattle.news_types.specs.declared.command.Command.TheVariants.{Unspike, Fetch, Publish, Correct, Kill, Recall, Deschedule, Stop}
use Rattle.news_types.specs.declared.story.Story.{Story}
use Rattle.news_types.specs.Names.{Bytes}
use Rattle.news_types.specs.FitsCommands.{FitsCommand}
use Rattle.byte_formats.specs.Spelling.{IsName}
use Rattle.entry_codec.specs.Formed.{IsFormedCommand}
use Rattle.told_entries.specs.Commands.{request_members, command_members}
use Rattle.desk_lines.specs.declared.property.LineProperty.TheVariants as the
use Rattle.desk_lines.specs.Properties.{property_word}
use Rattle.desk_lines.specs.Reading.{or_bad, unless_null}
use Rattle.desk_lines.specs.Forms.{whole, moment, text, name, list}
use Rattle.desk_lines.specs.Objects.{story}
use Rattle.desk_lines.specs.Commands.{command, feed_command, draft_command, release_command}
use Rattle.desk_lines.specs.Lines.{any, request, request_of}
use Rattle.told_entries.specs.Members.{strings, number_or_null}
use Rattle.told_entries.specs.Objects.{story_members}
use Rattle.told_entries.proofs.Forms.{whole_back, text_back, name_back, given_moment_back, names_back}
use Rattle.told_entries.proofs.Inner.{then_ok, then_given, story_back}
use Rattle.told_entries.proofs.Asking.{IsAsked, asked_for}

pub unspike : (caller : Bytes) (n : ℕ) (i : ℕ) (desk : Bytes) → IsName caller → n < 2 ^ 64 → FitsCommand (Unspike i desk) → IsFormedCommand (Unspike i desk) → IsAsked caller n (Unspike i desk)
unfolding any request request_of command feed_command draft_command release_command request_members command_members property_word
unspike caller n i desk by number fits formed =
    asked_for caller n (Unspike i desk) _ by number
    (then_ok the.Item (whole 4294967295 (json.number (json.unsigned i))) i _ (Unspike i desk) (whole_back 4294967295 i (omega (arith, formed.0)))
    (then_ok the.Desk (name (json.string desk)) desk _ (Unspike i desk) (name_back desk formed.1) refl))

pub fetch : (caller : Bytes) (n : ℕ) (i : ℕ) (desk : Bytes) → IsName caller → n < 2 ^ 64 → FitsCommand (Fetch i desk) → IsFormedCommand (Fetch i desk) → IsAsked caller n (Fetch i desk)
unfolding any request request_of command feed_command draft_command release_command request_members command_members property_word
fetch caller n i desk by number fits formed =
    asked_for caller n (Fetch i desk) _ by number
    (then_ok the.Item (whole 4294967295 (json.number (json.unsigned i))) i _ (Fetch i desk) (whole_back 4294967295 i (omega (arith, formed.0)))
    (then_ok the.Desk (name (json.string desk)) desk _ (Fetch i desk) (name_back desk formed.1) refl))

pub publish : (caller : Bytes) (n : ℕ) (i : ℕ) (session : Bytes) (schedule : Option ℕ) (embargo : Option ℕ) (targets : List Bytes) → IsName caller → n < 2 ^ 64 → FitsCommand (Publish i session schedule embargo targets) → IsFormedCommand (Publish i session schedule embargo targets) → IsAsked caller n (Publish i session schedule embargo targets)
unfolding any request request_of command feed_command draft_command release_command request_members command_members property_word
publish caller n i session schedule embargo targets by number fits formed =
    asked_for caller n (Publish i session schedule embargo targets) _ by number
    (then_ok the.Item (whole 4294967295 (json.number (json.unsigned i))) i _ (Publish i session schedule embargo targets) (whole_back 4294967295 i (omega (arith, formed.0)))
    (then_ok the.Session (name (json.string session)) session _ (Publish i session schedule embargo targets) (name_back session formed.1)
    (then_given (or_bad the.Schedule (unless_null moment (number_or_null schedule))) schedule _ (Publish i session schedule embargo targets) (ap (or_bad the.Schedule) (given_moment_back schedule fits.0))
    (then_given (or_bad the.Embargo (unless_null moment (number_or_null embargo))) embargo _ (Publish i session schedule embargo targets) (ap (or_bad the.Embargo) (given_moment_back embargo fits.1))
    (then_ok the.Targets (list 256 name (json.array (strings targets))) targets _ (Publish i session schedule embargo targets) (names_back 256 targets fits.2 formed.2) refl)))))

pub correct : (caller : Bytes) (n : ℕ) (i : ℕ) (session : Bytes) (told : Story) → IsName caller → n < 2 ^ 64 → FitsCommand (Correct i session told) → IsFormedCommand (Correct i session told) → IsAsked caller n (Correct i session told)
unfolding any request request_of command feed_command draft_command release_command request_members command_members property_word
correct caller n i session told by number fits formed =
    asked_for caller n (Correct i session told) _ by number
    (then_ok the.Item (whole 4294967295 (json.number (json.unsigned i))) i _ (Correct i session told) (whole_back 4294967295 i (omega (arith, formed.0)))
    (then_ok the.Session (name (json.string session)) session _ (Correct i session told) (name_back session formed.1)
    (then_given (story (json.object (story_members told))) told _ (Correct i session told) (story_back told fits) refl)))

pub kill : (caller : Bytes) (n : ℕ) (i : ℕ) (session : Bytes) (note : Bytes) → IsName caller → n < 2 ^ 64 → FitsCommand (Kill i session note) → IsFormedCommand (Kill i session note) → IsAsked caller n (Kill i session note)
unfolding any request request_of command feed_command draft_command release_command request_members command_members property_word
kill caller n i session note by number fits formed =
    asked_for caller n (Kill i session note) _ by number
    (then_ok the.Item (whole 4294967295 (json.number (json.unsigned i))) i _ (Kill i session note) (whole_back 4294967295 i (omega (arith, formed.0)))
    (then_ok the.Session (name (json.string session)) session _ (Kill i session note) (name_back session formed.1)
    (then_ok the.Note (text 524288 (json.string note)) note _ (Kill i session note) (text_back 524288 note fits) refl)))

pub recall : (caller : Bytes) (n : ℕ) (i : ℕ) (session : Bytes) (note : Bytes) → IsName caller → n < 2 ^ 64 → FitsCommand (Recall i session note) → IsFormedCommand (Recall i session note) → IsAsked caller n (Recall i session note)
unfolding any request request_of command feed_command draft_command release_command request_members command_members property_word
recall caller n i session note by number fits formed =
    asked_for caller n (Recall i session note) _ by number
    (then_ok the.Item (whole 4294967295 (json.number (json.unsigned i))) i _ (Recall i session note) (whole_back 4294967295 i (omega (arith, formed.0)))
    (then_ok the.Session (name (json.string session)) session _ (Recall i session note) (name_back session formed.1)
    (then_ok the.Note (text 524288 (json.string note)) note _ (Recall i session note) (text_back 524288 note fits) refl)))

pub deschedule : (caller : Bytes) (n : ℕ) (i : ℕ) → IsName caller → n < 2 ^ 64 → FitsCommand (Deschedule i) → IsFormedCommand (Deschedule i) → IsAsked caller n (Deschedule i)
unfolding any request request_of command feed_command draft_command release_command request_members command_members property_word
deschedule caller n i by number fits formed =
    asked_for caller n (Deschedule i) _ by number
    (then_ok the.Item (whole 4294967295 (json.number (json.unsigned i))) i _ (Deschedule i) (whole_back 4294967295 i (omega (arith, formed))) refl)

pub stop : (caller : Bytes) (n : ℕ) → IsName caller → n < 2 ^ 64 → FitsCommand Stop → IsFormedCommand Stop → IsAsked caller n Stop
unfolding any request request_of command feed_command draft_command release_command request_members command_members property_word
stop caller n by number fits formed =
    asked_for caller n Stop _ by number
    refl

-- Requests are read back: those of products, subscribers, schemes and providers.
use Rattle.std.specs.Prelude.{ℕ, ◌^◌, ◌<◌, List, Bool, Option, Some}
use Rattle.std.proofs.Common.{refl, ap}
use Rattle.serde_json.specs.Data as json
use Rattle.serde_json.specs.Data.{Data}
use Rattle.news_types.specs.declared.command.Command.TheVariants.{AddProduct, SetProduct, AddSubscriber, SetSubscriber, Resume, AddScheme, AddProvider}
use Rattle.news_types.specs.declared.words.How.{How}
use Rattle.news_types.specs.declared.words.Format.{Format}
use Rattle.news_types.specs.declared.rules.Rule.{Rule}
use Rattle.news_types.specs.Names.{Bytes}
use Rattle.news_types.specs.FitsCommands.{FitsCommand}
use Rattle.byte_formats.specs.Spelling.{IsName}
use Rattle.entry_codec.specs.Formed.{IsFormedCommand}
use Rattle.told_entries.specs.Commands.{request_members, command_members}
use Rattle.desk_lines.specs.declared.property.LineProperty.TheVariants as the
use Rattle.desk_lines.specs.Properties.{property_word}
use Rattle.desk_lines.specs.Reading.{or_bad, unless_null, each_given}
use Rattle.desk_lines.specs.Forms.{whole, name, list, among}
use Rattle.desk_lines.specs.Words.{how_words, format_words}
use Rattle.desk_lines.specs.Objects.{rule}
use Rattle.desk_lines.specs.Commands.{command, feed_command, draft_command, release_command}
use Rattle.desk_lines.specs.Lines.{any, request, request_of}
use Rattle.told_objects.specs.Members.{objects}
use Rattle.told_entries.specs.Words.{how_word, format_word}
use Rattle.told_entries.specs.Members.{strings, text_or_null, number_or_null}
use Rattle.told_entries.specs.Objects.{rule_members}
use Rattle.told_entries.proofs.Forms.{whole_back, name_back, given_name_back, given_number_back, names_back}
use Rattle.told_entries.proofs.Worded.{how_back, format_back}
use Rattle.told_entries.proofs.Inner.{then_ok, then_given}
use Rattle.told_entries.proofs.Asking.{IsAsked, asked_for, rules_back}

pub add_product : (caller : Bytes) (n : ℕ) (product : Bytes) (how : How) (filter : Option Bytes) → IsName caller → n < 2 ^ 64 → FitsCommand (AddProduct product how filter) → IsFormedCommand (AddProduct product how filter) → IsAsked caller n (AddProduct product how filter)
unfolding any request request_of command feed_command draft_command release_command request_members command_members property_word
add_product caller n product how filter by number fits formed =
    asked_for caller n (AddProduct product how filter) _ by number
    (then_ok the.Product (name (json.string product)) product _ (AddProduct product how filter) (name_back product formed.0)
    (then_ok the.How (among how_words (how_word how)) how _ (AddProduct product how filter) (how_back how)
    (then_given (or_bad the.Filter (unless_null name (text_or_null filter))) filter _ (AddProduct product how filter) (ap (or_bad the.Filter) (given_name_back filter formed.1)) refl)))

pub set_product : (caller : Bytes) (n : ℕ) (product : Bytes) (how : How) (filter : Option Bytes) → IsName caller → n < 2 ^ 64 → FitsCommand (SetProduct product how filter) → IsFormedCommand (SetProduct product how filter) → IsAsked caller n (SetProduct product how filter)
unfolding any request request_of command feed_command draft_command release_command request_members command_members property_word
set_product caller n product how filter by number fits formed =
    asked_for caller n (SetProduct product how filter) _ by number
    (then_ok the.Product (name (json.string product)) product _ (SetProduct product how filter) (name_back product formed.0)
    (then_ok the.How (among how_words (how_word how)) how _ (SetProduct product how filter) (how_back how)
    (then_given (or_bad the.Filter (unless_null name (text_or_null filter))) filter _ (SetProduct product how filter) (ap (or_bad the.Filter) (given_name_back filter formed.1)) refl)))

pub add_subscriber : (caller : Bytes) (n : ℕ) (subscriber : Bytes) (format : Format) (products : List Bytes) (lag : ℕ) → IsName caller → n < 2 ^ 64 → FitsCommand (AddSubscriber subscriber format products lag) → IsFormedCommand (AddSubscriber subscriber format products lag) → IsAsked caller n (AddSubscriber subscriber format products lag)
unfolding any request request_of command feed_command draft_command release_command request_members command_members property_word
add_subscriber caller n subscriber format products lag by number fits formed =
    asked_for caller n (AddSubscriber subscriber format products lag) _ by number
    (then_ok the.Subscriber (name (json.string subscriber)) subscriber _ (AddSubscriber subscriber format products lag) (name_back subscriber formed.0)
    (then_ok the.Format (among format_words (format_word format)) format _ (AddSubscriber subscriber format products lag) (format_back format)
    (then_ok the.Products (list 64 name (json.array (strings products))) products _ (AddSubscriber subscriber format products lag) (names_back 64 products fits.0 formed.1)
    (then_ok the.Lag (whole 604800 (json.number (json.unsigned lag))) lag _ (AddSubscriber subscriber format products lag) (whole_back 604800 lag fits.1) refl))))

pub set_subscriber : (caller : Bytes) (n : ℕ) (subscriber : Bytes) (active : Bool) (products : List Bytes) (off : List Bytes) (lag : Option ℕ) → IsName caller → n < 2 ^ 64 → FitsCommand (SetSubscriber subscriber active products off lag) → IsFormedCommand (SetSubscriber subscriber active products off lag) → IsAsked caller n (SetSubscriber subscriber active products off lag)
unfolding any request request_of command feed_command draft_command release_command request_members command_members property_word
set_subscriber caller n subscriber active products off lag by number fits formed =
    asked_for caller n (SetSubscriber subscriber active products off lag) _ by number
    (then_ok the.Subscriber (name (json.string subscriber)) subscriber _ (SetSubscriber subscriber active products off lag) (name_back subscriber formed.0)
    (then_ok the.Products (list 64 name (json.array (strings products))) products _ (SetSubscriber subscriber active products off lag) (names_back 64 products fits.0 formed.1)
    (then_ok the.Off (list 64 name (json.array (strings off))) off _ (SetSubscriber subscriber active products off lag) (names_back 64 off fits.1 formed.2)
    (then_given (or_bad the.Lag (unless_null (whole 604800) (number_or_null lag))) lag _ (SetSubscriber subscriber active products off lag) (ap (or_bad the.Lag) (given_number_back 604800 lag fits.2)) refl))))

pub resume : (caller : Bytes) (n : ℕ) (subscriber : Bytes) → IsName caller → n < 2 ^ 64 → FitsCommand (Resume subscriber) → IsFormedCommand (Resume subscriber) → IsAsked caller n (Resume subscriber)
unfolding any request request_of command feed_command draft_command release_command request_members command_members property_word
resume caller n subscriber by number fits formed =
    asked_for caller n (Resume subscriber) _ by number
    (then_ok the.Subscriber (name (json.string subscriber)) subscriber _ (Resume subscriber) (name_back subscriber formed) refl)

pub add_scheme : (caller : Bytes) (n : ℕ) (scheme : Bytes) (rules : List Rule) → IsName caller → n < 2 ^ 64 → FitsCommand (AddScheme scheme rules) → IsFormedCommand (AddScheme scheme rules) → IsAsked caller n (AddScheme scheme rules)
unfolding any request request_of command feed_command draft_command release_command request_members command_members property_word
add_scheme caller n scheme rules by number fits formed =
    asked_for caller n (AddScheme scheme rules) _ by number
    (then_ok the.Scheme (name (json.string scheme)) scheme _ (AddScheme scheme rules) (name_back scheme formed.0)
    (then_given (each_given the.Rules 64 rule (Some (json.array (objects rule_members rules)))) rules _ (AddScheme scheme rules) (rules_back rules fits formed.1) refl))

pub add_provider : (caller : Bytes) (n : ℕ) (provider : Bytes) (scheme : Option Bytes) → IsName caller → n < 2 ^ 64 → FitsCommand (AddProvider provider scheme) → IsFormedCommand (AddProvider provider scheme) → IsAsked caller n (AddProvider provider scheme)
unfolding any request request_of command feed_command draft_command release_command request_members command_members property_word
add_provider caller n provider scheme by number fits formed =
    asked_for caller n (AddProvider provider scheme) _ by number
    (then_ok the.Provider (name (json.string provider)) provider _ (AddProvider provider scheme) (name_back provider formed.0)
    (then_given (or_bad the.Scheme (unless_null name (text_or_null scheme))) scheme _ (AddProvider provider scheme) (ap (or_bad the.Scheme) (given_name_back scheme formed.1)) refl))

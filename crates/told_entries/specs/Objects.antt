-- Stories, and the objects that stand in the lists of commands, with all their properties.
use Rattle.serde_json.specs.Data.{Members, no_members}
use Rattle.news_types.specs.declared.story.Story.{Story}
use Rattle.news_types.specs.declared.rules.Statement.{Statement}
use Rattle.news_types.specs.declared.rules.Place.{Place}
use Rattle.news_types.specs.declared.rules.Rule.{Rule}
use Rattle.news_types.specs.Conditions.{media_word}
use Rattle.desk_lines.specs.Words.{day_bits}
use Rattle.told_objects.specs.Members.{◌with◌, text, number, flag}
use Rattle.told_entries.specs.Members.{texts, bit_words, given_text, given_inner}

unfoldable pub story_members : Story → Members
story_members s =
    no_members with text "body" s.body with text "byline" s.byline with text "category" s.category with text "copyright" s.copyright
    with text "headline" s.headline with flag "html" s.html with text "kind" (media_word s.kind) with text "language" s.language
    with text "slugline" s.slugline with number "urgency" s.urgency

unfoldable pub statement_members : Statement → Members
statement_members s = no_members with texts "conditions" s.conditions with texts "filters" s.filters

unfoldable pub place_members : Place → Members
place_members place = no_members with text "desk" place.desk with text "stage" place.stage

-- the days are those of its bits, Monday first
unfoldable pub rule_members : Rule → Members
rule_members rule =
    no_members with texts "days" (bit_words day_bits rule.days) with flag "exit" rule.exit
    with given_inner "fetch" place_members rule.fetch with given_text "filter" rule.filter with number "from" rule.from
    with flag "publish" rule.publish with number "to" rule.to with text "zone" rule.zone

-- What is told of the things of a newsroom: a row of each kind, with keys in byte order. One that is not there has no members.
use Rattle.std.specs.Prelude.{ℕ, Bool, true, false, List, codes, Option, Some, None}
use Prim.Native.String.{String}
use Rattle.serde_json.specs.Data as json
use Rattle.serde_json.specs.Data.{Items, Members, no_members, put}
use Rattle.news_types.specs.declared.words.Privileges.{Privileges}
use Rattle.news_types.specs.declared.rules.Statement.{Statement}
use Rattle.news_types.specs.declared.rules.Place.{Place}
use Rattle.news_types.specs.declared.rules.Rule.{Rule}
use Rattle.news_types.specs.Names.{Bytes}
use Rattle.news_types.specs.Conditions.{Condition}
use Rattle.news_types.specs.Filters.{Filter}
use Rattle.news_types.specs.Products.{Product, Subscriber}
use Rattle.news_types.specs.Routing.{Provider}
use Rattle.told_objects.specs.Members.{◌with◌, text, texts, number, flag, null, inner, objects}
use Rattle.desk_questions.specs.Words.{privilege_words, day_words, format_word, how_word, field_word, op_word}

-- a name, or null where there is none
unfoldable pub name_or_null : Bytes → Option Bytes → Members → Members
name_or_null key None members = put key json.null members
name_or_null key (Some name) members = put key (json.string name) members

abbrev pub named : String → Option Bytes → Members → Members
named key name members = name_or_null (codes key) name members

-- rows that are there already
abbrev pub rows : String → Items → Members → Members
rows key items members = put (codes key) (json.array items) members

-- ---- users and desks

unfoldable pub user_members : Bytes → Privileges → Members
user_members user set = no_members with texts "privileges" (privilege_words set) with text "user" user

abbrev pub user_row : Bytes → Option Privileges → Members
user_row user None = no_members
user_row user (Some set) = user_members user set

unfoldable pub desk_members : Bytes → List Bytes → List Bytes → Members
desk_members desk members stages = no_members with text "desk" desk with texts "members" members with texts "stages" stages

-- with its members and its stages, if it is there
abbrev pub desk_row : Bytes → Bool → List Bytes → List Bytes → Members
desk_row desk false members stages = no_members
desk_row desk true members stages = desk_members desk members stages

-- ---- conditions and filters

unfoldable pub condition_members : Bytes → Condition → Members
condition_members condition c =
    no_members with text "condition" condition with text "field" (field_word c.field) with text "op" (op_word c.op)
    with texts "values" c.values

abbrev pub condition_row : Bytes → Option Condition → Members
condition_row condition None = no_members
condition_row condition (Some c) = condition_members condition c

unfoldable pub statement_row : Statement → Members
statement_row st = no_members with texts "conditions" st.conditions with texts "filters" st.filters

unfoldable pub filter_members : Bytes → ℕ → Bool → Items → Members
filter_members filter age blocks statements =
    no_members with number "age" age with flag "block" blocks with text "filter" filter with rows "statements" statements

-- with its age, and whether it blocks for all
abbrev pub filter_row : Bytes → ℕ → Bool → Option Filter → Members
filter_row filter age blocks None = no_members
filter_row filter age blocks (Some f) = filter_members filter age blocks (objects statement_row f.statements)

-- ---- products and subscribers

unfoldable pub product_members : Bytes → Product → Members
product_members product p = no_members with named "filter" p.filter with text "how" (how_word p.how) with text "product" product

abbrev pub product_row : Bytes → Option Product → Members
product_row product None = no_members
product_row product (Some p) = product_members product p

unfoldable pub subscriber_members : Bytes → Subscriber → Members
subscriber_members subscriber it =
    no_members with flag "active" it.active with text "format" (format_word it.format) with number "lag" it.lag
    with texts "off" it.off with texts "products" it.products with text "subscriber" subscriber

abbrev pub subscriber_row : Bytes → Option Subscriber → Members
subscriber_row subscriber None = no_members
subscriber_row subscriber (Some it) = subscriber_members subscriber it

-- ---- schemes and providers

abbrev pub place_members : Place → Members
place_members place = no_members with text "desk" place.desk with text "stage" place.stage

-- where a rule fetches to, null where it fetches nothing
unfoldable pub fetched : Option Place → Members → Members
fetched None members = members with null "fetch"
fetched (Some place) members = members with inner "fetch" (place_members place)

unfoldable pub rule_row : Rule → Members
rule_row rule =
    no_members with texts "days" (day_words rule.days) with flag "exit" rule.exit with fetched rule.fetch
    with named "filter" rule.filter with number "from" rule.from with flag "publish" rule.publish with number "to" rule.to
    with text "zone" rule.zone

unfoldable pub scheme_members : Bytes → Items → Members
scheme_members scheme rules = no_members with rows "rules" rules with text "scheme" scheme

abbrev pub scheme_row : Bytes → Option (List Rule) → Members
scheme_row scheme None = no_members
scheme_row scheme (Some rules) = scheme_members scheme (objects rule_row rules)

unfoldable pub provider_members : Bytes → Option Bytes → Members
provider_members provider scheme = no_members with text "provider" provider with named "scheme" scheme

abbrev pub provider_row : Bytes → Option Provider → Members
provider_row provider None = no_members
provider_row provider (Some it) = provider_members provider it.scheme

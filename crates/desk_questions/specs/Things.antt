-- What is told of the things of a newsroom.
use Rattle.std.specs.Prelude.{Option}
use Rattle.serde_json.specs.Data.{Members}
use Rattle.news_types.specs.Names.{Bytes}
use Rattle.news_types.specs.History.{History}
use Rattle.news_types.specs.Users.{privileges}
use Rattle.news_types.specs.Desks.{is_desk}
use Rattle.news_types.specs.Conditions.{condition}
use Rattle.news_types.specs.Filters.{filters}
use Rattle.news_types.specs.Products.{product, subscriber}
use Rattle.news_types.specs.Routing.{scheme, provider}
use Rattle.told_objects.specs.Members.{◌with◌, text, list, answering, written}
use Rattle.desk_views.specs.declared.question.Register.{Register}
use Rattle.desk_views.specs.declared.question.Register.TheVariants as register
use Rattle.desk_views.specs.Things.{things, members, stages, filter_age, is_block}
use Rattle.content_filters.specs.Kept.{filter_named}
use Rattle.desk_questions.specs.Words.{register_word}
use Rattle.desk_questions.specs.Rows.{user_row, desk_row, condition_row, filter_row, product_row, subscriber_row, scheme_row, provider_row}

-- the thing of that kind and name
abbrev pub thing_row : History → Register → Bytes → Members
thing_row h register.Users name = user_row name (privileges h name)
thing_row h register.Desks name = desk_row name (is_desk h name) (members h name) (stages h name)
thing_row h register.Conditions name = condition_row name (condition h name)
thing_row h register.Filters name = filter_row name (filter_age h name) (is_block h name) (filter_named name (filters h))
thing_row h register.Products name = product_row name (product h name)
thing_row h register.Subscribers name = subscriber_row name (subscriber h name)
thing_row h register.Schemes name = scheme_row name (scheme h name)
thing_row h register.Providers name = provider_row name (provider h name)

-- the first hundred of a kind behind a name
abbrev pub things_bytes : History → Register → Option Bytes → Bytes
things_bytes h of after =
    written (answering "things" with text "of" (register_word of) with list "rows" (thing_row h of) (things h of after))

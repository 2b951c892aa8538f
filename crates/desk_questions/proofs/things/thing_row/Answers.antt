use Rattle.desk_views.specs.declared.question.Register.TheVariants as register
use Rattle.desk_questions.proofs.ByKind.{row_of_kind}
use Rattle.desk_questions.proofs.things.thing_row.Goals as goal

pub returns-in-Users : goal.returns-in-Users
returns-in-Users c = row_of_kind c.args.rules.now c.args.name.now c.user_row.result c.args.of register.Users c.in-Users.is c.user_row.ensures

pub returns-in-Desks : goal.returns-in-Desks
returns-in-Desks c = row_of_kind c.args.rules.now c.args.name.now c.desk_row.result c.args.of register.Desks c.in-Desks.is c.desk_row.ensures

pub returns-in-Conditions : goal.returns-in-Conditions
returns-in-Conditions c = row_of_kind c.args.rules.now c.args.name.now c.condition_row.result c.args.of register.Conditions c.in-Conditions.is c.condition_row.ensures

pub returns-in-Filters : goal.returns-in-Filters
returns-in-Filters c = row_of_kind c.args.rules.now c.args.name.now c.filter_row.result c.args.of register.Filters c.in-Filters.is c.filter_row.ensures

pub returns-in-Products : goal.returns-in-Products
returns-in-Products c = row_of_kind c.args.rules.now c.args.name.now c.product_row.result c.args.of register.Products c.in-Products.is c.product_row.ensures

pub returns-in-Subscribers : goal.returns-in-Subscribers
returns-in-Subscribers c = row_of_kind c.args.rules.now c.args.name.now c.subscriber_row.result c.args.of register.Subscribers c.in-Subscribers.is c.subscriber_row.ensures

pub returns-in-Schemes : goal.returns-in-Schemes
returns-in-Schemes c = row_of_kind c.args.rules.now c.args.name.now c.scheme_row.result c.args.of register.Schemes c.in-Schemes.is c.scheme_row.ensures

pub returns-in-Providers : goal.returns-in-Providers
returns-in-Providers c = row_of_kind c.args.rules.now c.args.name.now c.provider_row.result c.args.of register.Providers c.in-Providers.is c.provider_row.ensures

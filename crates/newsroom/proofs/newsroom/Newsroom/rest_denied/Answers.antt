use Rattle.std.proofs.Common.{refl, sym, ◌∙◌}
use Rattle.newsroom.proofs.Sorted.{of_desks, of_filters, of_products, of_sources}
use Rattle.newsroom.proofs.Reasons.{rule_rest, rule_sort, stop_rest}
use Rattle.newsroom.proofs.newsroom.Newsroom.rest_denied.Goals as goal

pub returns-in-Desks : goal.returns-in-Desks
returns-in-Desks c h stands none =
    let command = c.args.command.now in
    let is = sym c.sort_of.ensures ∙ c.in-Desks.is in
    c.desks_denied.ensures h stands.rules (of_desks command is) ∙ rule_rest h c.args.caller.now command c.args.moment (rule_sort _ _ command c.sort_of.ensures c.in-Desks.is refl)

pub returns-in-Filters : goal.returns-in-Filters
returns-in-Filters c h stands none =
    let command = c.args.command.now in
    let is = sym c.sort_of.ensures ∙ c.in-Filters.is in
    c.filters_denied.ensures h stands.rules (of_filters command is) ∙ rule_rest h c.args.caller.now command c.args.moment (rule_sort _ _ command c.sort_of.ensures c.in-Filters.is refl)

pub returns-in-Products : goal.returns-in-Products
returns-in-Products c h stands none =
    let command = c.args.command.now in
    let is = sym c.sort_of.ensures ∙ c.in-Products.is in
    c.products_denied.ensures h stands.rules (of_products command is) ∙ rule_rest h c.args.caller.now command c.args.moment (rule_sort _ _ command c.sort_of.ensures c.in-Products.is refl)

pub returns-in-Sources : goal.returns-in-Sources
returns-in-Sources c h stands none =
    let command = c.args.command.now in
    let is = sym c.sort_of.ensures ∙ c.in-Sources.is in
    c.sources_denied.ensures h stands.rules (of_sources command is) ∙ rule_rest h c.args.caller.now command c.args.moment (rule_sort _ _ command c.sort_of.ensures c.in-Sources.is refl)

pub returns-in-Resumes : goal.returns-in-Resumes
returns-in-Resumes c h stands none = c.resume_denied.ensures h c.args.caller.now c.args.moment stands (sym c.sort_of.ensures ∙ c.in-Resumes.is)

pub returns-in-Stops : goal.returns-in-Stops
returns-in-Stops c h stands none = stop_rest h c.args.caller.now c.args.command.now c.args.moment (sym c.sort_of.ensures ∙ c.in-Stops.is)

pub returns-in-Makes : goal.returns-in-Makes
returns-in-Makes c h stands none = c.make_denied.ensures h c.args.moment stands none (sym c.sort_of.ensures ∙ c.in-Makes.is)

pub returns-in-Works : goal.returns-in-Works
returns-in-Works c h stands none = c.work_denied.ensures h stands none (sym c.sort_of.ensures ∙ c.in-Works.is)

pub returns-in-Flashes : goal.returns-in-Flashes
returns-in-Flashes c h stands none = c.flash_denied.ensures h c.args.caller.now c.args.moment stands (sym c.sort_of.ensures ∙ c.in-Flashes.is)

pub returns-in-Publishes : goal.returns-in-Publishes
returns-in-Publishes c h stands none = c.publish_denied.ensures h stands none (sym c.sort_of.ensures ∙ c.in-Publishes.is)

pub returns-in-Follows : goal.returns-in-Follows
returns-in-Follows c h stands none = c.follow_denied.ensures h stands none (sym c.sort_of.ensures ∙ c.in-Follows.is)

pub returns-in-Withdraws : goal.returns-in-Withdraws
returns-in-Withdraws c h stands none = c.withdraw_denied.ensures h stands none (sym c.sort_of.ensures ∙ c.in-Withdraws.is)

use Rattle.std.proofs.Common.{ap, sym, ◌∙◌}
use Rattle.news_types.specs.Routing as said
use Rattle.routing_rules.proofs.routing.passes.Goals as goal

pub returns-in-Some : goal.returns-in-Some
returns-in-Some c h story v =
    c.matches_with.ensures h story v.0 v.1 ∙ ap (said.passes h story) (sym c.in-Some.is)

use Rattle.std.proofs.Common.{◌≡◌, drop}
use Rattle.news_types.specs.Routing.{first_fetch}
use Rattle.rule_tables.proofs.route.first_fetch.Given as goal

abbrev pub invariant-loop-action : goal.invariant-loop-action
invariant-loop-action l = first_fetch (drop l.action-index l.actions) ≡ first_fetch l.actions

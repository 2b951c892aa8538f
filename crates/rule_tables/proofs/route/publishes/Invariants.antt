use Rattle.std.proofs.Common.{◌≡◌, drop}
use Rattle.news_types.specs.Routing.{publishes}
use Rattle.rule_tables.proofs.route.publishes.Given as goal

abbrev pub invariant-loop-action : goal.invariant-loop-action
invariant-loop-action l = publishes (drop l.action-index l.actions) ≡ publishes l.actions

use Rattle.std.proofs.Common.{◌≡◌, take}
use Rattle.std.specs.List.{filter}
use Rattle.news_types.specs.History.{History}
use Rattle.news_types.specs.Desks.{is_member}
use Rattle.rule_tables.specs.Keeps.{KeepsRules}
use Rattle.rule_tables.proofs.rules.Rules.members.Given as goal

abbrev pub invariant-loop-user : goal.invariant-loop-user
invariant-loop-user l = (h : History) → KeepsRules l.fn.self h → l.names.items ≡ filter (is_member h l.fn.desk) (take l.user-index l.users)

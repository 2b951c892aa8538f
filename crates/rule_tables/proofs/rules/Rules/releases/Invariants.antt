use Rattle.std.proofs.Common.{◌≡◌, ℕ, List, map, take}
use Rattle.news_types.specs.History.{History}
use Rattle.news_types.specs.Due.{Pub, due_at}
use Rattle.rule_tables.specs.Keeps.{KeepsRules}
use Rattle.rule_tables.specs.Releases.{AreLatest, subscribers_in}
use Rattle.rule_tables.proofs.rules.Rules.releases.Given as goal

abbrev pub invariant-loop-name : goal.invariant-loop-name
invariant-loop-name l =
    ((h : History) (ps : List Pub) (i : ℕ) → KeepsRules l.fn.self h → AreLatest l.fn.kind l.fn.latest ps i → l.due.items ≡ map (due_at h ps l.fn.kind i l.fn.release) (take l.name-index l.names))
    × (subscribers_in l.due.items ≡ take l.name-index l.names)

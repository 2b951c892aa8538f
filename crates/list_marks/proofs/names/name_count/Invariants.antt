use Rattle.std.proofs.Common.{◌-◌}
use Rattle.news_types.specs.History.{History}
use Rattle.news_types.specs.Answers.{in_order}
use Rattle.news_types.specs.Legal.{IsLegal}
use Rattle.desk_views.specs.Things.{names_of}
use Rattle.rule_tables.specs.Keeps.{KeepsRules}
use Rattle.list_marks.proofs.Pages.{IsPage}
use Rattle.list_marks.proofs.names.name_count.Given as goal

-- so many names were counted, and the next page is there
abbrev pub invariant-loop-last : goal.invariant-loop-last
invariant-loop-last l = (h : History) → KeepsRules l.rules h → IsLegal h → IsPage (in_order (names_of l.of h)) l.count l.page

-- no kind has more
abbrev pub decreases-loop-last : goal.decreases-loop-last
decreases-loop-last l = 4096 - l.count

use Rattle.std.proofs.Common.{◌≡◌, map, take}
use Rattle.news_types.specs.History.{History}
use Rattle.newsroom.specs.Stands.{StandsFor}
use Rattle.told_objects.specs.Seen.{seen}
use Rattle.desk_questions.specs.Publications.{row_by_number}
use Rattle.desk_questions.proofs.published.publication_rows.Given as goal

abbrev pub invariant-loop-number : goal.invariant-loop-number
invariant-loop-number l = (h : History) → StandsFor l.newsroom h → map seen l.rows.items ≡ map (row_by_number h) (take l.number-index l.numbers)

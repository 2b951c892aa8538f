use Rattle.std.proofs.Common.{◌≡◌, map, take}
use Rattle.news_types.specs.History.{History}
use Rattle.newsroom.specs.Stands.{StandsFor}
use Rattle.told_objects.specs.Seen.{seen}
use Rattle.desk_questions.specs.Publications.{destined_row, destinies}
use Rattle.desk_questions.proofs.published.due_rows.Given as goal

abbrev pub invariant-loop-subscriber : goal.invariant-loop-subscriber
invariant-loop-subscriber l = (h : History) → StandsFor l.newsroom h → map seen l.rows.items ≡ map destined_row (destinies h l.number (take l.subscriber-index l.subscriber-items))

use Rattle.std.proofs.Common.{◌≡◌, map, take}
use Rattle.news_types.specs.History.{History}
use Rattle.newsroom.specs.Stands.{StandsFor}
use Rattle.desk_views.specs.Reach.{reached}
use Rattle.desk_questions.specs.Reach.{reached_in}
use Rattle.desk_questions.proofs.reach.lines_of.Given as goal

abbrev pub invariant-loop-subscriber : goal.invariant-loop-subscriber
invariant-loop-subscriber l = (h : History) → StandsFor l.newsroom h → map reached_in l.rows.items ≡ map (reached h l.item l.story l.targets) (take l.subscriber-index l.subscriber-items)

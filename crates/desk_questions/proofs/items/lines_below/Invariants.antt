use Rattle.std.proofs.Common.{◌≡◌}
use Rattle.news_types.specs.History.{History}
use Rattle.newsroom.specs.Stands.{StandsFor}
use Rattle.told_objects.specs.Members.{objects}
use Rattle.desk_views.specs.Items.{items_below}
use Rattle.desk_questions.specs.Items.{item_row, wanted_of}
use Rattle.desk_questions.proofs.Paged.{rows_then}
use Rattle.desk_questions.proofs.items.lines_below.Given as goal

abbrev pub invariant-loop-left : goal.invariant-loop-left
invariant-loop-left l = (h : History) → StandsFor l.newsroom h → objects (item_row h) (items_below h (wanted_of l.wanted) l.below) ≡ rows_then h (wanted_of l.wanted) l.rows.items l.left

abbrev pub decreases-loop-left : goal.decreases-loop-left
decreases-loop-left l = l.left

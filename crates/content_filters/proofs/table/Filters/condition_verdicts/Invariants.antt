use Rattle.std.proofs.Common.{◌≡◌, take, map}
use Rattle.news_types.specs.Conditions.{is_true_of}
use Rattle.content_filters.specs.Kept.{condition_of}
use Rattle.content_filters.specs.Folds.{AreFolds}
use Rattle.content_filters.proofs.table.Filters.condition_verdicts.Given as goal

abbrev pub invariant-loop-condition : goal.invariant-loop-condition
invariant-loop-condition l = record {
  verdicts : l.verdicts.items ≡ map (is_true_of l.story) (map condition_of (take l.condition-index l.fn.self.conditions.items));
  folds : AreFolds l.story l.folds.items;
}

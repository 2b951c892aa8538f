use Rattle.std.proofs.Common.{◌≡◌, ◌++◌, drop}
use Rattle.json.specs.Tree.{items_tokens}
use Rattle.serde_json.specs.Written.{items_outline}
use Rattle.desk_answers.specs.Members.{objects}
use Rattle.desk_answers.specs.Answers.{feed_row}
use Rattle.desk_answers.proofs.feed.put_rows.Given as goal

abbrev pub invariant-loop-row : goal.invariant-loop-row
invariant-loop-row l = record {
  before : l.out.before ≡ l.initial.out.before;
  tokens : l.out.tokens ++ items_tokens (items_outline (objects feed_row (drop l.row-index l.rows))) ≡ l.initial.out.tokens ++ items_tokens (items_outline (objects feed_row l.rows));
}

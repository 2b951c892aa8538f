use Rattle.std.proofs.Common.{sym, arith}
use Rattle.std.proofs.lemmas.List.{length-take-le, take_all}
use Rattle.desk_questions.proofs.published.first_rows.Goals as goal

pub slice_bounds-result-end : goal.slice_bounds-result-end
slice_bounds-result-end c = sym (length-take-le 100 c.args.numbers.now (omega arith))

pub returns-else-numbers-gt-MOST_ROWS : goal.returns-else-numbers-gt-MOST_ROWS
returns-else-numbers-gt-MOST_ROWS c = sym (take_all 100 c.args.numbers.now (omega arith))

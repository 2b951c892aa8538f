use Rattle.std.proofs.Common.{◌≡◌, ◌++◌, List, ℕ}
use Rattle.std.specs.List.{flat_map}
use Rattle.std.proofs.lemmas.Result.{IfOk-weaker}
use Rattle.archive_search.specs.Answers.{hit_line, total_line}
use Rattle.archive_search.proofs.Answered.{found_answers}
use Rattle.archive_search.proofs.answer.answer_text.Goals as goal

pub returns-in-Found : goal.returns-in-Found
returns-in-Found g c =
    let found = c.in-Found.found in
    IfOk-weaker c.found_text.result (λ (bytes : List ℕ). bytes ≡ total_line found.total ++ flat_map hit_line found.rows.items) _
    (λ bytes written b stands. found_answers b.list c.args.page c.args.query.now c.in_ok-found.field-0 (c.in_ok-found.ensures b stands) found c.in-Found.is bytes written)
    c.found_text.ensures

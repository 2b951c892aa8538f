use Rattle.std.proofs.Common.{◌≡◌, [], ◌∷◌, ◌++◌, ap, ◌∙◌, map, arith}
use Rattle.std.specs.Prelude.{slice_index_or}
use Rattle.std.proofs.lemmas.List.{map-append}
use Rattle.told_objects.specs.Seen.{seen}
use Rattle.desk_questions.specs.Publications.{row_by_number}
use Rattle.desk_questions.proofs.Listed.{map_one}
use Rattle.desk_questions.proofs.Numbers.{at_any}
use Rattle.desk_questions.proofs.published.publication_rows.Goals as goal

pub loop-number-preserved : goal.loop-number-preserved
loop-number-preserved c = λ h stands.
    let k = c.loop-number.number-index in
    let front = c.loop-number.invariant h stands in
    let row = c.in_ok-publication_row.field-0 in
    let number = slice_index_or c.args.numbers.now k 0 in
    let one : seen row ≡ row_by_number h number = c.in_ok-publication_row.ensures h stands in
    ap (map seen) c.in_ok-push.ensures.items
    ∙ map-append seen c.loop-number.rows.items (row ∷ [])
    ∙ (λ j. front j ++ one j ∷ [])
    ∙ map_one (row_by_number h) c.args.numbers.now k number (omega arith) (at_any c.args.numbers.now k 0 number (omega arith))

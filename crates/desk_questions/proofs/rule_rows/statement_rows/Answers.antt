use Rattle.std.proofs.Common.{◌≡◌, [], ◌∷◌, ◌++◌, ap, ◌∙◌, map, arith}
use Rattle.std.proofs.lemmas.List.{map-append}
use Rattle.told_objects.specs.Seen.{seen}
use Rattle.desk_questions.specs.Rows.{statement_row}
use Rattle.desk_questions.proofs.Listed.{map_one}
use Rattle.desk_questions.proofs.rule_rows.statement_rows.Goals as goal

pub loop-statement-preserved : goal.loop-statement-preserved
loop-statement-preserved c =
    let k = c.loop-statement.statement-index in
    let front = c.loop-statement.invariant in
    let row = c.in_ok-statement_object.field-0 in
    let one : seen row ≡ statement_row c.statement-item.result = c.in_ok-statement_object.ensures in
    ap (map seen) c.in_ok-push.ensures.items
    ∙ map-append seen c.loop-statement.rows.items (row ∷ [])
    ∙ (λ j. front j ++ one j ∷ [])
    ∙ map_one statement_row c.args.statements.now k c.statement-item.result (omega arith) c.statement-item.is

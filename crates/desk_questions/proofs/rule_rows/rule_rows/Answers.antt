use Rattle.std.proofs.Common.{◌≡◌, [], ◌∷◌, ◌++◌, ap, ◌∙◌, map, arith}
use Rattle.std.proofs.lemmas.List.{map-append}
use Rattle.told_objects.specs.Seen.{seen}
use Rattle.desk_questions.specs.Rows.{rule_row}
use Rattle.desk_questions.proofs.Listed.{map_one}
use Rattle.desk_questions.proofs.rule_rows.rule_rows.Goals as goal

pub loop-rule-preserved : goal.loop-rule-preserved
loop-rule-preserved c =
    let k = c.loop-rule.rule-index in
    let front = c.loop-rule.invariant in
    let row = c.in_ok-rule_object.field-0 in
    let one : seen row ≡ rule_row c.rule-item.result = c.in_ok-rule_object.ensures in
    ap (map seen) c.in_ok-push.ensures.items
    ∙ map-append seen c.loop-rule.rows.items (row ∷ [])
    ∙ (λ j. front j ++ one j ∷ [])
    ∙ map_one rule_row c.args.rules.now k c.rule-item.result (omega arith) c.rule-item.is

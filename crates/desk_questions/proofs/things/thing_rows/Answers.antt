use Rattle.std.proofs.Common.{◌≡◌, [], ◌∷◌, ◌++◌, ap, ◌∙◌, map, arith}
use Rattle.std.proofs.lemmas.List.{map-append}
use Rattle.told_objects.specs.Seen.{seen}
use Rattle.desk_questions.specs.Things.{thing_row}
use Rattle.desk_questions.proofs.Listed.{map_one}
use Rattle.desk_questions.proofs.things.thing_rows.Goals as goal

pub loop-name-preserved : goal.loop-name-preserved
loop-name-preserved c = λ h keeps.
    let k = c.loop-name.name-index in
    let front = c.loop-name.invariant h keeps in
    let row = c.in_ok-thing_row.field-0 in
    let one : seen row ≡ thing_row h c.args.of c.name-item.result = c.in_ok-thing_row.ensures h keeps in
    ap (map seen) c.in_ok-push.ensures.items
    ∙ map-append seen c.loop-name.rows.items (row ∷ [])
    ∙ (λ j. front j ++ one j ∷ [])
    ∙ map_one (thing_row h c.args.of) c.args.names.now k c.name-item.result (omega arith) c.name-item.is

use Rattle.std.proofs.Common.{◌≡◌, IfOk, codes, map, ap, ◌∙◌, subst}
use Rattle.serde_json.specs.Data.{Items, Members, array, put}
use Rattle.told_objects.specs.Members.{objects, answering, written}
use Rattle.told_objects.specs.Seen.{seen}
use Rattle.desk_questions.specs.declared.reached.ReachLine.{ReachLine}
use Rattle.desk_questions.specs.Reach.{reach_row, reached_in}
use Rattle.desk_questions.proofs.Listed.{objects_in}
use Rattle.desk_questions.proofs.reach.reach_object.Goals as goal

pub returns : goal.returns
returns c =
    let rows = c.args.rows.now in
    let told : seen c.in_ok-list.field-0 ≡ put (codes "rows") (array (objects reach_row (map reached_in rows))) (answering "reach") =
    c.in_ok-list.ensures
    ∙ ap (λ (m : Members). put (codes "rows") (array (objects (λ (line : ReachLine). reach_row (reached_in line)) rows)) m) c.in_ok-answering.ensures
    ∙ ap (λ (d : Items). put (codes "rows") (array d) (answering "reach")) (objects_in reach_row reached_in rows) in
    subst (λ (m : Members). IfOk c.written.result (λ bytes. bytes ≡ written m)) told c.written.ensures

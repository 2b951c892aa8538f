use Rattle.std.proofs.Common.{◌≡◌, IfOk, codes, map, ap, ◌∙◌, subst}
use Rattle.serde_json.specs.Data.{Items, array, put}
use Rattle.told_objects.specs.Members.{objects}
use Rattle.told_objects.specs.Seen.{seen}
use Rattle.desk_questions.specs.declared.reached.RefusalLine.{RefusalLine}
use Rattle.desk_questions.specs.Reach.{refusal_in, refusal_row}
use Rattle.desk_questions.proofs.Listed.{objects_in}
use Rattle.desk_questions.proofs.reached.refused.Goals as goal

pub returns : goal.returns
returns c =
    let rows = c.deref.result.now in
    let told : objects (λ (line : RefusalLine). refusal_row (refusal_in line)) rows ≡ objects refusal_row c.args.refusals.now =
    objects_in refusal_row refusal_in rows ∙ ap (objects refusal_row) (ap (map refusal_in) c.deref.ensures.value ∙ c.in_ok-rows.ensures) in
    subst (λ (d : Items). IfOk c.list.result (λ more. seen more ≡ put (codes "products") (array d) (seen c.args.told))) told c.list.ensures

use Rattle.std.proofs.Common.{◌++◌, ◌∷◌, [], Some, ap, sym, subst, ◌∙◌}
use Rattle.atomic_table.specs.Table.{opening}
use Rattle.room_lock.specs.Views.{blank}
use Rattle.room_lock.specs.Rules.{Since, Kept}
use Rattle.room_lock.proofs.Keeps.{opens}
use Rattle.room_lock.proofs.shared.Shared.new.Goals as goal

pub new-requires : goal.new-requires
new-requires g c =
    let stands = g.T.StandsFor.stands in
    let is = c.of-opening.ensures in
    let here = c.requires.stands in
    let one = c.push_reserved.ensures.items ∙ ap (λ xs. xs ++ Some c.args.first ∷ []) c.in-Ok.ensures.items in
    subst (λ xs. Kept (Since stands (stands c.of-opening.result.value)) (opening (0 ∷ 0 ∷ 0 ∷ []) xs blank)) (sym one)
    (opens (Since stands (stands c.of-opening.result.value)) c.args.first (record {
      all = λ b start. subst (λ room. stands room b) is start;
      witness = (here.0, subst (λ room. stands room here.0) (sym is) here.1);
    }))

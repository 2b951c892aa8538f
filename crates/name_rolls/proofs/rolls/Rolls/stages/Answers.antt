use Rattle.std.proofs.Common.{cond, Some, None, sym, ap, ◌∙◌}
use Rattle.std.specs.Option.{option_map, option_copied}
use Rattle.news_types.specs.Answers.{in_order}
use Rattle.news_types.proofs.Members.{none_some, some_is}
use Rattle.name_rolls.specs.Rolls.{names_in}
use Rattle.name_rolls.specs.Keeps.{stages_in}
use Rattle.name_rolls.proofs.rolls.Rolls.stages.Goals as goal

pub returns-in-Some : goal.returns-in-Some
returns-in-Some c h keeps is =
    let desk = c.args.desk.now in
    c.as_slice.ensures.value ∙ some_is _ _ (
    ap (option_map names_in) (sym (ap option_copied c.in-Some.is) ∙ c.get.ensures.value) ∙ keeps.stages_of desk
    ∙ ap (λ there. cond there (Some (in_order (stages_in h desk))) None) is
    )

pub returns-in-None : goal.returns-in-None
returns-in-None c h keeps is =
    let desk = c.args.desk.now in
    absurd (none_some _ (
    ap (option_map names_in) (sym (ap option_copied c.in-None.is) ∙ c.get.ensures.value) ∙ keeps.stages_of desk
    ∙ ap (λ there. cond there (Some (in_order (stages_in h desk))) None) is
    ))

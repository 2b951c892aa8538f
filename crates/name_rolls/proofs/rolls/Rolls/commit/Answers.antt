use Rattle.std.proofs.Common.{cond, Some, refl, sym, ap, ◌∙◌, subst}
use Rattle.std.specs.HashMap.{get}
use Rattle.news_types.specs.Names.{same}
use Rattle.news_types.specs.declared.entry.Act.TheVariants.{Request}
use Rattle.name_rolls.specs.declared.change.Step.{Step}
use Rattle.name_rolls.specs.Steps.{IsStep, Finds}
use Rattle.name_rolls.proofs.Kept.{kept_nothing, kept_name, kept_desk, kept_stage}
use Rattle.name_rolls.proofs.Added.{by_register}
use Rattle.std.proofs.lemmas.Bool.{false≢true}
use Rattle.desk_views.specs.declared.question.Register.TheVariants as register
use Rattle.name_rolls.proofs.rolls.Rolls.commit.Goals as goal

pub returns-in-Add : goal.returns-in-Add
returns-in-Add c h e caller number command keeps is act =
    let step = subst (λ (s : Step). IsStep s command) c.in-Add.is is.step in
    kept_name c.args.self.now c.put.new.self h e caller number command act keeps step.1 c.in-Add.added step.0 (c.put.ensures.one, c.put.ensures.others) c.put.ensures.stages

pub returns-in-AddDesk : goal.returns-in-AddDesk
returns-in-AddDesk c h e caller number command keeps is act =
    let step = subst (λ (s : Step). IsStep s command) c.in-AddDesk.is is.step in
    let put = c.put-in-AddDesk.ensures.others in
    kept_desk c.args.self.now _ h e caller number c.in-AddDesk.desk (act ∙ ap (Request caller number) step.0) keeps (subst (λ given. Finds given h) step.0 is.finds)
    c.in-AddDesk.stages step.1 (c.put-in-AddDesk.ensures.one, by_register _ (put register.Users) (λ isnt. absurd (false≢true (sym isnt))) (put register.Conditions) (put register.Filters) (put register.Products) (put register.Subscribers) (put register.Schemes) (put register.Providers))
    (λ other. c.put_stages.ensures other ∙ ap (λ stages. cond (same c.in-AddDesk.desk other) (Some c.in-AddDesk.stages) (get same stages other)) c.put-in-AddDesk.ensures.stages)

pub returns-in-AddStage : goal.returns-in-AddStage
returns-in-AddStage c h e caller number command keeps is act =
    let step = subst (λ (s : Step). IsStep s command) c.in-AddStage.is is.step in
    kept_stage c.args.self.now _ h e caller number c.in-AddStage.desk c.in-AddStage.stage (act ∙ ap (Request caller number) step) keeps (subst (λ given. Finds given h) step is.finds)
    (by_register _ refl refl refl refl refl refl refl refl) c.put_stage.ensures.one c.put_stage.ensures.others

pub returns-in-Nothing : goal.returns-in-Nothing
returns-in-Nothing c h e caller number command keeps is act =
    let step = subst (λ (s : Step). IsStep s command) c.in-Nothing.is is.step in
    kept_nothing c.args.self.now c.args.self.now h e caller number command act keeps step.1 refl step.0

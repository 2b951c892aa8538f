use Rattle.std.proofs.Common.{◌∙◌, refl, sym, ap, subst}
use Rattle.news_types.specs.Fits.{FitsStory}
use Rattle.package_rules.specs.declared.publish.Packaged.{Packaged}
use Rattle.package_rules.specs.Readers.{readers}
use Rattle.package_rules.specs.Publishing.{FlashStep, IsFlashed}
use Rattle.package_rules.proofs.Publishing.{not_empty, is_nothing, flash_happens, flash_step}
use Rattle.package_rules.proofs.publish.flash_package.Goals as goal

pub request-requires-clause-fits : goal.request-requires-clause-fits
request-requires-clause-fits g c = (subst FitsStory (sym (c.in-Ok-copy.ensures ∙ c.story.ensures.story)) c.story.ensures.fits, c.in-Ok.ensures.few)

pub returns-then-is_empty : goal.returns-then-is_empty
returns-then-is_empty g c = record {
  step = record {
    same = refl;
    none = λ b stands.
        sym (c.as_slice.ensures ∙ c.in-Ok.ensures.names b stands ∙ ap (readers b.list) c.members.ensures)
        ∙ is_nothing c.as_slice.result.now c.is_empty.result c.is_empty.ensures c.if-is_empty.true;
    front_is = λ b stands. c.front.ensures b stands;
  };
}

pub returns : goal.returns
returns g c =
    let keeper = g.K.Keeper.keeper in
    let old = c.args.room.now in
    let new = c.request.new.self in
    let p = c.args.package.now in
    let flashed : IsFlashed keeper old new c.args.now c.args.caller c.args.number p c.request.result = record {
      more = c.request.ensures.0;
      some = λ b stands none.
          not_empty c.as_slice.result.now c.is_empty.result c.is_empty.ensures c.if-is_empty.false
          (c.as_slice.ensures ∙ c.in-Ok.ensures.names b stands ∙ ap (readers b.list) c.members.ensures ∙ none);
      happens = λ b stands.
          flash_happens keeper old new c.args.now c.args.caller c.args.number p b c.request.ensures.0 c.request.result c.in-Ok-copy.story c.in-Ok.targets (c.in-Ok-copy.ensures ∙ c.story.ensures.story)
          (c.in-Ok.ensures.names b stands ∙ ap (readers b.list) c.members.ensures) (c.request.ensures.1 b stands);
    } in
    record {
      step = subst (FlashStep keeper old new c.args.now c.args.caller c.args.number p) (sym c.flashed.ensures) (flash_step keeper old new c.args.now c.args.caller c.args.number p c.request.result flashed);
    }

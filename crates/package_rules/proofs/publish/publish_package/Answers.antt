use Rattle.std.proofs.Common.{◌∙◌, sym, refl}
use Rattle.news_types.specs.Books.{onto}
use Rattle.package_rules.proofs.Publishing.{behind_passed, behind_stopped, none_done, if_done}
use Rattle.package_rules.proofs.publish.publish_package.Goals as goal

pub flash_package-requires : goal.flash_package-requires
flash_package-requires g c =
    let b = c.requires.stands.0 in
    record { stands = (onto c.tick.ensures.0 b, (c.tick.ensures.1 b c.requires.stands.1).stands) }

pub returns-in-Ok-clause-published : goal.returns-in-Ok-clause-published
returns-in-Ok-clause-published g c = record {
  mid = c.tick.new.self;
  ticked = c.tick.result;
  released = c.tick.ensures.0;
  tick = c.tick.ensures.1;
  rest = behind_passed g.K.Keeper.keeper c.tick.new.self c.flash_package.new.room c.args.now c.args.caller c.args.number c.args.package.now c.tick.result c.flash_package.result
      (sym c.passed.ensures ∙ c.in-Ok.is) c.flash_package.ensures.step;
}

pub returns-in-Ok-clause-done : goal.returns-in-Ok-clause-done
returns-in-Ok-clause-done g c =
    if_done g.K.Keeper.keeper c.args.room.now c.tick.new.self c.flash_package.new.room c.args.now c.args.caller c.args.number c.args.package.now c.tick.ensures.0
    (λ b stands. (c.tick.ensures.1 b stands).stands) c.flash_package.result c.flash_package.ensures.step

pub returns-in-Err-clause-published : goal.returns-in-Err-clause-published
returns-in-Err-clause-published g c = record {
  mid = c.tick.new.self;
  ticked = c.tick.result;
  released = c.tick.ensures.0;
  tick = c.tick.ensures.1;
  rest = behind_stopped g.K.Keeper.keeper c.tick.new.self c.tick.new.self c.args.now c.args.caller c.args.number c.args.package.now c.tick.result c.in-Err.stopped (sym c.passed.ensures ∙ c.in-Err.is) refl;
}

pub returns-in-Err-clause-done : goal.returns-in-Err-clause-done
returns-in-Err-clause-done g c = none_done g.K.Keeper.keeper c.args.room.now c.tick.new.self c.args.package.now c.tick.result c.in-Err.stopped (sym c.passed.ensures ∙ c.in-Err.is)

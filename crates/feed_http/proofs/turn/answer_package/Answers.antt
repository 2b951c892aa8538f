use Rattle.feed_http.proofs.Packages.{package_turn, unmade_turn}
use Rattle.feed_http.proofs.turn.answer_package.Goals as goal

pub described_package-requires-clause-fits : goal.described_package-requires-clause-fits
described_package-requires-clause-fits g c = c.requires.fits.0

pub described_package-requires-clause-make : goal.described_package-requires-clause-make
described_package-requires-clause-make g c = c.requires.fits.1

pub publish_package-requires : goal.publish_package-requires
publish_package-requires g c = record { stands = c.requires.stands }

pub returns-in-Ok : goal.returns-in-Ok
returns-in-Ok g c =
    package_turn g.K.Keeper.keeper c.args.caller c.args.number c.args.described c.args.now c.tell_packaged.result c.args.room.now c.publish_package.new.room c.in-Ok.made c.publish_package.result c.in-Ok.ensures c.publish_package.ensures.published c.tell_packaged.ensures

pub returns-in-Err : goal.returns-in-Err
returns-in-Err g c = unmade_turn g.K.Keeper.keeper c.args.caller c.args.number c.args.described c.args.now c.notify.result c.args.room.now c.notify.ensures

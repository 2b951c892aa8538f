use Rattle.desk_routes.proofs.ask.package_ask.Goals as goal

pub returns-in-Ok-clause-fits : goal.returns-in-Ok-clause-fits
returns-in-Ok-clause-fits c = (c.in-Ok.ensures.fits, c.in-Ok.ensures.made)

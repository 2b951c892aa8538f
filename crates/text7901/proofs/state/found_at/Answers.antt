use Rattle.text7901.proofs.Sizes.{incoming_fits}
use Rattle.text7901.proofs.state.found_at.Goals as goal

pub returns-in_ok-incoming_of-in-None-clause-fits : goal.returns-in_ok-incoming_of-in-None-clause-fits
returns-in_ok-incoming_of-in-None-clause-fits c =
    let e = c.in_ok-incoming_of-in-None.ensures in
    incoming_fits c.in_ok-incoming_of-in-None.field-0 c.args.message.now e.value e.size c.requires

use Rattle.std.proofs.Common.{sym, subst}
use Rattle.desk_routes.specs.Asking.{FitsAsk}
use Rattle.desk_routes.proofs.Receipts.{receipt_fits}
use Rattle.desk_routes.proofs.ask.receipt_ask.Goals as goal

pub returns-in-Ok-clause-fits : goal.returns-in-Ok-clause-fits
returns-in-Ok-clause-fits c =
    subst FitsAsk (sym c.of_line.ensures) (receipt_fits c.in_ok-subscriber.subscriber c.args.body.now c.in-Ok.asked c.in-Ok.ensures)

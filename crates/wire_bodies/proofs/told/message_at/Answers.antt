use Rattle.std.proofs.Common.{ℕ, List, Ok, subst}
use Rattle.agency_wires.specs.Reading.{told}
use Rattle.wire_bodies.specs.Bodies.{message_told, IsToldAt}
use Rattle.wire_bodies.proofs.Said.{told_message}
use Rattle.wire_bodies.proofs.told.message_at.Goals as goal

pub returns-in-Ok : goal.returns-in-Ok
returns-in-Ok c =
    subst (λ (bytes : List ℕ). IsToldAt (message_told c.args.at (told c.args.now bytes)) (Ok c.in-Ok.told)) c.as_slice.ensures
    (told_message c.args.at (told c.args.now c.as_slice.result.now) c.in-Ok.told c.in-Ok.ensures)

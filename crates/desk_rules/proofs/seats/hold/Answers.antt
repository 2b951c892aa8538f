use Rattle.std.proofs.Common.{◌-◌}
use Rattle.desk_rules.proofs.Spots.{set_changed, past_changed, numbered_changed}
use Rattle.desk_rules.proofs.seats.hold.Goals as goal

pub returns-in-Some : goal.returns-in-Some
returns-in-Some c =
    let h = c.in-Some.ensures.item in
    let seats = c.args.seats.now.items in
    numbered_changed c.args.item _ seats _ c.if-item-eq0.false (set_changed seats (c.args.item - 1) c.in-Some.seat.now _ h.3.0 h.3.1)

pub returns-in_default : goal.returns-in_default
returns-in_default c =
    let seats = c.args.seats.now.items in
    numbered_changed c.args.item _ seats _ c.if-item-eq0.false (past_changed seats (c.args.item - 1) _ c.in_default.ensures.item.3)

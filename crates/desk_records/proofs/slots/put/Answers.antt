use Rattle.desk_records.specs.Slots.{after_due}
use Rattle.desk_records.proofs.Lists.{set_changed, past_changed}
use Rattle.desk_records.proofs.slots.put.Goals as goal

pub returns-in-Some : goal.returns-in-Some
returns-in-Some c =
    let h = c.in-Some.ensures.item in
    rw c.due.ensures (set_changed c.args.slots.now.items c.args.place c.in-Some.slot.now (after_due c.args.release) h.3.0 h.3.1)

pub returns-in_default : goal.returns-in_default
returns-in_default c = past_changed c.args.slots.now.items c.args.place (after_due c.args.release) c.in_default.ensures.item.3

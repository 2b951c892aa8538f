use Rattle.std.proofs.Common.{◌<◌, length, get_or, ap, arith}
use Rattle.std.proofs.lemmas.List.Edits.{map_over_more}
use Rattle.std.proofs.lemmas.List.{get_or_default}
use Rattle.desk_records.specs.declared.slots.Slot.{Slot}
use Rattle.desk_records.specs.declared.slots.Slot.TheVariants.{NotDue}
use Rattle.desk_records.specs.Slots.{after_kill}
use Rattle.desk_records.proofs.slots.take_back.Goals as goal

pub loop-slot-preserved : goal.loop-slot-preserved
loop-slot-preserved c =
    let all = c.args.slots.now.items in
    let slots = c.loop-slot.slot-items in
    let i = c.loop-slot.slot-index in
    let slot : Slot = get_or slots i NotDue in
    let within : i < length slots = omega (arith, c.loop-slot-test.true, c.loop-slot.auto.slot-items) in
    let first : i < length all = omega (arith, c.loop-slot-test.true, ap length c.deref_mut-slot-items.ensures.value) in
    rw c.taken_back.ensures (map_over_more (after_kill c.args.moment) all slots i slot first c.loop-slot.invariant (get_or_default slots i NotDue slot within))

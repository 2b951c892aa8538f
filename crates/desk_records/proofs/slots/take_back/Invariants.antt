use Rattle.std.proofs.Common.{◌≡◌, ◌++◌, map, take, drop}
use Rattle.desk_records.specs.Slots.{after_kill}
use Rattle.desk_records.proofs.slots.take_back.Given as goal

-- those so far are changed
abbrev pub invariant-loop-slot : goal.invariant-loop-slot
invariant-loop-slot l = l.slot-items ≡ map (after_kill l.moment) (take l.slot-index l.fn.slots.items) ++ drop l.slot-index l.fn.slots.items

use Rattle.std.proofs.Common.{◌≡◌, take}
use Rattle.news_types.specs.History.{History}
use Rattle.room_standby.specs.Holds.{AreOf}
use Rattle.room_standby.proofs.opening.copies.Given as goal

-- the records so far are copied, and are those of a list
abbrev pub invariant-loop-here : goal.invariant-loop-here
invariant-loop-here l = record {
  same : l.copied.items ≡ take l.here-index l.records;
  list : (h : History) × AreOf (take l.here-index l.records) h;
}

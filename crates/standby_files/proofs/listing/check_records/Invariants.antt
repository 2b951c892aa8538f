use Rattle.std.proofs.Common.{take}
use Rattle.news_types.specs.History.{History}
use Rattle.room_standby.specs.Holds.{AreOf}
use Rattle.standby_files.proofs.listing.check_records.Given as goal

-- the records so far are those of a list
abbrev pub invariant-loop-here : goal.invariant-loop-here
invariant-loop-here l = (h : History) × AreOf (take l.here-index l.records) h

use Rattle.std.proofs.Common.{map, take}
use Rattle.news_types.specs.History.{History}
use Rattle.news_room.specs.Opening.{bytes_of, HasRead}
use Rattle.told_entries.specs.Entries.{audit}
use Rattle.list_runs.specs.Output.{IsTaken}
use Rattle.list_runs.proofs.audit.write_list.Given as goal

-- the newsroom stands for the list of the records so far, and the output took its lines
abbrev pub invariant-loop-here : goal.invariant-loop-here
invariant-loop-here g l = (h : History) × HasRead l.replay.machine (map bytes_of (take l.here-index l.records)) h × IsTaken g.O.Sink.sink (audit l.after h) l.fn.output l.output

use Rattle.std.proofs.Common.{◌≡◌, map, take}
use Rattle.newsroom.specs.Stands.{store_of}
use Rattle.news_types.specs.History.{History}
use Rattle.news_room.specs.Opening.{bytes_of, HasRead}
use Rattle.news_room.proofs.replay.Replay.of.Given as goal

-- the machine is that of the store, and stands for the list of the records so far
abbrev pub invariant-loop-here : goal.invariant-loop-here
invariant-loop-here l = (store_of l.replay.machine ≡ l.fn.store) × (h : History) × HasRead l.replay.machine (map bytes_of (take l.here-index l.records)) h

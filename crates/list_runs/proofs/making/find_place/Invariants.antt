use Rattle.std.proofs.Common.{◌<◌, length, map, take}
use Rattle.news_types.specs.History.{History}
use Rattle.news_types.specs.Publications.{pubs}
use Rattle.news_room.specs.Opening.{bytes_of, HasRead}
use Rattle.list_runs.proofs.making.find_place.Given as goal

-- the newsroom stands for the list of the records so far, which has fewer publications
abbrev pub invariant-loop-place : goal.invariant-loop-place
invariant-loop-place l = (h : History) × HasRead l.replay.machine (map bytes_of (take l.place l.records)) h × (length (pubs h) < l.publication)

use Rattle.std.proofs.Common.{◌≡◌, drop}
use Rattle.news_pair.specs.Damage.{difference}
use Rattle.news_pair.proofs.side_reading.difference.Given as goal

abbrev pub invariant-loop-place : goal.invariant-loop-place
invariant-loop-place l = difference 0 l.wanted l.bytes ≡ difference l.place (drop l.place l.wanted) (drop l.place l.bytes)

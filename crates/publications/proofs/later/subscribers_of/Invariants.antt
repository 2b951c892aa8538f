use Rattle.std.proofs.Common.{◌≡◌, ◌||◌, drop}
use Rattle.std.specs.HashSet.{contains}
use Rattle.news_types.specs.Names.{Bytes, same}
use Rattle.publications.specs.Later.{is_there}
use Rattle.publications.proofs.later.subscribers_of.Given as goal

abbrev pub invariant-loop-one : goal.invariant-loop-one
invariant-loop-one l = (s : Bytes) → (contains same l.known s || is_there s (drop l.one-index l.due)) ≡ is_there s l.due

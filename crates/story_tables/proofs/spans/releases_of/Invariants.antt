use Rattle.std.proofs.Common.{◌≡◌, drop}
use Rattle.std.specs.HashMap.{get}
use Rattle.std.specs.Option.{option_or}
use Rattle.news_types.specs.Names.{Bytes, same}
use Rattle.news_types.specs.Due.{release_to}
use Rattle.story_tables.proofs.spans.releases_of.Given as goal

-- the first for each of those so far is in the map, and the rest is left
abbrev pub invariant-loop-one : goal.invariant-loop-one
invariant-loop-one l = (s : Bytes) → option_or (get same l.releases s) (release_to s (drop l.one-index l.due)) ≡ release_to s l.due

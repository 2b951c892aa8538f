use Rattle.std.proofs.Common.{◌≡◌, map, take}
use Rattle.story_tables.specs.Feeds.{span_by}
use Rattle.story_tables.proofs.spans.spans_of.Given as goal

-- there is a span for each of those so far
abbrev pub invariant-loop-one : goal.invariant-loop-one
invariant-loop-one l = l.spans.items ≡ map (span_by l.newest) (take l.one-index l.soonest)

use Rattle.std.proofs.Common.{◌≡◌, ◌++◌, take, string_bytes}
use Rattle.std.specs.List.{flat_map}
use Rattle.server_metrics.specs.Feeds.{feed_family}
use Rattle.server_metrics.proofs.feeds.put_measures.Given as goal

abbrev pub invariant-loop-measure : goal.invariant-loop-measure
invariant-loop-measure l = string_bytes l.text ≡ string_bytes l.fn.text ++ flat_map (feed_family l.feeds) (take l.measure-index l.measures)

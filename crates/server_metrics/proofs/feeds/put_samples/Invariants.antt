use Rattle.std.proofs.Common.{◌≡◌, ◌++◌, take, string_bytes}
use Rattle.std.specs.List.{flat_map}
use Rattle.server_metrics.specs.Feeds.{feed_sample}
use Rattle.server_metrics.proofs.feeds.put_samples.Given as goal

abbrev pub invariant-loop-feed : goal.invariant-loop-feed
invariant-loop-feed l = string_bytes l.text ≡ string_bytes l.fn.text ++ flat_map (feed_sample l.measure) (take l.feed-index l.feeds)

use Rattle.std.proofs.Common.{◌≡◌, ◌++◌, take, string_bytes}
use Rattle.std.specs.List.{flat_map}
use Rattle.server_metrics.specs.Since.{ingest_sample}
use Rattle.server_metrics.proofs.since.put_ingest_samples.Given as goal

abbrev pub invariant-loop-counted : goal.invariant-loop-counted
invariant-loop-counted l = string_bytes l.text ≡ string_bytes l.fn.text ++ flat_map ingest_sample (take l.counted-index l.ingests)

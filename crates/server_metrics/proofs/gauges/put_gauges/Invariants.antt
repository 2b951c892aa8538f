use Rattle.std.proofs.Common.{◌≡◌, ◌++◌, take, string_bytes}
use Rattle.std.specs.List.{flat_map}
use Rattle.server_metrics.specs.Gauges.{gauge_text}
use Rattle.server_metrics.proofs.gauges.put_gauges.Given as goal

abbrev pub invariant-loop-gauge : goal.invariant-loop-gauge
invariant-loop-gauge l = string_bytes l.text ≡ string_bytes l.fn.text ++ flat_map gauge_text (take l.gauge-index l.gauges)

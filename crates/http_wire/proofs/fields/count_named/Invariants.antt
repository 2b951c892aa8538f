use Rattle.std.proofs.Common.{◌≡◌, ◌+◌, ◌≤◌, drop, map, length}
use Rattle.httparse.specs.Spans.{header_bytes}
use Rattle.http_wire.specs.Fields.{values}
use Rattle.http_wire.proofs.fields.count_named.Given as goal

abbrev pub invariant-loop-line : goal.invariant-loop-line
invariant-loop-line l =
    (l.count + length (values l.name (map (header_bytes l.bytes) (drop l.line-index l.lines))) ≡ length (values l.name (map (header_bytes l.bytes) l.lines))) × (l.count ≤ l.line-index)

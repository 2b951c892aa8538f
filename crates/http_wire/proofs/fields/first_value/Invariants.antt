use Rattle.std.proofs.Common.{◌≡◌, drop, map}
use Rattle.httparse.specs.Spans.{header_bytes}
use Rattle.http_wire.specs.Fields.{values}
use Rattle.http_wire.proofs.fields.first_value.Given as goal

abbrev pub invariant-loop-line : goal.invariant-loop-line
invariant-loop-line l = values l.name (map (header_bytes l.bytes) (drop l.line-index l.lines)) ≡ values l.name (map (header_bytes l.bytes) l.lines)

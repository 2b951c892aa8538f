use Rattle.std.proofs.Common.{◌≡◌, drop, map, codes}
use Rattle.httparse.specs.Spans.{header_bytes}
use Rattle.http_wire.specs.Fields.{values, says_close}
use Rattle.http_wire.proofs.fields.closes.Given as goal

abbrev pub invariant-loop-line : goal.invariant-loop-line
invariant-loop-line l =
    says_close (values (codes "connection") (map (header_bytes l.bytes) (drop l.line-index l.lines))) ≡ says_close (values (codes "connection") (map (header_bytes l.bytes) l.lines))

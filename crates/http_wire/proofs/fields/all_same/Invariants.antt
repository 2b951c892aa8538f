use Rattle.std.proofs.Common.{◌≡◌, drop, map}
use Rattle.std.specs.List.{list_all}
use Rattle.std.specs.Str.{bytes_eq}
use Rattle.httparse.specs.Spans.{header_bytes}
use Rattle.http_wire.specs.Fields.{values}
use Rattle.http_wire.proofs.fields.all_same.Given as goal

abbrev pub invariant-loop-line : goal.invariant-loop-line
invariant-loop-line l =
    list_all (bytes_eq l.value) (values l.name (map (header_bytes l.bytes) (drop l.line-index l.lines))) ≡ list_all (bytes_eq l.value) (values l.name (map (header_bytes l.bytes) l.lines))

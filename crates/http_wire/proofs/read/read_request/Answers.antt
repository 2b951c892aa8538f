use Rattle.std.proofs.Common.{◌++◌, List, ℕ, subst}
use Rattle.http_wire.specs.Wires.{IsWire, stop_wire}
use Rattle.http_wire.specs.declared.request.Wire.TheVariants.{Request}
use Rattle.http_wire.proofs.read.read_request.Goals as goal
use Rattle.http_wire.proofs.read.read_request.Goals.{in-Ok, in-Err}

pub returns-clause-wire : goal.returns-clause-wire
returns-clause-wire g c tells =
    let left = c.read_next.new.bytes.items ++ g.S.Source.source.ahead c.read_next.new.source in
    elim c.match-read_next.branch [
      | in-Ok w ↦ rw w.result-is (subst (λ (bytes : List ℕ). IsWire (bytes ++ g.S.Source.source.ahead c.args.source.now) left (Request w.in-Ok.request)) c.buffer.view_is (w.in-Ok.ensures.wire tells))
      | in-Err w ↦ rw (w.result-is, w.wire_of.ensures) (subst (λ (bytes : List ℕ). IsWire (bytes ++ g.S.Source.source.ahead c.args.source.now) left (stop_wire w.in-Err.stop)) c.buffer.view_is (w.in-Err.ensures.wire tells))
    ]
